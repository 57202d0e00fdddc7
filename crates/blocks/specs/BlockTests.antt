-- The tests of saves and loads, in the parts that a function of the code answers for: a list of tests is made of these, and each
-- test stands once. Assumes nothing.
use Rattle.std.specs.Prelude.{Bool, List, [], ◌∷◌, ◌++◌, ℕ, ℤ}
use Rattle.refusals.specs.declared.Refusal.{Refusal}
use Rattle.refusals.specs.declared.Refusal.TheVariants as refusal
use Rattle.versions.specs.declared.VersionRecord.{VersionRecord}
use Rattle.versions.specs.Record.{bad_record}
use Rattle.table.specs.Slots.{bad_table}
use Rattle.blocks_saves.specs.SlotBlocks.{no_such_block}
use Rattle.blocks_words.specs.Words.{not_block, check_wrong}

-- 1, 2, 7: a save begins with these
abbrev pub idle_tests : List ℤ → VersionRecord → List (Bool × Refusal)
idle_tests t v = (bad_table t, refusal.BadTable) ∷ (bad_record v, refusal.BadRecord) ∷ (v.active, refusal.RunActive) ∷ []

-- 1, 2, 7, 5: one of a block of slots, and its load, begin with these
abbrev pub block_tests : List ℤ → VersionRecord → ℕ → List (Bool × Refusal)
block_tests t v k = idle_tests t v ++ (no_such_block t k, refusal.NoSuchPlace) ∷ []

-- 14, 15: a load goes on with these, of the block itself
abbrev pub byte_tests : List ℕ → List (Bool × Refusal)
byte_tests block = (not_block block, refusal.NotBlock) ∷ (check_wrong block, refusal.WrongCheck) ∷ []

-- 14, 15, 16: and ends with 16, that the words of its block are wrong
abbrev pub end_tests : List ℕ → Bool → List (Bool × Refusal)
end_tests block wrong = byte_tests block ++ (wrong, refusal.BadField) ∷ []
