-- Block k from 1: which blocks a table has, the words of a saved one, and which slots it does not save. RULES.md,
-- Blocks. Assumes nothing.
use Rattle.std.specs.Prelude.{Bool, not, ◌&&◌, List, [], ◌∷◌, ◌++◌, ℕ, zero, suc, ◌+◌, leb, ℤ, replicate}
use Rattle.refusals.specs.declared.Refusal.{Refusal}
use Rattle.refusals.specs.declared.Refusal.TheVariants as refusal
use Rattle.laws.specs.Lowest.{some}
use Rattle.versions.specs.declared.VersionRecord.{VersionRecord}
use Rattle.table.specs.Slots.{words_of, slot_at}
use Rattle.table_forms.specs.Formed.{broken}
use Rattle.blocks_words.specs.Longs.{block_slots, halves_of}
use Rattle.blocks_loads.specs.LoadedSlots.{blocks, first_slot, slot_filler_words}

-- 5: block number not in 1 to slots / 7 rounded up
abbrev pub no_such_block : List ℤ → ℕ → Bool
no_such_block t k = not (leb 1 k && leb k (blocks t))

-- the words of so many slots from a place; slots beyond the table are zero
abbrev pub slots_from : List ℤ → ℕ → ℕ → List ℕ
slots_from t from zero = []
slots_from t from (suc n) = halves_of (words_of (slot_at t from)) ++ slots_from t (suc from) n

-- word 0 is k; words 1 to 112 hold seven slots; words 113 to 126 are zero
unfoldable pub slot_block_words : List ℤ → ℕ → List ℕ
slot_block_words t k = k ∷ slots_from t (first_slot k) block_slots ++ replicate slot_filler_words 0

-- 6 (its slots): one of them is not well formed
unfoldable pub block_broken : List ℤ → VersionRecord → ℕ → Bool
block_broken t v k = some (λ j. broken (slot_at t (first_slot k + j)) v) block_slots

-- 6: a save of a block of slots ends with this
abbrev pub slot_tests : List ℤ → VersionRecord → ℕ → List (Bool × Refusal)
slot_tests t v k = (block_broken t v k, refusal.BrokenSlot) ∷ []
