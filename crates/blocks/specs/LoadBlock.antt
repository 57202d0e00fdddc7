-- Load block: its refusals in the order of RULES.md (The order of tests), its answer, the words that it leaves, and the contract
-- that says so. Assumes nothing.
use Rattle.std.specs.Prelude.{◌≡◌, Bool, List, ◌++◌, ℕ, ℤ, Option, Result}
use Rattle.std.proofs.Common.{sym, ◌∙◌}
use Rattle.refusals.specs.declared.Refusal.{Refusal}
use Rattle.laws.specs.First.{first, unless, kept_or}
use Rattle.versions.specs.declared.VersionRecord.{VersionRecord}
use Rattle.blocks_words.specs.Longs.{block_slots}
use Rattle.blocks_loads.specs.LoadedSlots.{slot_block_wrong, loaded_to}
use Rattle.blocks.specs.BlockTests.{block_tests, end_tests}

-- Load block: 1, 2, 7, 5, 14, 15, 16
abbrev pub load_block_tests : List ℤ → VersionRecord → ℕ → List ℕ → List (Bool × Refusal)
load_block_tests t v k block = block_tests t v k ++ end_tests block (slot_block_wrong t v k block)

unfoldable pub load_block_refusal : List ℤ → VersionRecord → ℕ → List ℕ → Option Refusal
load_block_refusal t v k block = first (load_block_tests t v k block)

unfoldable pub load_block_answer : List ℤ → VersionRecord → ℕ → List ℕ → Result Unit Refusal
load_block_answer t v k block = unless (load_block_refusal t v k block) tt

-- load block writes its slots only
unfoldable pub load_block_words : List ℤ → VersionRecord → ℕ → List ℕ → List ℤ
load_block_words t v k block = kept_or (load_block_refusal t v k block) t (loaded_to t k block block_slots)

-- the contract, and that it allows one outcome
pub record LoadBlockContract (t : List ℤ) (v : VersionRecord) (k : ℕ) (block : List ℕ) (r : Result Unit Refusal) (t' : List ℤ) : Type 0 where
  pub answer : r ≡ load_block_answer t v k block
  pub words : t' ≡ load_block_words t v k block

pub one_outcome : {t : List ℤ} {v : VersionRecord} {k : ℕ} {block : List ℕ} {r r' : Result Unit Refusal} {u u' : List ℤ}
    → LoadBlockContract t v k block r u → LoadBlockContract t v k block r' u' → (r ≡ r') × (u ≡ u')
one_outcome x y = (x.answer ∙ sym y.answer, x.words ∙ sym y.words)
