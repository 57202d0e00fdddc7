-- Save block: its refusals in the order of RULES.md (The order of tests), the block that it hands out, and the contract that says
-- so. Assumes nothing.
use Rattle.std.specs.Prelude.{◌≡◌, Bool, List, ◌++◌, ℕ, ℤ, Option}
use Rattle.std.proofs.Common.{sym, ◌∙◌}
use Rattle.refusals.specs.declared.Refusal.{Refusal}
use Rattle.laws.specs.First.{first, unless, kept_or}
use Rattle.versions.specs.declared.VersionRecord.{VersionRecord}
use Rattle.blocks_words.specs.Words.{block_of, zero_block}
use Rattle.blocks_saves.specs.SlotBlocks.{slot_block_words, slot_tests}
use Rattle.blocks.specs.declared.saved.Saved.{Saved}
use Rattle.blocks.specs.BlockTests.{block_tests}

-- Save block: 1, 2, 7, 5, 6 (its slots)
abbrev pub save_block_tests : List ℤ → VersionRecord → ℕ → List (Bool × Refusal)
save_block_tests t v k = block_tests t v k ++ slot_tests t v k

unfoldable pub save_block_refusal : List ℤ → VersionRecord → ℕ → Option Refusal
save_block_refusal t v k = first (save_block_tests t v k)

-- the block of seven slots of the table
unfoldable pub saved_block : List ℤ → ℕ → List ℕ
saved_block t k = block_of (slot_block_words t k)

-- what is handed out, zeros where it is refused
unfoldable pub save_block_block : List ℤ → VersionRecord → ℕ → List ℕ
save_block_block t v k = kept_or (save_block_refusal t v k) zero_block (saved_block t k)

-- the contract, and that it allows one outcome
pub record SaveBlockContract (t : List ℤ) (v : VersionRecord) (k : ℕ) (r : Saved) : Type 0 where
  pub answer : r.answer ≡ unless (save_block_refusal t v k) tt
  pub block : r.block ≡ save_block_block t v k

pub one_outcome : {t : List ℤ} {v : VersionRecord} {k : ℕ} {r r' : Saved} → SaveBlockContract t v k r → SaveBlockContract t v k r' → (r.answer ≡ r'.answer) × (r.block ≡ r'.block)
one_outcome a b = (a.answer ∙ sym b.answer, a.block ∙ sym b.block)
