-- Save header: its refusals in the order of RULES.md (The order of tests), the block that it hands out, and the contract that
-- says so. Assumes nothing.
use Rattle.std.specs.Prelude.{◌≡◌, Bool, List, ℕ, ℤ, nat_abs, Option}
use Rattle.std.proofs.Common.{sym, ◌∙◌}
use Rattle.refusals.specs.declared.Refusal.{Refusal}
use Rattle.laws.specs.First.{first, unless, kept_or}
use Rattle.versions.specs.declared.VersionRecord.{VersionRecord}
use Rattle.table.specs.Slots.{slots}
use Rattle.blocks_words.specs.Words.{block_of, zero_block}
use Rattle.blocks_headers.specs.HeaderFields.{header_words}
use Rattle.blocks.specs.declared.saved.Saved.{Saved}
use Rattle.blocks.specs.BlockTests.{idle_tests}

-- Save header: 1, 2, 7
abbrev pub save_header_tests : List ℤ → VersionRecord → List (Bool × Refusal)
save_header_tests t v = idle_tests t v

unfoldable pub save_header_refusal : List ℤ → VersionRecord → Option Refusal
save_header_refusal t v = first (save_header_tests t v)

-- the header of the table's slots, the current version and the oldest open one
unfoldable pub saved_header : List ℤ → VersionRecord → List ℕ
saved_header t v = block_of (header_words (slots t) (nat_abs v.current) (nat_abs v.oldest))

-- what is handed out, zeros where it is refused
unfoldable pub save_header_block : List ℤ → VersionRecord → List ℕ
save_header_block t v = kept_or (save_header_refusal t v) zero_block (saved_header t v)

-- the contract, and that it allows one outcome
pub record SaveHeaderContract (t : List ℤ) (v : VersionRecord) (r : Saved) : Type 0 where
  pub answer : r.answer ≡ unless (save_header_refusal t v) tt
  pub block : r.block ≡ save_header_block t v

pub one_outcome : {t : List ℤ} {v : VersionRecord} {r r' : Saved} → SaveHeaderContract t v r → SaveHeaderContract t v r' → (r.answer ≡ r'.answer) × (r.block ≡ r'.block)
one_outcome a b = (a.answer ∙ sym b.answer, a.block ∙ sym b.block)
