-- Delete: its refusals in the order of RULES.md (The order of tests), its answer, the words that it leaves, and the contract that
-- says so. Assumes nothing.
use Rattle.std.specs.Prelude.{◌≡◌, Bool, List, ◌++◌, ℕ, ℤ, Option, Result}
use Rattle.std.proofs.Common.{sym, ◌∙◌}
use Rattle.refusals.specs.declared.Refusal.{Refusal}
use Rattle.laws.specs.First.{first, unless, kept_or}
use Rattle.versions.specs.declared.VersionRecord.{VersionRecord}
use Rattle.versions.specs.Record.{run_number}
use Rattle.table.specs.Slots.{put_slot}
use Rattle.table_keys.specs.Keys.{key_slot, keyed}
use Rattle.changes_cells.specs.Tables.{deleted}
use Rattle.changes.specs.ChangeTests.{running_tests}
use Rattle.changes_rows.specs.DeleteRow.{delete_row_tests}

-- Delete: 1, 2, 8, 6, 11
abbrev pub delete_tests : List ℤ → VersionRecord → ℤ → ℤ → List (Bool × Refusal)
delete_tests t v key1 key2 = running_tests t v ++ delete_row_tests t v key1 key2

unfoldable pub delete_refusal : List ℤ → VersionRecord → ℤ → ℤ → Option Refusal
delete_refusal t v key1 key2 = first (delete_tests t v key1 key2)

-- an accepted change answers its slot number
unfoldable pub delete_answer : List ℤ → VersionRecord → ℤ → ℤ → Result ℕ Refusal
delete_answer t v key1 key2 = unless (delete_refusal t v key1 key2) (key_slot t key1 key2)

-- every other slot stays
unfoldable pub delete_words : List ℤ → VersionRecord → ℤ → ℤ → List ℤ
delete_words t v key1 key2 =
    kept_or (delete_refusal t v key1 key2) t
    (put_slot t (key_slot t key1 key2) (deleted (run_number v) (keyed t key1 key2) key1 key2))

-- the contract, and that it allows one outcome
pub record DeleteContract (t : List ℤ) (v : VersionRecord) (key1 key2 : ℤ) (r : Result ℕ Refusal) (t' : List ℤ) : Type 0 where
  pub answer : r ≡ delete_answer t v key1 key2
  pub words : t' ≡ delete_words t v key1 key2

pub one_outcome : {t : List ℤ} {v : VersionRecord} {key1 key2 : ℤ} {r r' : Result ℕ Refusal} {u u' : List ℤ}
    → DeleteContract t v key1 key2 r u → DeleteContract t v key1 key2 r' u' → (r ≡ r') × (u ≡ u')
one_outcome x y = (x.answer ∙ sym y.answer, x.words ∙ sym y.words)
