-- Put: its refusals in the order of RULES.md (The order of tests), its answer, the words that it leaves, and the contract that
-- says so. Assumes nothing.
use Rattle.std.specs.Prelude.{◌≡◌, Bool, List, ◌∷◌, ◌++◌, ℕ, ℤ, Option, Result}
use Rattle.std.proofs.Common.{sym, ◌∙◌}
use Rattle.refusals.specs.declared.Refusal.{Refusal}
use Rattle.refusals.specs.declared.Refusal.TheVariants as refusal
use Rattle.laws.specs.First.{first, unless, kept_or}
use Rattle.versions.specs.declared.VersionRecord.{VersionRecord}
use Rattle.versions.specs.Record.{run_number}
use Rattle.table.specs.Slots.{put_slot}
use Rattle.table_forms.specs.Totals.{unlawful}
use Rattle.table_keys.specs.Keys.{keyed}
use Rattle.changes_cells.specs.Tables.{put_over}
use Rattle.changes_rows.specs.PutRow.{slot_to_take, put_row_tests}
use Rattle.changes.specs.ChangeTests.{running_tests}

-- Put: 1, 2, 8, 13, 6, 12
abbrev pub put_tests : List ℤ → VersionRecord → ℤ → ℤ → ℤ → ℤ → List (Bool × Refusal)
put_tests t v key1 key2 total1 total2 = running_tests t v ++ (unlawful total1 total2, refusal.BadTotal) ∷ put_row_tests t v key1 key2

unfoldable pub put_refusal : List ℤ → VersionRecord → ℤ → ℤ → ℤ → ℤ → Option Refusal
put_refusal t v key1 key2 total1 total2 = first (put_tests t v key1 key2 total1 total2)

-- an accepted change answers its slot number
unfoldable pub put_answer : List ℤ → VersionRecord → ℤ → ℤ → ℤ → ℤ → Result ℕ Refusal
put_answer t v key1 key2 total1 total2 = unless (put_refusal t v key1 key2 total1 total2) (slot_to_take t v key1 key2)

-- every other slot stays
unfoldable pub put_words : List ℤ → VersionRecord → ℤ → ℤ → ℤ → ℤ → List ℤ
put_words t v key1 key2 total1 total2 =
    kept_or (put_refusal t v key1 key2 total1 total2) t
    (put_slot t (slot_to_take t v key1 key2) (put_over (run_number v) (keyed t key1 key2) key1 key2 total1 total2))

-- the contract, and that it allows one outcome
pub record PutContract (t : List ℤ) (v : VersionRecord) (key1 key2 total1 total2 : ℤ) (r : Result ℕ Refusal) (t' : List ℤ) : Type 0 where
  pub answer : r ≡ put_answer t v key1 key2 total1 total2
  pub words : t' ≡ put_words t v key1 key2 total1 total2

pub one_outcome : {t : List ℤ} {v : VersionRecord} {key1 key2 a b : ℤ} {r r' : Result ℕ Refusal} {u u' : List ℤ}
    → PutContract t v key1 key2 a b r u → PutContract t v key1 key2 a b r' u' → (r ≡ r') × (u ≡ u')
one_outcome x y = (x.answer ∙ sym y.answer, x.words ∙ sym y.words)
