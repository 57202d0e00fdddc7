-- Delete, from its key's slot on: the tests of that slot, and what it leaves. Assumes nothing.
use Rattle.std.specs.Prelude.{Bool, not, List, [], ◌∷◌, ℕ, ℤ, Result}
use Rattle.refusals.specs.declared.Refusal.{Refusal}
use Rattle.refusals.specs.declared.Refusal.TheVariants as refusal
use Rattle.laws.specs.First.{first}
use Rattle.versions.specs.declared.VersionRecord.{VersionRecord}
use Rattle.versions.specs.Record.{run_number}
use Rattle.table_keys.specs.Keys.{key_slot, key_live, keyed}
use Rattle.table_forms.specs.Formed.{broken}
use Rattle.changes_cells.specs.Tables.{deleted}
use Rattle.changes_rows.specs.ChangeLeaves.{Leaves}

-- 11: key not live (deleted or absent)
abbrev pub not_live : List ℤ → ℤ → ℤ → Bool
not_live t key1 key2 = not (key_live t key1 key2)

-- 6, 11: a delete ends with these
abbrev pub delete_row_tests : List ℤ → VersionRecord → ℤ → ℤ → List (Bool × Refusal)
delete_row_tests t v key1 key2 = (broken (keyed t key1 key2) v, refusal.BrokenSlot) ∷ (not_live t key1 key2, refusal.KeyNotLive) ∷ []

-- what it leaves past the tests before these
pub record RowDeleted (t : List ℤ) (v : VersionRecord) (key1 key2 : ℤ) (r : Result ℕ Refusal) (t' : List ℤ) : Type 0 where
  pub leaves : Leaves (first (delete_row_tests t v key1 key2)) t (key_slot t key1 key2) (deleted (run_number v) (keyed t key1 key2) key1 key2) r t'
