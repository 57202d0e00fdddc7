-- Put, from its key's slot on: the tests of that slot, the slot that it takes, and what it leaves. Assumes nothing.
use Rattle.std.specs.Prelude.{Bool, cond, not, List, [], ◌∷◌, ℕ, ℤ, ltb, Result}
use Rattle.refusals.specs.declared.Refusal.{Refusal}
use Rattle.refusals.specs.declared.Refusal.TheVariants as refusal
use Rattle.laws.specs.First.{first}
use Rattle.versions.specs.declared.VersionRecord.{VersionRecord}
use Rattle.versions.specs.Record.{run_number}
use Rattle.table.specs.Slots.{slots}
use Rattle.table_keys.specs.Keys.{key_slot, keyed}
use Rattle.table_free.specs.Free.{free_slot}
use Rattle.table_forms.specs.Formed.{broken}
use Rattle.changes_cells.specs.Tables.{put_over}
use Rattle.changes_rows.specs.ChangeLeaves.{Leaves}

-- the slot that is written: the key's; where the key has none, the lowest that is all zeros, or is well formed and deleted
-- by an older run
abbrev pub slot_to_take : List ℤ → VersionRecord → ℤ → ℤ → ℕ
slot_to_take t v key1 key2 = cond (ltb (key_slot t key1 key2) (slots t)) (key_slot t key1 key2) (free_slot t v)

-- 12: no slot to take
abbrev pub no_slot : List ℤ → VersionRecord → ℤ → ℤ → Bool
no_slot t v key1 key2 = not (ltb (slot_to_take t v key1 key2) (slots t))

-- 6, 12: a put ends with these
abbrev pub put_row_tests : List ℤ → VersionRecord → ℤ → ℤ → List (Bool × Refusal)
put_row_tests t v key1 key2 = (broken (keyed t key1 key2) v, refusal.BrokenSlot) ∷ (no_slot t v key1 key2, refusal.TableFull) ∷ []

-- what it leaves past the tests before these
pub record RowPut (t : List ℤ) (v : VersionRecord) (key1 key2 total1 total2 : ℤ) (r : Result ℕ Refusal) (t' : List ℤ) : Type 0 where
  pub leaves : Leaves (first (put_row_tests t v key1 key2)) t (slot_to_take t v key1 key2) (put_over (run_number v) (keyed t key1 key2) key1 key2 total1 total2) r t'
