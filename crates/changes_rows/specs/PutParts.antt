-- A put in the two parts that the code has: of a key that has a slot, and of one that has none. Assumes nothing.
use Rattle.std.specs.Prelude.{Bool, not, List, [], ◌∷◌, ℕ, ℤ, ltb, Result}
use Rattle.refusals.specs.declared.Refusal.{Refusal}
use Rattle.refusals.specs.declared.Refusal.TheVariants as refusal
use Rattle.laws.specs.First.{first}
use Rattle.versions.specs.declared.VersionRecord.{VersionRecord}
use Rattle.versions.specs.Record.{run_number}
use Rattle.table.specs.declared.Slot.{Slot}
use Rattle.table.specs.Slots.{slots, slot_at}
use Rattle.table_free.specs.Free.{free_slot}
use Rattle.table_forms.specs.Formed.{broken}
use Rattle.changes_cells.specs.declared.Given.{Given}
use Rattle.changes_cells.specs.Tables.{put_over}
use Rattle.changes_rows.specs.ChangeLeaves.{Leaves}

-- 6, of the slot that the key has
abbrev pub found_tests : List ℤ → VersionRecord → ℕ → List (Bool × Refusal)
found_tests t v k = (broken (slot_at t k) v, refusal.BrokenSlot) ∷ []

-- 12, where it has none
abbrev pub new_tests : List ℤ → VersionRecord → List (Bool × Refusal)
new_tests t v = (not (ltb (free_slot t v) (slots t)), refusal.TableFull) ∷ []

-- what is left past those tests: the place k is written with what a put leaves of the slot x
pub record PutAt (t : List ℤ) (v : VersionRecord) (tests : List (Bool × Refusal)) (k : ℕ) (x : Slot) (g : Given) (r : Result ℕ Refusal) (t' : List ℤ) : Type 0 where
  pub leaves : Leaves (first tests) t k (put_over (run_number v) x g.key1 g.key2 g.total1 g.total2) r t'
