-- What a change leaves of the table: a refusal and the table as it was, or the number of the slot that was written and the table
-- with it. Assumes nothing.
use Rattle.std.specs.Prelude.{◌≡◌, List, ℕ, ℤ, Option, Result}
use Rattle.refusals.specs.declared.Refusal.{Refusal}
use Rattle.laws.specs.First.{unless, kept_or}
use Rattle.table.specs.declared.Slot.{Slot}
use Rattle.table.specs.Slots.{put_slot}

-- of the table t, a change that is refused, or writes the slot y at the place k
pub record Leaves (e : Option Refusal) (t : List ℤ) (k : ℕ) (y : Slot) (r : Result ℕ Refusal) (t' : List ℤ) : Type 0 where
  pub answer : r ≡ unless e k
  pub words : t' ≡ kept_or e t (put_slot t k y)
