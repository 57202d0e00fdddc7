-- The numbers that a change may answer: a slot that a table can have, or a refusal. Assumes nothing.
use Rattle.std.specs.Prelude.{ℕ, ◌<◌, Result, Ok, Err}
use Rattle.refusals.specs.declared.Refusal.{Refusal}
use Rattle.table.specs.Slots.{most_slots}

pub data Numbers : Result ℕ Refusal → Type 0 where
  slot : {k : ℕ} → k < most_slots → Numbers (Ok k)
  refusal : {e : Refusal} → Numbers (Err e)
