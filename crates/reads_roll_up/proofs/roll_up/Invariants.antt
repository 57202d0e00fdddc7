-- `reads_roll_up::roll_up`: the tally is that of the first k slots, each well formed. Assumes nothing.
use Rattle.std.proofs.Common.{◌≡◌, true, ℕ, ◌<◌}
use Rattle.table.specs.Slots.{slot_at}
use Rattle.table_forms.specs.Formed.{well_formed}
use Rattle.reads_roll_up.specs.RollUp.{tally, seen}
use Rattle.reads_roll_up.proofs.roll_up.Given as goal

abbrev pub invariant-loop-k : goal.invariant-loop-k
invariant-loop-k l =
    (l.tally ≡ tally l.key1 (seen l.table l.session l.k)) × ((j : ℕ) → j < l.k → well_formed (slot_at l.table j) l.versions ≡ true)
