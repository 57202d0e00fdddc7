-- `changes_roll_back::put_back`: the first k slots are put back. Assumes nothing.
use Rattle.std.proofs.Common.{◌≡◌}
use Rattle.changes_roll_back.specs.RollBack.{slots_back}
use Rattle.changes_roll_back.proofs.put_back.Given as goal

abbrev pub invariant-loop-k : goal.invariant-loop-k
invariant-loop-k l = record { put : l.table ≡ slots_back l.fn.table l.fn.versions l.k }
