-- `table_free::free_slot`. The invariant: the groups that were passed have no free slot. Assumes nothing.
use Rattle.std.proofs.Common.{◌*◌}
use Rattle.table_free.specs.declared.TheConstants.{GROUP}
use Rattle.table_free.specs.FreeSearch.{Taken}
use Rattle.table_free.proofs.free_slot.Given as goal

abbrev pub invariant-loop-group : goal.invariant-loop-group
invariant-loop-group l = Taken l.table l.versions (GROUP * l.group)
