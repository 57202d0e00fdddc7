-- `blocks_loads::load_slots`: the invariant is that the table is that of the slots written so far, of which the block is still one.
-- Assumes nothing.
use Rattle.std.proofs.Common.{◌≡◌}
use Rattle.blocks_loads.specs.LoadedSlots.{Within, loaded_to}
use Rattle.blocks_loads.proofs.load_slots.Given as goal

abbrev pub invariant-loop-j : goal.invariant-loop-j
invariant-loop-j l = Within l.table l.number × (l.table ≡ loaded_to l.fn.table l.number l.block l.j)
