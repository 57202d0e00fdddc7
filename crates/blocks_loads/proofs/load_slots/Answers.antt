-- `blocks_loads::load_slots`: one slot more is written (`loaded_more`) and keeps the table's length, so that the block is still one of
-- it (`within_same`). Assumes nothing.
use Rattle.blocks_loads.specs.LoadedLaws.{loaded_more, within_same}
use Rattle.blocks_loads.proofs.load_slots.Goals as goal

pub loop-j-preserved : goal.loop-j-preserved
loop-j-preserved c = (
  within_same _ _ _ c.load_slot.auto.table c.loop-j.invariant.0,
  loaded_more _ _ _ c.loop-j.j c.loop-j.invariant.1 c.load_slot.ensures,
)
