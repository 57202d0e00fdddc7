-- `table::slot_at`: past the end the slot is empty (`slot_at-past`). Assumes nothing.
use Rattle.std.proofs.Common.{sym, ◌∙◌}
use Rattle.table.specs.SlotLaws.{slot_at-past}
use Rattle.table.proofs.slot_at.Goals as goal

pub returns-else-k-slots_of : goal.returns-else-k-slots_of
returns-else-k-slots_of c = c.empty_slot.ensures ∙ sym (slot_at-past _ _ c.requires (rw c.slots_of.ensures at c.if-k-slots_of.false))
