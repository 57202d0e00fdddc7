-- `table_walks::is_broken_at`: its operation word says which of the two tests the slot at the place can pass. Assumes nothing.
use Rattle.std.proofs.Common.{arith}
use Rattle.laws.specs.Bits.{plain}
use Rattle.table.specs.SlotLaws.{slot_from_lem}
use Rattle.table_forms.specs.FormedLaws.{formed_used, formed_unused}
use Rattle.table_walks.proofs.is_broken_at.Goals as goal

pub used_well_at-requires-clause-used : goal.used_well_at-requires-clause-used
used_well_at-requires-clause-used c = grind (arith, plain, slot_from_lem)

pub returns-then-operation : goal.returns-then-operation
returns-then-operation c = grind (arith, plain, slot_from_lem, formed_used)

pub returns : goal.returns
returns c = grind (arith, plain, slot_from_lem, formed_unused)
