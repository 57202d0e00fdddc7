-- `table_walks::used_well_at`: its three tests are those of the definition that its operation leaves to be asked, each of words of the
-- table, which are the slot's (`slot_from_lem`); the words fit, so bits are numbers. Assumes nothing.
use Rattle.std.proofs.Common.{arith}
use Rattle.laws.specs.Bits.{plain, eq_bits}
use Rattle.table.specs.SlotLaws.{slot_from_lem}
use Rattle.table_forms.specs.FormedLaws.{used_no_run, used_with_old, used_totals}
use Rattle.table_walks.proofs.used_well_at.Goals as goal

pub returns-then-not-run-last : goal.returns-then-not-run-last
returns-then-not-run-last c = grind (arith, plain, slot_from_lem, used_no_run)

pub returns-then-not-operation-old1 : goal.returns-then-not-operation-old1
returns-then-not-operation-old1 c = grind (arith, plain, eq_bits, slot_from_lem, used_with_old)

pub returns : goal.returns
returns c = grind (arith, plain, eq_bits, slot_from_lem, used_totals)
