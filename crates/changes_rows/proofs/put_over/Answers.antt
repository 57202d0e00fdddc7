-- `changes_rows::put_over`: the one test is the definition's, and so is the table that it picks. Assumes nothing.
use Rattle.std.proofs.Common.{sym, ◌∙◌}
use Rattle.laws.specs.Bits.{plain}
use Rattle.changes_rows.proofs.put_over.Goals as goal

pub returns-then-is_live : goal.returns-then-is_live
returns-then-is_live c = rw (sym c.is_live.ensures ∙ c.if-is_live.true) (rw (plain _ c.ranges.run) at c.change.ensures)

pub returns : goal.returns
returns c = rw (sym c.is_live.ensures ∙ c.if-is_live.false) (rw (plain _ c.ranges.run) at c.change-2.ensures)
