-- `changes_cells::change`: the cell looked up is the definition's, and `write_cell` leaves of the slot what that cell says. Assumes
-- nothing.
use Rattle.std.proofs.Common.{rules, w64, SFits}
use Rattle.laws.specs.Bits.{plain}
use Rattle.changes_cells.specs.Tables.{changed}
use Rattle.changes_cells.proofs.change.Goals as goal

pub returns : goal.returns
unfolding changed
returns c =
    let run : SFits w64 c.args.x.run = search rules in
    simp (c.write_cell.ensures, c.cell-cell.ensures, c.column_of.ensures, plain _ run, plain _ c.ranges.run)
