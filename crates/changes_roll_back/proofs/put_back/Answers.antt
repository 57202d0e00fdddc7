-- `changes_roll_back::put_back`: the tables on the way have the shape of the first (`back_shape`). The slot at k is still as it was
-- (`back-next`), so that putting it back is the definition's next step. Assumes nothing.
use Rattle.std.proofs.Common.{ap, ◌∙◌, add-one}
use Rattle.table.specs.Slots.{bad_table}
use Rattle.changes_roll_back.specs.RollBackLaws.{back_shape, back-next}
use Rattle.changes_roll_back.proofs.put_back.Goals as goal

pub put_slot_back-requires-clause-lawful_table : goal.put_slot_back-requires-clause-lawful_table
put_slot_back-requires-clause-lawful_table c = ap bad_table c.loop-k.invariant.put ∙ back_shape _ _ _ ∙ c.requires.lawful_table

pub loop-k-preserved : goal.loop-k-preserved
loop-k-preserved c =
    let next = back-next c.args.table.now c.args.versions c.loop-k.k c.loop-k.invariant.put c.put_slot_back.ensures in
    record { put = rw add-one next }
