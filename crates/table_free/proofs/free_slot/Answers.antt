-- `table_free::free_slot`: a group is passed since its four slots are live or since none of them is free, and what the searches one by
-- one find is the lowest of all. Assumes nothing.
use Rattle.std.proofs.Common.{arith}
use Rattle.laws.specs.LowestLaws.{found_later, passed_all}
use Rattle.table_free.specs.Free.{free_slot}
use Rattle.table_free.specs.FreeLaws.{past_live}
use Rattle.table_free.proofs.free_slot.Goals as goal
use Rattle.table_free.proofs.free_slot.Goals.{then-not-four_live+in_default, else-not-four_live}

pub returns-in-Some : goal.returns-in-Some
unfolding free_slot
returns-in-Some c = found_later _ _ (omega arith) c.free_from-found.ensures (cc)

pub loop-group-preserved : goal.loop-group-preserved
loop-group-preserved c =
    let taken = c.loop-group.invariant in
    elim c.if-not-four_live.branch [
      | then-not-four_live+in_default w ↦ λ j h. passed_all _ _ w.free_from-found.ensures (cc) j (omega arith)
      | else-not-four_live w ↦ λ j h. past_live _ _ (c.four_live.ensures w.if-not-four_live.false) (λ i l. taken i (omega arith)) j (omega arith)
    ]
