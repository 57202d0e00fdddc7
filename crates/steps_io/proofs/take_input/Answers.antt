-- `steps_io::take_input`: before the loop no byte is handed on (`carried_none`), and a turn carries the session on over the bytes
-- that it takes, of which there is at least one (`carried_on`). Assumes nothing.
use Rattle.std.proofs.Common.{[], ◌++◌, take, refl, rules}
use borrow.Author.Rules.{part_to_end}
use Rattle.steps_io.specs.CarriedLaws.{carried_none, taken_and_written, carried_on, front_of, part_over}
use Rattle.steps_io.specs.StreamLaws.{none_written, replies_out, written_on}
use Rattle.steps_io.proofs.take_input.Goals as goal

pub loop-rest-init : goal.loop-rest-init
loop-rest-init g c = record { front = []; whole = refl; room = c.requires.room; ready = c.requires.ready; carried = carried_none _ c.requires.ready; written = none_written _ c.requires.ready }

pub returns-in_err-write_replies-clause-front : goal.returns-in_err-write_replies-clause-front
returns-in_err-write_replies-clause-front g c =
    let part = take c.take_bytes-count.result c.loop-rest.rest.now in
    let turn = taken_and_written part c.take_bytes-count.ensures.stands_for (c.write_replies.ensures.carried _) in
    let whole = part_over c.args.input.now c.loop-rest.invariant.front c.loop-rest.rest.now c.take_bytes-count.result c.loop-rest.invariant.whole in
    let front = front_of _ _ whole (carried_on c.loop-rest.invariant.front part c.loop-rest.invariant.carried turn) in
    search rules

pub loop-rest-preserved : goal.loop-rest-preserved
loop-rest-preserved g c =
    let part = take c.take_bytes-count.result c.loop-rest.rest.now in
    let turn = taken_and_written part c.take_bytes-count.ensures.stands_for (c.write_replies.ensures.carried _) in
    record {
      front = c.loop-rest.invariant.front ++ part;
      whole = rw part_to_end (part_over _ _ c.loop-rest.rest.now c.take_bytes-count.result c.loop-rest.invariant.whole);
      room = search rules;
      ready = c.write_replies.ensures.ready;
      carried = carried_on c.loop-rest.invariant.front part c.loop-rest.invariant.carried turn;
      written = written_on c.loop-rest.invariant.front part c.loop-rest.invariant.carried c.loop-rest.invariant.written
          (replies_out c.take_bytes-count.ensures.stands_for (rw c.in_ok-write_replies.was at c.write_replies.ensures.written));
    }
