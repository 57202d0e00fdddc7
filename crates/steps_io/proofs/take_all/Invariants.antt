-- `steps_io::take_all`: the loop's invariant is that no reply waits, and that a session that stood stands where the bytes of the
-- reads so far have led it, with what was answered to them written. Assumes nothing.
use Rattle.std.proofs.Common.{◌≡◌, ◌≤◌, length}
use Rattle.steps_replies.specs.Written.{longest_line}
use Rattle.steps_io.specs.Carried.{CarriedSome}
use Rattle.steps_io.specs.Streams.{Streamed}
use Rattle.steps_io.proofs.take_all.Given as goal

abbrev pub invariant-loop : goal.invariant-loop
invariant-loop g l = record {
  room : longest_line ≤ length l.buffer;
  ready : l.progress.place ≡ 0;
  carried : CarriedSome l.fn.table l.fn.buffer l.fn.progress l.table l.buffer l.progress;
  streamed : Streamed l.fn.table l.fn.buffer l.fn.progress (g.R.Read.remaining l.fn.source) (g.W.Write.contents l.fn.sink)
      l.table l.buffer l.progress (g.R.Read.remaining l.source) (g.W.Write.contents l.sink);
}
