-- `steps_io::take_input`: the loop's invariant is that the bytes before `rest` are handed on, and a session that stood stands
-- where they led it, with no reply that waits and all of them written. The measure is how many are left. Assumes nothing.
use Rattle.std.proofs.Common.{◌≡◌, ◌≤◌, List, ◌++◌, ℕ, length}
use Rattle.steps_replies.specs.Written.{longest_line}
use Rattle.steps_io.specs.Carried.{Carried}
use Rattle.steps_io.specs.Streams.{Written}
use Rattle.steps_io.proofs.take_input.Given as goal

abbrev pub invariant-loop-rest : goal.invariant-loop-rest
invariant-loop-rest g l = record {
  front : List ℕ;
  whole : l.input ≡ front ++ l.rest;
  room : longest_line ≤ length l.buffer;
  ready : l.progress.place ≡ 0;
  carried : Carried l.fn.table l.fn.buffer l.fn.progress front l.table l.buffer l.progress;
  written : Written l.fn.table l.fn.buffer l.fn.progress (g.W.Write.contents l.fn.sink) front (g.W.Write.contents l.sink);
}

abbrev pub decreases-loop-rest : goal.decreases-loop-rest
decreases-loop-rest g l = length l.rest
