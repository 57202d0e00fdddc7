-- `steps_lines::Progress::take_bytes`: the loop's invariant is that every session that stood stands where the bytes so far have led
-- it, with room for a line before the first, so that it is taken. Assumes nothing.
use Rattle.std.proofs.Common.{◌≡◌, ◌+◌, ◌≤◌, length, take}
use Rattle.steps_replies.specs.Written.{longest_line}
use Rattle.steps_lines.specs.LineSessions.{LineSession, after_bytes}
use Rattle.steps_lines.specs.Standing.{StandsFor}
use Rattle.steps_lines.proofs.Progress.take_bytes.Given as goal

abbrev pub invariant-loop-taken : goal.invariant-loop-taken
invariant-loop-taken l = record {
  room : l.taken ≡ 0 → l.self.place + longest_line ≤ length l.buffer;
  sound : l.self.place ≤ length l.buffer;
  stands : (s : LineSession) → StandsFor s l.fn.table l.fn.buffer l.fn.self → StandsFor (after_bytes s (take l.taken l.input)) l.table l.buffer l.self;
}
