-- `steps_lines::Progress::end_last`: a line has a byte exactly if something is kept of it, so the session's last line is ended
-- (`stands_last`), or there is none (`stands_none`). Assumes nothing.
use Rattle.std.proofs.Common.{◌≡◌, ◌<◌, length, arith}
use Rattle.std.proofs.lemmas.Grind.{common_steps}
use Rattle.steps_lines.specs.StandingLaws.{stands_last, stands_none}
use Rattle.steps_lines.proofs.Progress.end_last.Goals as goal

pub returns-then-not-is_empty-clause-stands_for : goal.returns-then-not-is_empty-clause-stands_for
returns-then-not-is_empty-clause-stands_for c =
    let some : 0 < length c.args.self.now.line.items = grind (arith, common_steps) in
    λ s w. rw (stands_last w some) (c.end_line.ensures.stands_for s w)

pub returns-else-not-is_empty-clause-stands_for : goal.returns-else-not-is_empty-clause-stands_for
returns-else-not-is_empty-clause-stands_for c =
    let none : length c.args.self.now.line.items ≡ 0 = grind (arith, common_steps) in
    λ s w. rw (stands_none w none) w
