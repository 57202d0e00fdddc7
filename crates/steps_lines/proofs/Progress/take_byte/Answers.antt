-- `steps_lines::Progress::take_byte`: after a newline the session is the one whose line has ended (`at_newline`), and after any other
-- byte the one whose line has it too (`at_other`), which is kept (`stands_longer`), or past what tells (`stands_full`).
-- Assumes nothing.
use Rattle.std.proofs.Common.{◌≡◌, ◌<◌, length, eq-eqb, ne_eqb, arith}
use Rattle.std.proofs.lemmas.Grind.{common_steps}
use Rattle.steps_lines.specs.LineSessionLaws.{at_newline, at_other}
use Rattle.steps_lines.specs.Standing.{line_bytes}
use Rattle.steps_lines.specs.StandingLaws.{stands_longer, stands_full}
use Rattle.steps_lines.proofs.Progress.take_byte.Goals as goal

pub returns-then-byte-eq-NEWLINE-clause-stands_for : goal.returns-then-byte-eq-NEWLINE-clause-stands_for
returns-then-byte-eq-NEWLINE-clause-stands_for c = λ s w. rw (at_newline s _ (eq-eqb _ _ c.if-byte-eq-NEWLINE.true)) (c.end_line.ensures.stands_for s w)

pub returns-then-not-is_full-clause-stands_for : goal.returns-then-not-is_full-clause-stands_for
returns-then-not-is_full-clause-stands_for c =
    let below : length c.args.self.now.line.items < line_bytes = grind (arith, common_steps) in
    λ s w. rw (at_other s _ (ne_eqb _ _ c.if-byte-eq-NEWLINE.false)) (stands_longer w _ _ below c.push.ensures)

pub returns-else-not-is_full-clause-stands_for : goal.returns-else-not-is_full-clause-stands_for
returns-else-not-is_full-clause-stands_for c =
    let full : length c.args.self.now.line.items ≡ line_bytes = grind (arith, common_steps) in
    λ s w. rw (at_other s _ (ne_eqb _ _ c.if-byte-eq-NEWLINE.false)) (stands_full w _ full)
