-- `steps_lines::Progress::end_line`: what is answered is what is kept, which tells what the line asks (`stands_ended`). Assumes nothing.
use Rattle.steps_lines.specs.StandingLaws.{stands_ended}
use Rattle.steps_lines.proofs.Progress.end_line.Goals as goal

pub returns-clause-stands_for : goal.returns-clause-stands_for
returns-clause-stands_for c = λ s w. stands_ended w c.requires.room_for_a_line (rw c.as_slice.ensures at c.answer-self.ensures) c.clear.ensures
