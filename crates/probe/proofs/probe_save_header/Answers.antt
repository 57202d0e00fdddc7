-- `probe::probe_save_header`: the numbers are those of the call's answer, at the record that the words stand for; what it leaves is what
-- the call leaves. Assumes nothing.
use Rattle.std.proofs.Common.{ap, ◌∙◌}
use Rattle.calls.specs.Numbers.{of_done}
use Rattle.probe.specs.AnswerLaws.{done_padded}
use Rattle.probe.specs.Probed.{padded, out_after, block_after}
use Rattle.probe.proofs.probe_save_header.Goals as goal

pub returns-clause-out_after : goal.returns-clause-out_after
unfolding out_after
returns-clause-out_after c =
    let answer = rw c.version_of.ensures at c.save_header-saved.ensures.answer in
    c.put_answer.ensures ∙ done_padded _ ∙ ap (λ r. padded (of_done r)) answer

pub returns-clause-block_after : goal.returns-clause-block_after
unfolding block_after
returns-clause-block_after c = rw c.version_of.ensures at c.save_header-saved.ensures.block
