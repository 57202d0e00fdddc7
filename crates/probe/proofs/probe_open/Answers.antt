-- `probe::probe_open`: the numbers are those of the call's answer, at the record that the words stand for. Assumes nothing.
use Rattle.std.proofs.Common.{ap, ◌∙◌}
use Rattle.calls.specs.Numbers.{of_numbered}
use Rattle.probe.specs.AnswerLaws.{numbered_padded}
use Rattle.probe.specs.Probed.{padded, out_after}
use Rattle.probe.proofs.probe_open.Goals as goal

pub returns : goal.returns
unfolding out_after
returns c =
    let answer = rw c.version_of.ensures at c.open.ensures.answer in
    c.put_answer.ensures ∙ numbered_padded _ ∙ ap (λ r. padded (of_numbered r)) answer
