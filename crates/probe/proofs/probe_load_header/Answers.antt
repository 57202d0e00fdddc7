-- `probe::probe_load_header`: the numbers are those of the call's answer. Assumes nothing.
use Rattle.std.proofs.Common.{ap, ◌∙◌}
use Rattle.calls.specs.Numbers.{of_header}
use Rattle.probe.specs.AnswerLaws.{header_padded}
use Rattle.probe.specs.Probed.{padded, out_after}
use Rattle.probe.proofs.probe_load_header.Goals as goal

pub returns : goal.returns
unfolding out_after
returns c =
    let answer = c.load_header.ensures.answer in
    c.put_answer.ensures ∙ header_padded _ ∙ ap (λ r. padded (of_header r)) answer
