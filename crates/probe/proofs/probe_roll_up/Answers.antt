-- `probe::probe_roll_up`: the numbers are those of the call's answer, at the record that the words stand for. Assumes nothing.
use Rattle.std.proofs.Common.{rules, ◌≡◌, ap, ◌∙◌}
use Rattle.reads_roll_up.specs.RollUp.{roll_up_answer}
use Rattle.calls.specs.Numbers.{of_rolled}
use Rattle.probe.specs.AnswerLaws.{rolled_padded}
use Rattle.probe.specs.Probed.{version_of, padded, out_after}
use Rattle.probe.proofs.probe_roll_up.Goals as goal

pub returns : goal.returns
unfolding out_after
returns c =
    let answer : c.roll_up.result ≡ roll_up_answer c.args.table.now (version_of c.args.record_words.now) c.args.session c.args.key1 = search (rules, c.roll_up.ensures.answer, c.version_of.ensures) in
    c.put_answer.ensures ∙ rolled_padded _ ∙ ap (λ r. padded (of_rolled r)) answer
