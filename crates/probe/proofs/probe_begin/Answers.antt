-- `probe::probe_begin`: the numbers are those of the call's answer, at the record that the words stand for; what it leaves is what the call
-- leaves. Assumes nothing.
use Rattle.std.proofs.Common.{ap, ◌∙◌}
use Rattle.calls.specs.Numbers.{of_numbered}
use Rattle.probe.specs.AnswerLaws.{numbered_padded}
use Rattle.probe.specs.Probed.{padded, out_after, record_after}
use Rattle.probe.proofs.probe_begin.Goals as goal

pub returns-clause-out_after : goal.returns-clause-out_after
unfolding out_after
returns-clause-out_after c =
    let answer = rw c.version_of.ensures at c.begun-turned.ensures.answer in
    c.put_answer.ensures ∙ numbered_padded _ ∙ ap (λ r. padded (of_numbered r)) answer

pub returns-clause-record_words_after : goal.returns-clause-record_words_after
unfolding record_after
returns-clause-record_words_after c = rw (c.keep_record.ensures, c.begun-turned.ensures.versions, c.version_of.ensures)
