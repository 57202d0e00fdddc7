-- `probe::probe_put`: the numbers are those of the call's answer, at the record that the words stand for; what it leaves is what the call
-- leaves. Assumes nothing.
use Rattle.std.proofs.Common.{rules, ◌≡◌, ap, ◌∙◌}
use Rattle.changes.specs.Places.{put_numbers}
use Rattle.changes.specs.Put.{put_answer}
use Rattle.calls.specs.Numbers.{of_placed}
use Rattle.probe.specs.AnswerLaws.{placed_padded, numbers_fit}
use Rattle.probe.specs.Probed.{version_of, padded, out_after, table_after}
use Rattle.probe.proofs.probe_put.Goals as goal

pub put_answer-requires : goal.put_answer-requires
put_answer-requires c = rw c.put.ensures.answer (numbers_fit (put_numbers _ _ _ _ _ _))

pub returns-clause-out_after : goal.returns-clause-out_after
unfolding out_after
returns-clause-out_after c =
    let answer : c.put.result ≡ put_answer c.args.table.now (version_of c.args.record_words.now) c.args.key1 c.args.key2 c.args.total1 c.args.total2 = search (rules, c.put.ensures.answer, c.version_of.ensures) in
    c.put_answer.ensures ∙ placed_padded _ ∙ ap (λ r. padded (of_placed r)) answer

pub returns-clause-table_after : goal.returns-clause-table_after
unfolding table_after
returns-clause-table_after c = search (rules, c.put.ensures.words, c.version_of.ensures)
