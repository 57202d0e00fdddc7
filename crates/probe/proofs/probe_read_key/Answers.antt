-- `probe::probe_read_key`: the numbers are those of the call's answer, at the record that the words stand for. Assumes nothing.
use Rattle.std.proofs.Common.{rules, ◌≡◌, ap, ◌∙◌}
use Rattle.reads.specs.ReadKey.{read_key_answer}
use Rattle.calls.specs.Numbers.{of_seen}
use Rattle.probe.specs.AnswerLaws.{seen_padded}
use Rattle.probe.specs.Probed.{version_of, padded, out_after}
use Rattle.probe.proofs.probe_read_key.Goals as goal

pub returns : goal.returns
unfolding out_after
returns c =
    let answer : c.read_key.result ≡ read_key_answer c.args.table.now (version_of c.args.record_words.now) c.args.session c.args.key1 c.args.key2 = search (rules, c.read_key.ensures.answer, c.version_of.ensures) in
    c.put_answer.ensures ∙ seen_padded _ ∙ ap (λ r. padded (of_seen r)) answer
