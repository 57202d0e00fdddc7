-- `versions_runs::open`: `bad_record` asks the one test of the definition's list, and past it the answer is current. Assumes nothing.
use Rattle.std.proofs.Common.{rules, sym, ap, ◌∙◌, w64, SFits, Ok}
use Rattle.laws.specs.FirstLaws.{hit, skip, done, unless_refused, unless-done}
use Rattle.laws.specs.Bits.{plain}
use Rattle.versions_runs.specs.Runs.{open_refusal, open_answer}
use Rattle.versions_runs.proofs.open.Goals as goal

pub returns-then-bad_record : goal.returns-then-bad_record
unfolding open_refusal open_answer
returns-then-bad_record c = record { answer = unless_refused _ (hit _ (sym c.bad_record.ensures ∙ c.if-bad_record.true)) }

pub returns : goal.returns
unfolding open_refusal open_answer
returns c =
    let current : SFits w64 c.args.versions.current = search rules in
    record { answer = unless-done (skip _ _ (sym c.bad_record.ensures ∙ c.if-bad_record.false) ∙ done) (ap Ok (plain _ current)) }
