-- `steps_io::answer_all`: the fresh session stands at first, and is carried over all reads and then over the last line
-- (`all_carried`), and what is answered to it is written (`all_answered`). That it is fresh is asked of the record as the reads find
-- it. Assumes nothing.
use Rattle.std.proofs.Common.{rules}
use Rattle.steps_io.specs.CarriedLaws.{all_carried}
use Rattle.steps_io.specs.StreamLaws.{all_answered}
use Rattle.steps_io.proofs.answer_all.Goals as goal

pub returns-clause-carried : goal.returns-clause-carried
returns-clause-carried g c =
    let fresh = c.fresh-progress.ensures.stands_for c.args.table.now _ in
    all_carried (record { words = fresh.words; versions = (search rules); line = fresh.line; output = fresh.output })
    c.take_all-all.ensures.carried c.take_last.ensures.carried

pub returns-clause-answered : goal.returns-clause-answered
returns-clause-answered g c =
    let fresh = c.fresh-progress.ensures.stands_for c.args.table.now _ in
    all_answered _ _ _ _ _ c.take_all-all.result c.take_last.result
    (record { words = fresh.words; versions = (search rules); line = fresh.line; output = fresh.output })
    c.take_all-all.ensures.streamed c.take_last.ensures.carried c.take_last.ensures.all_taken c.take_last.ensures.written
