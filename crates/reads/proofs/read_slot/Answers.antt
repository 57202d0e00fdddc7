-- `reads::read_slot`: where a test of the session refuses, the whole list does. Assumes nothing.
use Rattle.std.proofs.lemmas.Result.{err_from_is_err_and}
use Rattle.laws.specs.Bits.{plain}
use Rattle.laws.specs.FirstLaws.{unless_refused}
use Rattle.reads.specs.OpenLaws.{session_stops, answered_err}
use Rattle.reads.specs.ReadSlot.{read_slot_refusal, read_slot_answer}
use Rattle.reads.proofs.read_slot.Goals as goal

pub returns-in_err-test_session : goal.returns-in_err-test_session
unfolding read_slot_refusal read_slot_answer
returns-in_err-test_session c =
    let told = rw (plain _ c.ranges.session) at c.test_session.ensures in
    let p = err_from_is_err_and c.from_residual.result c.from_residual.ensures.1 in
    rw (p.1, p.2) (record { answer = unless_refused _ (session_stops _ _ _ _ (answered_err told c.in_err-test_session.was)) })
