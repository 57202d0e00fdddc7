-- `changes_roll_back::test_all`: what the tests before it refuse, it refuses. Assumes nothing.
use Rattle.std.proofs.lemmas.Result.{err_from_is_err_and}
use Rattle.laws.specs.FirstLaws.{unless_refused}
use Rattle.changes.specs.RunningLaws.{running_stops}
use Rattle.changes_roll_back.specs.RollBack.{roll_back_refusal}
use Rattle.changes_roll_back.proofs.test_all.Goals as goal

pub returns-in_err-test_running : goal.returns-in_err-test_running
unfolding roll_back_refusal
returns-in_err-test_running c =
    let returned = err_from_is_err_and c.from_residual.result c.from_residual.ensures.1 in
    rw (returned.1, returned.2) (unless_refused tt (running_stops _ _ _ c.in_err-test_running.ensures))
