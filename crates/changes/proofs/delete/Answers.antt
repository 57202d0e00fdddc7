-- `changes::delete`: what the tests before it refuse, it refuses. Assumes nothing.
use Rattle.std.proofs.lemmas.Result.{err_from_is_err_and}
use Rattle.changes_rows.specs.LeavesLaws.{refused}
use Rattle.changes.specs.RunningLaws.{running_stops}
use Rattle.changes.specs.Delete.{delete_refusal}
use Rattle.changes.specs.PlacedLaws.{delete_leaves}
use Rattle.changes.proofs.delete.Goals as goal

pub returns-in_err-test_running : goal.returns-in_err-test_running
unfolding delete_refusal
returns-in_err-test_running c =
    let returned = err_from_is_err_and c.from_residual.result c.from_residual.ensures.1 in
    rw (returned.1, returned.2) (delete_leaves (refused (running_stops _ _ _ c.in_err-test_running.ensures)))
