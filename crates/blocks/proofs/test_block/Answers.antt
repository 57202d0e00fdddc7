-- `blocks::test_block`: the refusal of the tests before (`stop`), or past them (`pass`) test 5. Assumes nothing.
use Rattle.std.proofs.Common.{refl, sym, ◌∙◌}
use Rattle.std.proofs.lemmas.Result.{err_from_is_err_and}
use Rattle.laws.specs.FirstLaws.{hit, skip, done, pass, stop, unless_refused, unless-done}
use Rattle.blocks.specs.BlockTests.{idle_tests}
use Rattle.blocks.specs.FrontLaws.{given, not_given}
use Rattle.blocks.proofs.test_block.Goals as goal

pub returns-in_err-test_idle : goal.returns-in_err-test_idle
returns-in_err-test_idle c =
    let p = err_from_is_err_and c.from_residual.result c.from_residual.ensures.1 in
    rw (p.1, p.2) (unless_refused _ (stop (idle_tests _ _) _ _ (given _ c.test_idle.ensures c.in_err-test_idle.was)))

pub returns-then-no_such_block : goal.returns-then-no_such_block
returns-then-no_such_block c =
    unless_refused _ (pass (idle_tests _ _) _ (not_given _ c.test_idle.ensures c.in_ok-test_idle.was) ∙ hit _ (sym c.if-no_such_block.ensures))

pub returns : goal.returns
returns c =
    unless-done (pass (idle_tests _ _) _ (not_given _ c.test_idle.ensures c.in_ok-test_idle.was) ∙ skip _ _ (sym c.if-no_such_block.ensures) ∙ done) refl
