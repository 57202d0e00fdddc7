-- `blocks::made_block`: the refusal of the tests before 6 (`stop`), or past them (`pass`) what is handed out of its slots.
-- Assumes nothing.
use Rattle.std.proofs.lemmas.Result.{err_from_is_err_and}
use Rattle.refusals.specs.declared.Refusal.TheVariants as refusal
use Rattle.laws.specs.FirstLaws.{none, pass, stop, unless_refused}
use Rattle.blocks.specs.BlockTests.{block_tests}
use Rattle.blocks.specs.FrontLaws.{within, given, not_given}
use Rattle.blocks.specs.SaveBlock.{save_block_refusal, saved_block}
use Rattle.blocks.proofs.made_block.Goals as goal

pub returns-in_err-test_block : goal.returns-in_err-test_block
unfolding save_block_refusal
returns-in_err-test_block c =
    let p = err_from_is_err_and c.from_residual.result c.from_residual.ensures.1 in
    rw (p.1, p.2) (unless_refused _ (stop (block_tests _ _ c.args.number) _ _ (given _ c.test_block.ensures c.in_err-test_block.was)))

pub save_slots-requires-clause-within : goal.save_slots-requires-clause-within
save_slots-requires-clause-within c = within _ _ _ (not_given _ c.test_block.ensures c.in_ok-test_block.was)

pub save_slots-requires-clause-lawful_record : goal.save_slots-requires-clause-lawful_record
save_slots-requires-clause-lawful_record c =
    none (block_tests _ _ c.args.number) (not_given _ c.test_block.ensures c.in_ok-test_block.was) refusal.BadRecord

pub returns : goal.returns
unfolding save_block_refusal saved_block
returns c = rw (pass (block_tests _ _ c.args.number) _ (not_given _ c.test_block.ensures c.in_ok-test_block.was)) c.save_slots.ensures
