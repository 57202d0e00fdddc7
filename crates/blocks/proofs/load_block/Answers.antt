-- `blocks::load_block`: each return is that of the tests before 14, and behind them of its length, its check and its words
-- (`EndLaws`). The table is lent to be written only past 16. Assumes nothing.
use Rattle.std.proofs.Common.{refl, sym, ap, ◌∙◌}
use Rattle.std.proofs.lemmas.Result.{err_from_is_err_and}
use Rattle.refusals.specs.declared.Refusal.TheVariants as refusal
use Rattle.laws.specs.FirstLaws.{none, stop}
use Rattle.blocks_words.specs.Longs.{block_slots}
use Rattle.blocks_loads.specs.LoadedSlots.{slot_block_wrong, loaded_to}
use Rattle.blocks.specs.BlockTests.{block_tests}
use Rattle.blocks.specs.FrontLaws.{within, given, not_given}
use Rattle.blocks.specs.LoadBlock.{load_block_refusal}
use Rattle.blocks.proofs.EndLaws.{end_stops, end_16, end_passes, load_block_end}
use Rattle.blocks.specs.ContractLaws.{block_not_loaded, block_loaded}
use Rattle.blocks.proofs.load_block.Goals as goal

pub returns-in_err-test_block : goal.returns-in_err-test_block
unfolding load_block_refusal
returns-in_err-test_block c =
    let p = err_from_is_err_and c.from_residual.result c.from_residual.ensures.1 in
    rw (p.1, p.2) (block_not_loaded (stop (block_tests _ _ c.args.number) _ _ (given _ c.test_block.ensures c.in_err-test_block.was)) refl)

pub returns-in_err-block : goal.returns-in_err-block
returns-in_err-block c =
    let a = c.args in
    let p = err_from_is_err_and c.from_residual-in_err-block.result c.from_residual-in_err-block.ensures.1 in
    rw (p.1, p.2)
    (block_not_loaded
    (load_block_end _ _ _ _ (not_given _ c.test_block.ensures c.in_ok-test_block.was)
    ∙ end_stops a.block.now (slot_block_wrong a.table.now a.versions a.number a.block.now) c.in_err-block.ensures)
    refl)

pub slot_block_wrong-requires-clause-within : goal.slot_block_wrong-requires-clause-within
slot_block_wrong-requires-clause-within c = within _ _ _ (not_given _ c.test_block.ensures c.in_ok-test_block.was)

pub slot_block_wrong-requires-clause-lawful_record :
    goal.slot_block_wrong-requires-clause-lawful_record
slot_block_wrong-requires-clause-lawful_record c =
    none (block_tests _ _ c.args.number) (not_given _ c.test_block.ensures c.in_ok-test_block.was) refusal.BadRecord

pub returns-then-slot_block_wrong : goal.returns-then-slot_block_wrong
returns-then-slot_block_wrong c =
    let a = c.args in
    let whole = c.in_ok-block.ensures in
    block_not_loaded
    (load_block_end _ _ _ _ (not_given _ c.test_block.ensures c.in_ok-test_block.was)
    ∙ end_16 a.block.now _ whole.1 (sym (ap (slot_block_wrong a.table.now a.versions a.number) whole.0) ∙ sym c.if-slot_block_wrong.ensures))
    refl

pub load_slots-requires : goal.load_slots-requires
load_slots-requires c = within _ _ _ (not_given _ c.test_block.ensures c.in_ok-test_block.was)

pub returns : goal.returns
returns c =
    let a = c.args in
    let whole = c.in_ok-block.ensures in
    block_loaded
    (load_block_end _ _ _ _ (not_given _ c.test_block.ensures c.in_ok-test_block.was)
    ∙ end_passes a.block.now _ whole.1 (sym (ap (slot_block_wrong a.table.now a.versions a.number) whole.0) ∙ sym c.if-slot_block_wrong.ensures))
    refl
    (c.load_slots.ensures ∙ ap (λ block. loaded_to a.table.now a.number block block_slots) whole.0)
