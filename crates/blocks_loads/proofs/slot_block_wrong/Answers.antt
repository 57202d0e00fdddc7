-- `blocks_loads::slot_block_wrong`: its three tests are the definition's, of word 0, the filler and the slots, each of which its pass
-- asks as the definition does. Assumes nothing.
use Rattle.std.proofs.Common.{rules, tests, arith}
use Rattle.laws.specs.Tests.{any}
use Rattle.laws.specs.LowestRanges.{any_some}
use Rattle.blocks_loads.specs.LoadedSlots.{slot_wrong, slot_block_wrong}
use Rattle.blocks_loads.proofs.slot_block_wrong.Goals as goal

pub returns : goal.returns
unfolding slot_block_wrong any
returns c =
    let slots = any_some (slot_wrong c.args.table.now c.args.versions c.args.number c.args.block.now) _ _ _ _ c.any.ensures.ran (λ x b q k. search (rules, tests)) (λ j h. absurd (omega arith)) in
    rw (slots, c.word_at-stored.ensures, c.is_nonzero.ensures)
