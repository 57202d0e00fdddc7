-- `table_walks::any_broken`: its pass asks of each slot what the definition does. Assumes nothing.
use Rattle.std.proofs.Common.{◌∙◌, sym, rules, tests, arith}
use Rattle.laws.specs.LowestRanges.{any_some}
use Rattle.table.specs.Slots.{slot_at}
use Rattle.table_forms.specs.Formed.{broken}
use Rattle.table_forms.specs.FormedLaws.{any_broken_is}
use Rattle.table_walks.proofs.any_broken.Goals as goal

pub returns : goal.returns
returns c =
    let some_broken = any_some (λ k. broken (slot_at c.args.table.now k) c.args.versions) _ _ _ _ c.any.ensures.ran (λ x b q k. search (rules, tests)) (λ j h. absurd (omega arith)) in
    rw c.slots_of.ensures at some_broken ∙ sym (any_broken_is _ _)
