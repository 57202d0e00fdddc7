-- `table_free::free_from`: what it asks of each slot is whether it is free. Assumes nothing.
use Rattle.std.proofs.Common.{rules, tests}
use Rattle.laws.specs.LowestRanges.{find_lowest}
use Rattle.table.specs.Slots.{slot_at}
use Rattle.table_free.specs.Free.{free}
use Rattle.table_free.proofs.free_from.Goals as goal

pub returns : goal.returns
returns c = find_lowest (λ k. free (slot_at c.args.table.now k) c.args.versions) _ _ _ _ c.find.ensures.ran (λ x b q k. search (rules, tests)) c.requires.taken
