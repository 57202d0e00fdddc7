-- `table_keys::key_from`: what it asks of each slot is whether it has the key. Assumes nothing.
use Rattle.std.proofs.Common.{rules, tests}
use Rattle.laws.specs.LowestRanges.{find_lowest}
use Rattle.table.specs.Slots.{slot_at}
use Rattle.table_keys.specs.Keys.{has_key}
use Rattle.table_keys.proofs.key_from.Goals as goal

pub returns : goal.returns
returns c =
    find_lowest (λ k. has_key (slot_at c.args.table.now k) c.args.key1 c.args.key2) _ _ _ _ c.find.ensures.ran (λ x b q k. search (rules, tests)) c.requires.keyless
