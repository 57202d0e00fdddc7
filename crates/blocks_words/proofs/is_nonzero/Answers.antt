-- `blocks_words::is_nonzero`: its pass asks of each word what the definition does. Assumes nothing.
use Rattle.std.specs.Prelude.{◌+◌, ◌==◌, not}
use Rattle.std.proofs.Common.{rules, tests, arith}
use Rattle.laws.specs.LowestRanges.{any_some}
use Rattle.blocks_words.specs.Words.{word_at}
use Rattle.blocks_words.proofs.is_nonzero.Goals as goal

pub returns : goal.returns
returns c = any_some (λ i. not (word_at c.args.block.now (c.args.from + i) == 0)) _ _ _ _ c.any.ensures.ran (λ x b q k. search (rules, tests)) (λ j h. absurd (omega arith))
