-- `blocks_words::total_words`: the fold adds the words of the places in turn, as `folded_total` says. Assumes nothing.
use Rattle.std.specs.Prelude.{refl, ◌+◌, ◌%◌}
use Rattle.std.proofs.Common.{rules, ◌∙◌}
use Rattle.std.proofs.lemmas.Iterator.{YieldsList-from_range}
use Rattle.std.proofs.lemmas.Iterator.Consumers.{fold_from_yields_List}
use Rattle.blocks_words.specs.Words.{check_place, word_base, word_at}
use Rattle.blocks_words.specs.WordLaws.{folded_total}
use Rattle.blocks_words.proofs.total_words.Goals as goal

pub returns : goal.returns
returns c =
    fold_from_yields_List _ (λ sum i. (sum + word_at c.args.block.now i) % word_base) 0 c.fold.result c.fold.ensures.ran
    (YieldsList-from_range 0 check_place check_place refl refl)
    (λ a x b q k. search rules)
    ∙ folded_total c.args.block.now 0 check_place
