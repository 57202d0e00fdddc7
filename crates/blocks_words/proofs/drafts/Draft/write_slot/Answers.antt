-- `blocks_words::drafts::Draft::write_slot`: one word more is `long_follows`. Assumes nothing.
use Rattle.std.proofs.Common.{◌<◌, length, rules, w64, SFits}
use Rattle.laws.specs.Bits.{plain}
use Rattle.table.specs.Slots.{word}
use Rattle.blocks_words.specs.FollowLaws.{long_follows}
use Rattle.blocks_words.proofs.drafts.Draft.write_slot.Goals as goal

pub loop-n-preserved : goal.loop-n-preserved
loop-n-preserved c =
    let words = c.words_of-words.result in
    let fits : SFits w64 (word words c.loop-n.n) = search rules in
    let within : c.loop-n.n < length words = rw c.words_of-words.ensures c.loop-n-test.true in
    long_follows words within c.loop-n.invariant (rw (plain _ fits) at c.write_long.ensures)
