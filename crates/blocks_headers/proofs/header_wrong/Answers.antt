-- `blocks_headers::header_wrong`: its five tests are the definition's, each of words that were read. Assumes nothing.
use Rattle.std.specs.Prelude.{◌≡◌, pos}
use Rattle.std.proofs.Common.{arith, w64, SFits, ◌∙◌}
use Rattle.std.proofs.lemmas.Grind.{common_steps}
use Rattle.laws.specs.Bits.{plain}
use Rattle.laws.specs.Tests.{any}
use Rattle.laws.specs.Order.{from_to}
use Rattle.versions.specs.Record.{largest_version}
use Rattle.table.specs.Slots.{most_slots}
use Rattle.blocks_headers.specs.HeaderFields.{header_wrong, oldest_allowed}
use Rattle.blocks_headers.specs.HeaderFieldLaws.{previous_word_fits, oldest_among}
use Rattle.blocks_headers.proofs.header_wrong.Goals as goal

pub returns : goal.returns
unfolding header_wrong any
returns c =
    let now = c.word_at-2.result in
    let old = c.word_at-3.result in
    let now_fits : SFits w64 (pos now) = record { sfits = omega arith } in
    let old_fits : SFits w64 (pos old) = record { sfits = omega arith } in
    let slots : c.contains.result ≡ from_to (pos 1) (pos most_slots) (pos c.word_at.result) = grind (arith, common_steps) in
    let current : c.contains-2.result ≡ from_to (pos 1) largest_version (pos now) = grind (arith, common_steps) in
    let oldest : c.contains-3.result ≡ oldest_allowed (pos now) (pos old) =
    rw (c.from-current.ensures, c.from-oldest.ensures, plain _ now_fits, plain _ old_fits, plain _ (previous_word_fits now (omega arith))) at c.contains-3.ensures.value
    ∙ oldest_among now old in
    rw (slots, current, oldest, c.word_at-3.ensures, c.word_at-2.ensures, c.word_at.ensures, c.word_at-number.ensures, c.is_nonzero.ensures)
