-- `blocks::load_header`: each return is that of the tests of its length, its check and its words (`EndLaws`); past them the
-- words are read, and oldest by its own (`oldest_of`). Assumes nothing.
use Rattle.std.proofs.Common.{sym, ap, ◌∙◌, w64, SFits}
use Rattle.std.proofs.lemmas.Result.{err_from_is_err_and}
use Rattle.laws.specs.Bits.{plain}
use Rattle.blocks_headers.specs.HeaderFields.{header_wrong}
use Rattle.blocks_headers.specs.HeaderFieldLaws.{current_low}
use Rattle.blocks.specs.LoadHeader.{load_header_refusal, header_of}
use Rattle.blocks.proofs.EndLaws.{end_stops, end_16, end_passes}
use Rattle.blocks.specs.ContractLaws.{header_not_loaded, header_loaded}
use Rattle.blocks.proofs.load_header.Goals as goal

pub returns-in_err-block : goal.returns-in_err-block
unfolding load_header_refusal
returns-in_err-block c =
    let p = err_from_is_err_and c.from_residual.result c.from_residual.ensures.1 in
    rw (p.1, p.2) (header_not_loaded (end_stops c.args.block.now (header_wrong c.args.block.now) c.in_err-block.ensures))

pub returns-then-header_wrong : goal.returns-then-header_wrong
unfolding load_header_refusal
returns-then-header_wrong c =
    let whole = c.in_ok-block.ensures in
    header_not_loaded (end_16 c.args.block.now _ whole.1 (sym (ap header_wrong whole.0) ∙ sym c.if-header_wrong.ensures))

-- past all tests current is from 1 up
pub oldest_of-requires : goal.oldest_of-requires
oldest_of-requires c = rw c.word_at-current.ensures (current_low _ (sym c.if-header_wrong.ensures))

pub returns : goal.returns
unfolding load_header_refusal header_of
returns c =
    let whole = c.in_ok-block.ensures in
    let current : SFits w64 c.from.result = record { sfits = c.from.type_inv } in
    let oldest : SFits w64 c.oldest_of.result = record { sfits = c.oldest_of.type_inv } in
    header_loaded (end_passes c.args.block.now _ whole.1 (sym (ap header_wrong whole.0) ∙ sym c.if-header_wrong.ensures))
    (rw (plain _ current, plain _ oldest, c.from.ensures, c.oldest_of.ensures, c.word_at-slots.ensures, c.word_at-current.ensures, c.word_at-oldest.ensures, ← whole.0))
