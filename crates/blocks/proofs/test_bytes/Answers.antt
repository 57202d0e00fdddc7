-- `blocks::test_bytes`: its two tests are the definition's, of the length and of the check (`EndLaws`). Assumes nothing.
use Rattle.std.proofs.Common.{sym, ap, ◌∙◌}
use Rattle.blocks_words.specs.Words.{check_wrong}
use Rattle.blocks.proofs.EndLaws.{bytes_14, bytes_15, bytes_pass}
use Rattle.blocks.proofs.test_bytes.Goals as goal

pub returns-in_default : goal.returns-in_default
returns-in_default c = bytes_14 _ c.in_default.ensures.cases

pub returns-then-check_wrong : goal.returns-then-check_wrong
returns-then-check_wrong c =
    let whole = c.in-Some.ensures.cases in
    bytes_15 _ whole.long (sym (ap check_wrong whole.same) ∙ sym c.if-check_wrong.ensures)

pub returns : goal.returns
returns c =
    let whole = c.in-Some.ensures.cases in
    (whole.same, bytes_pass _ whole.long (sym (ap check_wrong whole.same) ∙ sym c.if-check_wrong.ensures))
