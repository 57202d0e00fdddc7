-- `blocks::test_idle`: its tests are followed along the definition's list, past each that fails and to the one that holds.
-- Assumes nothing.
use Rattle.std.proofs.Common.{refl, sym, ◌∙◌}
use Rattle.laws.specs.FirstLaws.{hit, skip, done, unless_refused, unless-done}
use Rattle.blocks.proofs.test_idle.Goals as goal

pub returns-then-bad_table : goal.returns-then-bad_table
returns-then-bad_table c = unless_refused _ (hit _ (sym c.if-bad_table.ensures))

pub returns-then-bad_record : goal.returns-then-bad_record
returns-then-bad_record c = unless_refused _ (skip _ _ (sym c.if-bad_table.ensures) ∙ hit _ (sym c.if-bad_record.ensures))

pub returns-then-versions : goal.returns-then-versions
returns-then-versions c =
    unless_refused _ (skip _ _ (sym c.if-bad_table.ensures) ∙ skip _ _ (sym c.if-bad_record.ensures) ∙ hit _ c.if-versions.true)

pub returns : goal.returns
returns c =
    unless-done (skip _ _ (sym c.if-bad_table.ensures) ∙ skip _ _ (sym c.if-bad_record.ensures) ∙ skip _ _ c.if-versions.false ∙ done) refl
