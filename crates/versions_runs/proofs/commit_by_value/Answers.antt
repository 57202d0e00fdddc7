-- `versions_runs::commit_by_value`: the tests follow the definition's list, past refusal 2 and to the one that holds; past 8 the answer and the
-- new current are the run's number, current + 1. Assumes nothing.
use Rattle.std.proofs.Common.{rules, refl, sym, ap, ap₂, ◌∙◌, false, w64, SFits, ℤ, Ok}
use Rattle.laws.specs.FirstLaws.{hit, skip, done}
use Rattle.laws.specs.Bits.{plain}
use Rattle.versions.specs.declared.VersionRecord.{VersionRecord}
use Rattle.versions_runs.specs.Runs.{commit_refusal}
use Rattle.versions_runs.specs.RunLaws.{commit_kept, commit_done}
use Rattle.versions_runs.proofs.commit_by_value.Goals as goal

pub returns-then-bad : goal.returns-then-bad
unfolding commit_refusal
returns-then-bad c = rw c.kept.ensures (commit_kept (hit _ (sym c.bad_record-bad.ensures ∙ c.if-bad.true)) refl)

pub returns-then-idle : goal.returns-then-idle
unfolding commit_refusal
returns-then-idle c =
    rw c.kept-then-idle.ensures
    (commit_kept (skip _ _ (sym c.bad_record-bad.ensures ∙ c.if-bad.false) ∙ hit _ c.if-idle.true) refl)

-- the record between runs, at an oldest version and a current one
at_rest : ℤ → ℤ → VersionRecord
at_rest o n = record { current = n; active = false; oldest = o }

pub returns : goal.returns
unfolding commit_refusal at_rest
returns c =
    let oldest : SFits w64 c.args.versions.oldest = search rules in
    let next = plain _ (record { sfits = c.run_number-next.type_inv }) ∙ c.run_number-next.ensures in
    commit_done
    (skip _ _ (sym c.bad_record-bad.ensures ∙ c.if-bad.false) ∙ skip _ _ c.if-idle.false ∙ done)
    (ap Ok next)
    (ap₂ at_rest (plain _ oldest) next)
