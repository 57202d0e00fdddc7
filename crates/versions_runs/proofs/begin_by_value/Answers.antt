-- `versions_runs::begin_by_value`: the tests follow the definition's list, past each that fails (`past7`) and to the one that holds; past the
-- last the answer is the run's number, current + 1. Assumes nothing.
use Rattle.std.proofs.Common.{rules, ◌≡◌, refl, sym, ap, ap₂, ◌∙◌, true, false, w64, SFits, ℤ, Ok}
use Rattle.laws.specs.First.{first}
use Rattle.laws.specs.FirstLaws.{after, hit, skip, done}
use Rattle.laws.specs.Bits.{plain, is, isnt}
use Rattle.refusals.specs.declared.Refusal.TheVariants as refusal
use Rattle.versions.specs.declared.VersionRecord.{VersionRecord}
use Rattle.versions.specs.Record.{largest_version, bad_record}
use Rattle.versions_runs.specs.Runs.{begin_tests, begin_refusal}
use Rattle.versions_runs.specs.RunLaws.{begin_kept, begin_done}
use Rattle.versions_runs.proofs.begin_by_value.Goals as goal

-- past the test of refusal 2, and that of 7
past7 : (v : VersionRecord) → bad_record v ≡ false → v.active ≡ false → begin_refusal v ≡ first (after refusal.RunActive (begin_tests v))
unfolding begin_refusal
past7 v sound idle = skip _ _ sound ∙ skip _ _ idle

pub returns-then-bad_record : goal.returns-then-bad_record
unfolding begin_refusal
returns-then-bad_record c = rw c.kept.ensures (begin_kept (hit _ (sym c.bad_record.ensures ∙ c.if-bad_record.true)) refl)

pub returns-then-versions : goal.returns-then-versions
unfolding begin_refusal
returns-then-versions c =
    rw c.kept-then-versions.ensures
    (begin_kept (skip _ _ (sym c.bad_record.ensures ∙ c.if-bad_record.false) ∙ hit _ c.if-versions.true) refl)

pub returns-then-last : goal.returns-then-last
returns-then-last c =
    let current : SFits w64 c.args.versions.current = search rules in
    let past = past7 c.args.versions (sym c.bad_record.ensures ∙ c.if-bad_record.false) c.if-versions.false in
    rw c.kept-then-last.ensures
    (begin_kept (past ∙ hit _ (is _ largest_version current (search rules) c.if-last.true)) refl)

-- the record in a run, at a current version and an oldest one
in_run : ℤ → ℤ → VersionRecord
in_run n o = record { current = n; active = true; oldest = o }

pub returns : goal.returns
unfolding in_run
returns c =
    let current : SFits w64 c.args.versions.current = search rules in
    let past = past7 c.args.versions (sym c.bad_record.ensures ∙ c.if-bad_record.false) c.if-versions.false in
    begin_done
    (past ∙ skip _ _ (isnt _ largest_version current (search rules) c.if-last.false) ∙ done)
    (ap Ok (plain _ (record { sfits = c.run_number.type_inv }) ∙ c.run_number.ensures))
    (ap₂ in_run (plain _ current) (plain _ current))
