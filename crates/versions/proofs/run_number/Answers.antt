-- `versions::run_number`: current + 1 fits, since a sound record's current is at most the largest version (`run_fits`).
-- Assumes nothing.
use Rattle.std.proofs.Common.{rules, w64, SFits}
use Rattle.laws.specs.Bits.{plain}
use Rattle.versions.specs.RecordLaws.{run_fits}
use Rattle.versions.proofs.run_number.Goals as goal

pub overflow_add-result : goal.overflow_add-result
overflow_add-result c =
    let current : SFits w64 c.args.versions.current = search rules in
    rw (plain _ current) (run_fits _ c.requires)

pub returns : goal.returns
returns c =
    let current : SFits w64 c.args.versions.current = search rules in
    simp (plain _ current, plain _ (run_fits _ c.requires))
