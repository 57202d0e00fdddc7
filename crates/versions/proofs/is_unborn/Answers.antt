-- `versions::is_unborn`: the code's one expression is the definition's list of tests, once both words are read as the numbers
-- that they are (`plain`). Assumes nothing.
use Rattle.std.proofs.Common.{rules, w64, SFits}
use Rattle.laws.specs.Tests.{any}
use Rattle.laws.specs.Bits.{plain}
use Rattle.versions.specs.Sessions.{unborn}
use Rattle.versions.proofs.is_unborn.Goals as goal

pub returns : goal.returns
unfolding unborn any
returns c =
    let current : SFits w64 c.args.versions.current = search rules in
    simp (plain _ current, plain _ c.ranges.session)
