-- `versions::is_expired`: the code's one expression is the definition's, once both words are read as the numbers that they are
-- (`plain`). Assumes nothing.
use Rattle.std.proofs.Common.{rules, w64, SFits}
use Rattle.laws.specs.Bits.{plain}
use Rattle.versions.specs.Sessions.{expired}
use Rattle.versions.proofs.is_expired.Goals as goal

pub returns : goal.returns
unfolding expired
returns c =
    let oldest : SFits w64 c.args.versions.oldest = search rules in
    simp (plain _ oldest, plain _ c.ranges.session)
