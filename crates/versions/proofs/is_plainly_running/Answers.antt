-- `versions::is_plainly_running`: each test of the code is what a sound record is (`Sound`) in a run. Assumes nothing.
use Rattle.std.proofs.Common.{rules, refl, [], ◌∷◌, w64, SFits, pos}
use Rattle.std.specs.Int.Signed.{le_z, lt_z}
use Rattle.laws.specs.Tests.{all}
use Rattle.laws.specs.TestLaws.{all-at}
use Rattle.laws.specs.OrderLaws.{eq_z_true}
use Rattle.laws.specs.Order.{eq_z}
use Rattle.laws.specs.Bits.{plain, eq_bits}
use Rattle.versions.specs.Record.{largest_version}
use Rattle.versions.specs.RecordLaws.{below, known}
use Rattle.versions.proofs.is_plainly_running.Goals as goal

pub returns : goal.returns
unfolding all
returns c h =
    let v = c.args.versions in
    let now : SFits w64 v.current = search rules in
    let oldest : SFits w64 v.oldest = search rules in
    let tests = le_z (pos 1) v.current ∷ lt_z v.current largest_version ∷ v.active ∷ eq_z v.oldest v.current ∷ [] in
    let yes = rw (plain _ now, eq_bits _ _ oldest now) at h in
    let same = all-at tests 3 yes in
    let range = below v.current (all-at tests 0 yes) (all-at tests 1 yes) in
    let e = eq_z_true _ _ same in
    record {
      known = known {v = v} (record {
        low = all-at tests 0 yes;
        high = range.0;
        in_run = λ a. range.1;
        first = rw e (all-at tests 0 yes);
        near = rw same refl;
        newest = λ a. e;
      });
      active = all-at tests 2 yes;
    }
