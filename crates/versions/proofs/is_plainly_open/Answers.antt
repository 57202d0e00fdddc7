-- `versions::is_plainly_open`: each test of the code is what a sound record is (`Sound`), or that the session is from the oldest open
-- version to current. Assumes nothing.
use Rattle.std.proofs.Common.{rules, ◌≡◌, refl, Bool, true, false, not, ◌&&◌, ◌||◌, [], ◌∷◌, w64, SFits, pos, ◌-ℤ◌}
use Rattle.std.specs.Int.Signed.{le_z, lt_z}
use Rattle.laws.specs.TestLaws.{all-at, clash}
use Rattle.laws.specs.Tests.{all}
use Rattle.laws.specs.OrderLaws.{eq_z_true}
use Rattle.laws.specs.Order.{eq_z}
use Rattle.laws.specs.Bits.{plain, eq_bits, previous_fits}
use Rattle.versions.specs.Record.{largest_version}
use Rattle.versions.specs.RecordLaws.{below, known}
use Rattle.versions.specs.SessionLaws.{open_between}
use Rattle.versions.proofs.is_plainly_open.Goals as goal

-- the oldest is current, or the one before with no run
nearest : (a o p : Bool) → (o || (not a && p)) ≡ true → (o || p) ≡ true
nearest a true p h = refl
nearest true false p h = clash h refl
nearest false false p h = h

in_run : (a o p : Bool) → (o || (not a && p)) ≡ true → a ≡ true → o ≡ true
in_run a true p h y = refl
in_run true false p h y = clash h refl
in_run false false p h y = clash y refl

pub returns : goal.returns
unfolding all
returns c h =
    let v = c.args.versions in
    let session = c.args.session in
    let current : SFits w64 v.current = search rules in
    let oldest : SFits w64 v.oldest = search rules in
    let range = le_z (pos 1) v.current ∷ lt_z v.current largest_version ∷ [] in
    let inside = rw (plain _ current) at c.if-not-current.false in
    let low = all-at range 0 inside in
    let less : SFits w64 (v.current -ℤ pos 1) = previous_fits _ current low in
    let small = below v.current low (all-at range 1 inside) in
    let is_current = eq_z v.oldest v.current in
    let is_before = eq_z v.oldest (v.current -ℤ pos 1) in
    let tests = (is_current || (not v.active && is_before)) ∷ le_z (pos 1) v.oldest ∷ le_z v.oldest session ∷ le_z session v.current ∷ [] in
    let yes = rw (plain _ current, plain _ oldest, plain _ c.ranges.session, eq_bits _ _ oldest current, eq_bits _ _ oldest less) at h in
    let sound = known {v = v} (record {
      low = low;
      high = small.0;
      in_run = λ a. small.1;
      first = all-at tests 1 yes;
      near = nearest v.active is_current is_before (all-at tests 0 yes);
      newest = λ a. eq_z_true _ _ (in_run v.active is_current is_before (all-at tests 0 yes) a);
    }) in
    open_between v session sound (all-at tests 2 yes) (all-at tests 3 yes)
