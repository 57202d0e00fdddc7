-- The laws of the version record: what one that is not refused is, and nothing else is not; the same in counting numbers; that the
-- number of its run fits a word, and that its last run's is at least 1. Assumes nothing.
use Rattle.std.specs.Prelude.{◌≡◌, refl, true, false, not, ◌||◌, ℕ, zero, suc, ◌≤◌, eqb, ℤ, pos, negsuc, nat_abs, ◌+ℤ◌, ◌-ℤ◌}
use Rattle.std.proofs.Common.{sym, ap, ◌∙◌, arith, leb-true, ltb-true, eqb-true, le-leb, ne_eqb, SFits}
use Rattle.std.specs.Int.Signed.{lt_z, le_z}
use Rattle.std.specs.Int.{w64}
use Rattle.laws.specs.TestLaws.{none-at, not_no, by_test, clash}
use Rattle.laws.specs.Tests.{any}
use Rattle.laws.specs.OrderLaws.{eq_z_true, eq_z_same, lt_z-le_z, from_to_lem, previous, next_low}
use Rattle.laws.specs.Order.{eq_z}
use Rattle.versions.specs.declared.VersionRecord.{VersionRecord}
use Rattle.versions.specs.Record.{largest_version, fresh_record, bad_record, run_number, last_run}

-- ---- what a record that is not refused is: current is from 1 to the largest version, and below it in a run; the oldest open
-- version is from 1 up, current or the one before, and current in a run
pub record Sound (v : VersionRecord) : Type 0 where
  pub low : le_z (pos 1) v.current ≡ true
  pub high : le_z v.current largest_version ≡ true
  pub in_run : v.active ≡ true → eq_z v.current largest_version ≡ false
  pub first : le_z (pos 1) v.oldest ≡ true
  pub near : (eq_z v.oldest v.current || eq_z v.oldest (v.current -ℤ pos 1)) ≡ true
  pub newest : v.active ≡ true → v.oldest ≡ v.current

pub sound : {v : VersionRecord} → bad_record v ≡ false → Sound v
unfolding bad_record
sound {v} h =
    let f = from_to_lem (pos 1) largest_version v.current (not_no (none-at _ 0 h)) in
    record {
      low = f.low;
      high = f.high;
      in_run = λ a. rw a at (none-at _ 1 h);
      first = not_no (sym (lt_z-le_z v.oldest (pos 1)) ∙ none-at _ 2 h);
      near = not_no (none-at _ 3 h);
      newest = λ a. eq_z_true _ _ (not_no (rw a at (none-at _ 4 h)));
    }

-- and one that is so is not refused
pub known : {v : VersionRecord} → Sound v → bad_record v ≡ false
unfolding bad_record any
known {v} s =
    let first : lt_z v.oldest (pos 1) ≡ false = lt_z-le_z v.oldest (pos 1) ∙ ap not s.first in
    by_test v.active
    (λ a. simp (a, s.low, s.high, s.in_run a, first, eq_z_same (s.newest a)))
    (λ a. simp (a, s.low, s.high, first, s.near))

-- where current is below the largest version, a run may be active
pub below : (c : ℤ) → le_z (pos 1) c ≡ true → lt_z c largest_version ≡ true → (le_z c largest_version ≡ true) × (eq_z c largest_version ≡ false)
below (pos n) low h =
    let l = ltb-true n 1000000000 h in
    (le-leb n 1000000000 (omega arith), ne_eqb n 1000000000 (λ e. omega arith))
below (negsuc n) low h = clash low refl

-- ---- the same in counting numbers
pub record Counted (v : VersionRecord) : Type 0 where
  pub current-number : ℕ
  pub oldest_number : ℕ
  pub current : v.current ≡ pos current-number
  pub oldest : v.oldest ≡ pos oldest_number
  pub first : 1 ≤ oldest_number
  pub below : oldest_number ≤ current-number
  pub near : current-number ≤ suc oldest_number
  pub newest : v.active ≡ true → oldest_number ≡ current-number

pub counts : {v : VersionRecord} → bad_record v ≡ false → Counted v
counts {v} h = go v.current v.oldest refl refl s.low s.first s.near s.newest
  where
    s : Sound v
    s = sound h

    go : (c o : ℤ) → v.current ≡ c → v.oldest ≡ o → le_z (pos 1) c ≡ true → le_z (pos 1) o ≡ true
        → (eq_z o c || eq_z o (c -ℤ pos 1)) ≡ true → (v.active ≡ true → o ≡ c) → Counted v
    go (pos (suc c)) (pos o) current oldest low first near newest =
        by_test (eqb o (suc c))
        (λ y. let e = eqb-true o (suc c) y in
        record { current-number = suc c; oldest_number = o; current = current; oldest = oldest; first = leb-true 1 o first; below = omega arith; near = omega arith; newest = λ a. e })
        (λ n. let e = eqb-true o c (rw (n, previous c) at near) in
        record { current-number = suc c; oldest_number = o; current = current; oldest = oldest; first = leb-true 1 o first; below = omega arith; near = omega arith; newest = λ a. ap nat_abs (newest a) })
    go (pos zero) o current oldest low first near newest = clash low refl
    go (negsuc c) o current oldest low first near newest = clash low refl
    go (pos (suc c)) (negsuc o) current oldest low first near newest = clash first refl

-- the fresh record is one
pub fresh_sound : bad_record fresh_record ≡ false
unfolding bad_record any
fresh_sound = refl

-- the number of a run fits a word
next_fits : (c : ℤ) → le_z (pos 1) c ≡ true → le_z c largest_version ≡ true → SFits w64 (c +ℤ pos 1)
next_fits (pos n) l h = record { sfits = omega (arith, leb-true n 1000000000 h) }
next_fits (negsuc n) l h = clash l refl

pub run_fits : (v : VersionRecord) → bad_record v ≡ false → SFits w64 (run_number v)
run_fits v h = let s = sound h in next_fits v.current s.low s.high

-- the last run's number is at least 1
pub last_low : (v : VersionRecord) → bad_record v ≡ false → le_z (pos 1) (last_run v) ≡ true
last_low v h = let l = (sound h).low in by_test v.active (λ a. rw a (next_low v.current l)) (λ a. rw a l)
