-- Sums of ℤ with their bounds, through `nat_abs`, in ℕ, where `omega` works: a running sum of k terms, each within m of 0, is
-- within m × k of it, and fits a word while that is below 2^62. Assumes nothing.
use Rattle.std.specs.Prelude.{Bool, true, false, cond, ℕ, suc, ◌+◌, ◌-◌, ◌*◌, ◌≤◌, ◌<◌, ℤ, pos, negsuc, nat_abs, ◌+ℤ◌, ltb}
use Rattle.std.proofs.Common.{arith, SFits}
use Rattle.std.proofs.Math.IntN.{sub_ℕ}
use Rattle.std.specs.Int.Signed.{mag}
use Rattle.std.specs.Int.{w64}

either : (c : Bool) (x y : ℤ) {m : ℕ} → nat_abs x ≤ m → nat_abs y ≤ m → nat_abs (cond c x y) ≤ m
either true x y h k = h
either false x y h k = k

difference : (a b : ℕ) → nat_abs (sub_ℕ a (suc b)) ≤ a + suc b
difference a b = either (ltb a (suc b)) (negsuc (suc b - suc a)) (pos (a - suc b)) (omega arith) (omega arith)

-- the size of a sum is at most the sum of the sizes
pub nat_abs-sum : (a b : ℤ) → nat_abs (a +ℤ b) ≤ nat_abs a + nat_abs b
nat_abs-sum (pos a) (pos b) = omega arith
nat_abs-sum (pos a) (negsuc b) = difference a b
nat_abs-sum (negsuc a) (pos b) = omega (arith, difference b a)
nat_abs-sum (negsuc a) (negsuc b) = omega arith

mag-nat_abs : (z : ℤ) → mag z ≤ nat_abs z
mag-nat_abs (pos n) = omega arith
mag-nat_abs (negsuc n) = omega arith

-- 2^62
abbrev pub small : ℕ
small = 4611686018427387904

pub small_fits : (z : ℤ) → nat_abs z < small → SFits w64 z
small_fits z h = record { sfits = omega (arith, mag-nat_abs z) }

-- one more term of a running sum stays within its bound, and fits
pub sum_within : (m k : ℕ) (s t : ℤ) → nat_abs s ≤ m * k → nat_abs t ≤ m → nat_abs (s +ℤ t) ≤ m * k + m
sum_within m k s t h g = omega (arith, nat_abs-sum s t)
