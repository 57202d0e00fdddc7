-- A signed word, as code goes to its bits and to its magnitude without a loss: from 0 up the word is both; below 0 what is left of
-- -1 without it is the complement of its bits, and one less than its magnitude. Assumes nothing.
use Rattle.std.specs.Prelude.{◌≡◌, refl, true, false, ℕ, suc, ◌+◌, ◌-◌, T, ℤ, pos, negsuc, nat_abs, ◌-ℤ◌}
use Rattle.std.proofs.Common.{ap, arith, leb-false, le-ltb, Fits, SFits, of_z}
use Rattle.std.specs.Int.Signed.{mag, le_z, non_neg}
use Rattle.std.specs.Int.{w64}
use Rattle.laws.specs.TestLaws.{clash}

-- the word of all ones
abbrev pub ones : ℕ
ones = 18446744073709551615

-- a word from 0 up
pub record FromZero (z : ℤ) : Type 0 where
  pub positive : T (non_neg z)
  pub fits : Fits w64 (nat_abs z)
  pub bits : nat_abs z ≡ of_z w64 z

pub from_zero : (z : ℤ) → SFits w64 z → le_z (pos 0) z ≡ true → FromZero z
from_zero (pos n) f h = record { positive = tt; fits = record { fits = omega (arith, f.sfits) }; bits = refl }
from_zero (negsuc n) f h = clash h refl

-- one below 0
pub record BelowZero (z : ℤ) : Type 0 where
  pub complement : negsuc 0 -ℤ z ≡ pos (mag z)
  pub bits : ones - mag z ≡ of_z w64 z
  pub magnitude : mag z + 1 ≡ nat_abs z

pub below-zero : (z : ℤ) → le_z (pos 0) z ≡ false → BelowZero z
below-zero (pos n) h = absurd (omega (arith, leb-false 0 n h))
below-zero (negsuc n) h =
    record { complement = rw (le-ltb (suc n) 1 (omega arith)) (ap pos (omega arith)); bits = omega arith; magnitude = omega arith }
