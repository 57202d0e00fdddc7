-- Equal numbers, and a number from one to another: tests that compute. Assumes nothing.
use Rattle.std.specs.Prelude.{Bool, false, ◌&&◌, eqb, ℤ, pos, negsuc}
use Rattle.std.specs.Int.Signed.{le_z}

-- ---- two integers are the same
abbrev pub eq_z : ℤ → ℤ → Bool
eq_z (pos a) (pos b) = eqb a b
eq_z (pos a) (negsuc b) = false
eq_z (negsuc a) (pos b) = false
eq_z (negsuc a) (negsuc b) = eqb a b

-- ---- a number is from one to another
abbrev pub from_to : ℤ → ℤ → ℤ → Bool
from_to a b z = le_z a z && le_z z b
