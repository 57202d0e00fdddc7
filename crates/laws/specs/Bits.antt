-- From the code's tests on signed words to the tests of `Order`: a signed word that was passed or copied stands in a proof as
-- its bits, and reads back as itself where it fits. Assumes nothing.
use Rattle.std.specs.Prelude.{◌≡◌, refl, true, false, zero, suc, eqb, ℤ, pos, negsuc, ◌-ℤ◌}
use Rattle.std.proofs.Common.{sym, ap, ◌∙◌, arith, eqb-true, eq-eqb, ne_eqb, SFits, to_z, of_z}
use Rattle.std.specs.Int.Signed.{le_z}
use Rattle.std.proofs.lemmas.Bool.{eqb-false}
use Rattle.std.specs.Int.{w64}
use Rattle.std.proofs.lemmas.Int.{to_z-of_z}
use Rattle.laws.specs.TestLaws.{by_test, clash}
use Rattle.laws.specs.OrderLaws.{eq_z_true, eq_z_same, previous}
use Rattle.laws.specs.Order.{eq_z}

pub plain : (z : ℤ) → SFits w64 z → to_z w64 (of_z w64 z) ≡ z
plain z f = to_z-of_z w64 z f

-- the code's == on two words
pub eq_bits : (a b : ℤ) → SFits w64 a → SFits w64 b → eqb (of_z w64 a) (of_z w64 b) ≡ eq_z a b
eq_bits a b f g =
    by_test (eqb (of_z w64 a) (of_z w64 b))
    (λ y. y ∙ sym (eq_z_same (sym (plain a f) ∙ ap (to_z w64) (eqb-true (of_z w64 a) (of_z w64 b) y) ∙ plain b g)))
    (λ n. n ∙ sym (by_test (eq_z a b) (λ y. absurd (eqb-false (of_z w64 a) (of_z w64 b) n (ap (of_z w64) (eq_z_true a b y)))) (λ m. m)))

-- and its two results
pub is : (a b : ℤ) → SFits w64 a → SFits w64 b → of_z w64 a ≡ of_z w64 b → eq_z a b ≡ true
is a b f g e = sym (eq_bits a b f g) ∙ eq-eqb (of_z w64 a) (of_z w64 b) e

pub isnt : (a b : ℤ) → SFits w64 a → SFits w64 b → (of_z w64 a ≡ of_z w64 b → ⊥) → eq_z a b ≡ false
isnt a b f g ne = sym (eq_bits a b f g) ∙ ne_eqb (of_z w64 a) (of_z w64 b) ne

-- the number before one that is at least 1 fits
pub previous_fits : (c : ℤ) → SFits w64 c → le_z (pos 1) c ≡ true → SFits w64 (c -ℤ pos 1)
previous_fits (pos zero) f h = clash h refl
previous_fits (pos (suc c)) f h = rw (previous c) (record { sfits = omega (arith, f.sfits) })
previous_fits (negsuc c) f h = clash h refl
