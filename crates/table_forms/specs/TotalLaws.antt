-- The laws of lawful totals: they are one range, what was not refused is lawful, the null is, and none that is reported is further
-- from 0 than 10^15, since the one number beyond says that it is not. Assumes nothing.
use Rattle.std.specs.Prelude.{◌≡◌, refl, true, false, not, ◌||◌, ℕ, suc, ◌≤◌, leb, eqb, ℤ, pos, negsuc, nat_abs}
use Rattle.std.proofs.Common.{sym, ◌∙◌, arith, leb-true, leb-false, le-leb, eqb-true}
use Rattle.std.proofs.Math.Bool.{or-false, and-true}
use Rattle.std.proofs.lemmas.Bool.{lt-leb, eqb-false}
use Rattle.laws.specs.TestLaws.{by_test, clash, not_yes}
use Rattle.laws.specs.OrderLaws.{FromTo, from_to_lem}
use Rattle.laws.specs.Order.{eq_z, from_to}
use Rattle.table_forms.specs.Totals.{highest_total, not_reported, lawful, reported, unlawful, Given, largest_total}

pub given : (a b : ℤ) → unlawful a b ≡ false → Given a b
unfolding unlawful
given a b h =
    by_test (lawful a)
    (λ y. by_test (lawful b) (λ z. record { total1 = y; total2 = z }) (λ n. clash refl (rw (y, n) at h)))
    (λ n. clash refl (rw n at h))

-- the null is lawful
pub lawful-zero : lawful (pos 0) ≡ true
unfolding lawful
lawful-zero = refl

-- what says that a total is not reported is the number below the lowest, so that all lawful ones are one range
next-below : (m n : ℕ) → leb n m || eqb n (suc m) ≡ leb n (suc m)
next-below m n =
    by_test (leb n m)
    (λ y. rw y (sym (le-leb n (suc m) (omega (arith, leb-true n m y)))))
    (λ k. rw k
    (by_test (eqb n (suc m))
    (λ e. e ∙ sym (le-leb n (suc m) (omega (arith, eqb-true n (suc m) e))))
    (λ d. d ∙ sym (lt-leb n (suc m) (omega (arith, leb-false n m k, eqb-false n (suc m) d))))))

pub lawful_range : (z : ℤ) → lawful z ≡ from_to not_reported highest_total z
unfolding lawful
lawful_range (pos n) = or-false _
lawful_range (negsuc n) = rw (and-true (leb n 999999999999999), and-true (leb n 1000000000000000)) (next-below 999999999999999 n)

-- a total is reported exactly if it is not that number
pub reported_is : (z : ℤ) → reported z ≡ not (eq_z z not_reported)
unfolding reported
reported_is z = refl

within : (z : ℤ) → FromTo not_reported highest_total z → eq_z z not_reported ≡ false → nat_abs z ≤ largest_total
within (pos n) h r = leb-true n 1000000000000000 h.high
within (negsuc n) h r = omega (arith, leb-true n 1000000000000000 h.low, eqb-false n 1000000000000000 r)

pub reported_within : (z : ℤ) → lawful z ≡ true → reported z ≡ true → nat_abs z ≤ largest_total
reported_within z h r = within z (from_to_lem _ _ _ (sym (lawful_range z) ∙ h)) (not_yes (sym (reported_is z) ∙ r))
