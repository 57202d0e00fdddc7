-- Equality and order of ℤ by tests that compute: `eq_z` of ours, `lt_z` and `le_z` of the library. Each law goes by the signs
-- and is then one of ℕ. Assumes nothing.
use Rattle.std.specs.Prelude.{◌≡◌, refl, true, false, not, ℕ, suc, ◌+◌, ltb, leb, ℤ, pos, negsuc, ◌+ℤ◌, ◌-ℤ◌}
use Rattle.std.proofs.Common.{sym, ap, ◌∙◌, subst, arith, ltb-true, ltb-false, leb-true, leb-false, lt-ltb, le-ltb, le-leb, eqb-true, eq-eqb}
use Rattle.std.specs.Int.Signed.{lt_z, le_z}
use Rattle.std.proofs.lemmas.Bool.{lt-leb}
use Rattle.laws.specs.TestLaws.{by_test, clash}
use Rattle.laws.specs.Order.{eq_z, from_to}

pub eq_z_true : (a b : ℤ) → eq_z a b ≡ true → a ≡ b
eq_z_true (pos a) (pos b) e = ap pos (eqb-true a b e)
eq_z_true (pos a) (negsuc b) e = clash e refl
eq_z_true (negsuc a) (pos b) e = clash e refl
eq_z_true (negsuc a) (negsuc b) e = ap negsuc (eqb-true a b e)

pub eq_z_refl : (a : ℤ) → eq_z a a ≡ true
eq_z_refl (pos a) = eq-eqb a a refl
eq_z_refl (negsuc a) = eq-eqb a a refl

pub eq_z_same : {a b : ℤ} → a ≡ b → eq_z a b ≡ true
eq_z_same {a} e = subst (λ x. eq_z a x ≡ true) e (eq_z_refl a)

-- ---- the order
pub le_z_refl : (a : ℤ) → le_z a a ≡ true
le_z_refl (pos a) = le-leb a a (omega arith)
le_z_refl (negsuc a) = le-leb a a (omega arith)

-- at most, or above
lt_le : (a b : ℕ) → ltb a b ≡ not (leb b a)
lt_le a b = by_test (ltb a b)
    (λ y. y ∙ sym (ap not (lt-leb b a (ltb-true a b y))))
    (λ n. n ∙ sym (ap not (le-leb b a (ltb-false a b n))))

pub lt_z-le_z : (a b : ℤ) → lt_z a b ≡ not (le_z b a)
lt_z-le_z (pos a) (pos b) = lt_le a b
lt_z-le_z (pos a) (negsuc b) = refl
lt_z-le_z (negsuc a) (pos b) = refl
lt_z-le_z (negsuc a) (negsuc b) = lt_le b a

pub le_z_trans : (a b c : ℤ) → le_z a b ≡ true → le_z b c ≡ true → le_z a c ≡ true
le_z_trans (pos a) (pos b) (pos c) h k = le-leb a c (omega (arith, leb-true a b h, leb-true b c k))
le_z_trans (pos a) (pos b) (negsuc c) h k = clash k refl
le_z_trans (pos a) (negsuc b) c h k = clash h refl
le_z_trans (negsuc a) b (pos c) h k = refl
le_z_trans (negsuc a) (pos b) (negsuc c) h k = clash k refl
le_z_trans (negsuc a) (negsuc b) (negsuc c) h k = le-leb c a (omega (arith, leb-true b a h, leb-true c b k))

pub record FromTo (a b z : ℤ) : Type 0 where
  pub low : le_z a z ≡ true
  pub high : le_z z b ≡ true

pub from_to_lem : (a b z : ℤ) → from_to a b z ≡ true → FromTo a b z
from_to_lem a b z h =
    by_test (le_z a z) (λ y. record { low = y; high = rw y at h }) (λ n. clash (rw n at h) refl)

-- ---- the next number, and the one before, of one that is at least 1
pub next-lt_z : (n c : ℤ) → le_z (pos 1) c ≡ true → lt_z n (c +ℤ pos 1) ≡ le_z n c
next-lt_z (pos n) (pos c) h =
    by_test (leb n c) (λ y. lt-ltb n (c + 1) (omega (arith, leb-true n c y)) ∙ sym y) (λ m. le-ltb n (c + 1) (omega (arith, leb-false n c m)) ∙ sym m)
next-lt_z (negsuc n) (pos c) h = refl
next-lt_z n (negsuc c) h = clash h refl

-- the next is above this one
pub next-le_z : (c : ℤ) → le_z (pos 1) c ≡ true → le_z (c +ℤ pos 1) c ≡ false
next-le_z (pos c) h = lt-leb (c + 1) c (omega arith)
next-le_z (negsuc c) h = clash h refl

-- and at least 1
pub next_low : (c : ℤ) → le_z (pos 1) c ≡ true → le_z (pos 1) (c +ℤ pos 1) ≡ true
next_low (pos c) h = le-leb 1 (c + 1) (omega arith)
next_low (negsuc c) h = clash h refl

pub previous : (c : ℕ) → pos (suc c) -ℤ pos 1 ≡ pos c
previous c = rw (le-ltb (suc c) 1 (omega arith)) (ap pos (omega arith))
