-- A field as a number, as the code reads it: by its first byte with a minus or without, and by the limit of each. A field with any
-- other byte is no number. Assumes nothing.
use Rattle.std.specs.Prelude.{◌≡◌, refl, Bool, true, false, cond, List, [], ◌∷◌, ℕ, zero, suc, ◌≤◌, ◌<◌, eqb, ltb, leb, ℤ, pos, neg_ℤ, ◌-ℤ◌, length, get_or, drop, Option, Some, None, SomeIff, Result, Ok, Err, OkIff, FitsSigned}
use Rattle.std.proofs.Common.{ap, ne_eqb, eq-eqb, lt-ltb, le-leb, ltb-true, leb-true, arith}
use Rattle.std.proofs.Math.Bool.{and-false}
use Rattle.std.proofs.lemmas.Int.{ints}
use Rattle.std.proofs.lemmas.List.Folds.{list_all_at}
use Rattle.std.specs.Char.{is_ascii_digit}
use Rattle.std.specs.Int.{w64}
use Rattle.std.specs.Result.{result_ok}
use Rattle.laws.specs.TestLaws.{by_test, clash}
use Rattle.steps_commands.specs.Numerals.{minus_byte, most_digits, signed_limit, all_digits, decimal_from, digits_of, unsigned_of, minus_of, number_of}

-- ---- by its first byte
pub minus_field : (bs : List ℕ) → get_or bs 0 0 ≡ minus_byte → number_of bs ≡ minus_of (drop 1 bs)
unfolding number_of
minus_field [] h = absurd (omega (arith, h))
minus_field (b ∷ bs) h = rw (eq-eqb b minus_byte h) refl

pub plain_field : (bs : List ℕ) → (get_or bs 0 0 ≡ minus_byte → ⊥) → number_of bs ≡ unsigned_of bs
unfolding number_of digits_of
plain_field [] h = refl
plain_field (b ∷ bs) h = rw (ne_eqb b minus_byte h) refl

-- ---- 1 to 19 digits are the number that they make
pub digits_make : (bs : List ℕ) → 1 ≤ length bs → length bs ≤ most_digits → all_digits bs ≡ true → digits_of bs ≡ Some (decimal_from 0 bs)
unfolding digits_of
digits_make bs some few digits = simp (le-leb 1 (length bs) some, le-leb (length bs) most_digits few, digits)

-- where the limit allows that number
module _ (bs : List ℕ) {n : ℕ} (some : 1 ≤ length bs) (few : length bs ≤ most_digits) (digits : all_digits bs ≡ true) (makes : decimal_from 0 bs ≡ n) where
  pub unsigned_read : n < signed_limit → unsigned_of bs ≡ Some (pos n)
  unsigned_read l = simp (digits_make bs some few digits, makes, lt-ltb n signed_limit l)

  pub minus_read : n ≤ signed_limit → minus_of bs ≡ Some (neg_ℤ (pos n))
  minus_read l = simp (digits_make bs some few digits, makes, le-leb n signed_limit l)

-- ---- a byte that is neither a digit nor a minus makes no number
other_digits : (bs : List ℕ) (k : ℕ) → k < length bs → is_ascii_digit (get_or bs k 0) ≡ false → digits_of bs ≡ None
unfolding digits_of
other_digits bs k l h = simp (list_all_at is_ascii_digit bs k 0 l h, and-false)

pub other_byte : (bs : List ℕ) (k : ℕ) → k < length bs → is_ascii_digit (get_or bs k 0) ≡ false → (get_or bs k 0 ≡ minus_byte → ⊥) → number_of bs ≡ None
unfolding number_of
other_byte [] k l h m = refl
other_byte (b ∷ bs) zero l h m = simp (ne_eqb b minus_byte m, other_digits (b ∷ bs) 0 l h)
other_byte (b ∷ bs) (suc k) l h m =
    by_test (eqb b minus_byte)
    (λ y. simp (y, other_digits bs k (omega (arith, l)) h))
    (λ n. simp (n, other_digits (b ∷ bs) (suc k) l h))

-- ---- by its limit: there is a number exactly where the limit allows it
there : {A : Type 0} (P : Type 0) (t : Bool) (r : Option A) (v : A) → (P → t ≡ true) → (t ≡ true → P) → SomeIff r P v → r ≡ cond t (Some v) None
there P true None v f g h = absurd (h (g refl))
there P false None v f g h = refl
there P true (Some x) v f g h = ap Some h.1
there P false (Some x) v f g h = clash (f h.0) refl

-- below 0
down : (n : ℕ) → pos 0 -ℤ pos n ≡ neg_ℤ (pos n)
down zero = refl
down (suc n) = omega (arith, ints)

down_fits : (n : ℕ) → FitsSigned w64 (neg_ℤ (pos n)) → n ≤ signed_limit
down_fits zero f = omega arith
down_fits (suc n) f = omega (arith, f.sfits)

fits_down : (n : ℕ) → n ≤ signed_limit → FitsSigned w64 (neg_ℤ (pos n))
fits_down zero l = record { sfits = omega arith }
fits_down (suc n) l = record { sfits = omega (arith, l) }

pub minus_within : (n : ℕ) (r : Option ℤ) → SomeIff r (FitsSigned w64 (pos 0 -ℤ pos n)) (pos 0 -ℤ pos n) → r ≡ cond (leb n signed_limit) (Some (neg_ℤ (pos n))) None
minus_within n r h =
    there (FitsSigned w64 (neg_ℤ (pos n))) (leb n signed_limit) r (neg_ℤ (pos n)) (λ f. le-leb n signed_limit (down_fits n f)) (λ y. fits_down n (leb-true n signed_limit y)) (rw (down n) at h)

-- from 0 up
as_option : {A E : Type 0} (P : Type 0) (r : Result A E) (v : A) → OkIff r P v → SomeIff (result_ok r) P v
as_option P (Ok x) v h = h
as_option P (Err e) v h = h

pub plain_within : {E : Type 0} (n : ℕ) (r : Result ℤ E) → OkIff r (FitsSigned w64 (pos n)) (pos n) → result_ok r ≡ cond (ltb n signed_limit) (Some (pos n)) None
plain_within n r h =
    there (FitsSigned w64 (pos n)) (ltb n signed_limit) (result_ok r) (pos n) (λ f. lt-ltb n signed_limit (omega (arith, f.sfits)))
    (λ y. record { sfits = omega (arith, ltb-true n signed_limit y) }) (as_option _ r (pos n) h)

-- a field as the code reads it
pub ruleset read_by = (minus_field, plain_field, minus_within, plain_within)
