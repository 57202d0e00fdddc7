-- A number as its digits in a base, the lowest first, and back: a 64-bit word in two halves and a 32-bit word in four bytes
-- are the cases 2^32, 2 and 256, 4. Both ways round, over the base and the count, by recursion on the count. Assumes nothing.
use Rattle.std.specs.Prelude.{◌≡◌, refl, List, [], ◌∷◌, ℕ, zero, suc, ◌+◌, ◌*◌, ◌/◌, ◌^◌, ◌<◌, length, get_or}
use Rattle.std.proofs.Common.{ap, ◌∙◌, zero-add, pow-suc, mod-lt, mod-eq_of_lt, div-lt_iff_lt-mul, arith}
use Rattle.std.proofs.Math.Nat.{pow-zero, mod-add-div', div-eq_of_lt, add-mul-div_right, add-mul-mod_self_right}
use Rattle.laws.specs.Digits.{digits, number}

-- each number of a list is below a bound; past its end stands 0, so the bound is not 0
abbrev pub EachBelow : ℕ → List ℕ → Type 0
EachBelow bound ns = (i : ℕ) → get_or ns i 0 < bound

-- as many as were asked for
pub digits-length : (base count n : ℕ) → length (digits base count n) ≡ count
digits-length base zero n = refl
digits-length base (suc count) n = ap suc (digits-length base count (n / base))

-- each below the base
pub digits-below : (base count n : ℕ) → 0 < base → EachBelow base (digits base count n)
digits-below base zero n p i = p
digits-below base (suc count) n p zero = mod-lt n p
digits-below base (suc count) n p (suc i) = digits-below base count (n / base) p i

-- a number that so many digits can hold is the number of its digits
pub number_digits : (base count n : ℕ) → 0 < base → n < base ^ count → number base (digits base count n) ≡ n
number_digits base zero n p h = let l : n < 1 = rw pow-zero at h in omega arith
number_digits base (suc count) n p h =
    rw (number_digits base count (n / base) p ((div-lt_iff_lt-mul p).1 (rw pow-suc at h))) (mod-add-div' n base)

-- a number over its base loses its lowest digit
upper : (base d n : ℕ) → d < base → (d + n * base) / base ≡ n
upper base d n l = add-mul-div_right d n (omega arith) ∙ ap (λ q. q + n) (div-eq_of_lt l) ∙ zero-add n

-- the number of digits has those digits
pub digits_number : (base : ℕ) (ds : List ℕ) → EachBelow base ds → digits base (length ds) (number base ds) ≡ ds
digits_number base [] b = refl
digits_number base (d ∷ ds) b =
    rw (upper base d (number base ds) (b 0), add-mul-mod_self_right, mod-eq_of_lt (b 0), digits_number base ds (λ i. b (suc i)))
