-- The lowest index below a bound that passes a test, or the bound where none does: that it is so, that nothing else is, and the steps
-- of a search for it; that some index passes; and what a search answers that gives a place or none. Assumes nothing.
use Rattle.std.specs.Prelude.{◌≡◌, refl, Bool, true, false, Option, Some, None, ℕ, zero, suc, ◌+◌, ◌≤◌, ◌<◌}
use Rattle.std.proofs.Common.{ltb-true, lt-ltb, suc-le-suc, zero-le, le_of_suc-le-suc, not-suc-le-zero, lt_of_lt_of_le, lt_of_le_of_lt, sym, ◌∙◌, arith}
use Rattle.std.proofs.lemmas.Bool.Decides.{nat_tests}
use Rattle.laws.specs.TestLaws.{by_test, by_order, clash}
use Rattle.laws.specs.Below.{one_more, four_more}
use Rattle.laws.specs.Lowest.{lowest, Lowest, below, NoneBelow, EachOfFour, some}

lower : (p : ℕ → Bool) (n r : ℕ) → p zero ≡ false → Lowest (λ k. p (suc k)) n r → Lowest p (suc n) (suc r)
lower p n r h l = record {
  within = suc-le-suc l.within;
  passes = λ i. l.passes (le_of_suc-le-suc i);
  below = elim [ zero ↦ λ i. h | suc k ↦ λ i. l.below k (le_of_suc-le-suc i) ];
}

-- it is so
pub lowest_is : (p : ℕ → Bool) (n : ℕ) → Lowest p n (lowest p n)
unfolding lowest
lowest_is p zero = record { within = zero-le; passes = λ i. absurd (not-suc-le-zero i); below = λ k i. absurd (not-suc-le-zero i) }
lowest_is p (suc n) = go (p zero) refl (lowest_is (λ k. p (suc k)) n)
  where
    go : (t : Bool) → p zero ≡ t → Lowest (λ k. p (suc k)) n (lowest (λ k. p (suc k)) n)
        → Lowest p (suc n) (elim t [ true ↦ zero | false ↦ suc (lowest (λ k. p (suc k)) n) ])
    go true e l = record { within = zero-le; passes = λ i. e; below = λ k i. absurd (not-suc-le-zero i) }
    go false e l = lower p n _ e l

-- and nothing else is
pub lowest_only : {p : ℕ → Bool} {n a b : ℕ} → Lowest p n a → Lowest p n b → a ≡ b
lowest_only {p} {n} {a} {b} x y =
    by_order a b
    (λ l. clash (x.passes (omega (arith, y.within))) (y.below a l))
    (λ g. by_order b a (λ l. clash (y.passes (omega (arith, x.within))) (x.below b l)) (λ h. omega arith))

-- what an index that passes says of it: it is no higher
pub lowest_le : {p : ℕ → Bool} {n r k : ℕ} → Lowest p n r → p k ≡ true → r ≤ k
lowest_le {p} {n} {r} {k} l h = by_order k r (λ b. clash h (l.below k b)) (λ g. g)

-- a search passes one more index, or four more
pub below_next : {p : ℕ → Bool} {k : ℕ} → NoneBelow p k → p k ≡ false → NoneBelow p (k + 1)
below_next {p} = one_more {P = λ j. p j ≡ false}

pub below_four : {p : ℕ → Bool} {P : ℕ → Type 0} {k : ℕ} → ((j : ℕ) → P j → p j ≡ false) → EachOfFour P k → NoneBelow p k → NoneBelow p (k + 4)
below_four {p} fails f b = four_more {P = λ j. p j ≡ false} b (fails _ f.first) (fails _ f.second) (fails _ f.third) (fails _ f.fourth)

-- one that passes is enough
pub some_yes : (p : ℕ → Bool) (n k : ℕ) → k < n → p k ≡ true → some p n ≡ true
unfolding some
some_yes p n k l h = lt-ltb _ _ (lt_of_le_of_lt (lowest_le (lowest_is p n) h) l)

-- where some passes, the lowest does
pub some-lowest : (p : ℕ → Bool) (n : ℕ) → some p n ≡ true → (lowest p n < n) × (p (lowest p n) ≡ true)
unfolding some
some-lowest p n h = let l = ltb-true (lowest p n) n h in (l, (lowest_is p n).passes l)

-- where none passes, each fails; and the other way round
pub none_passes : (p : ℕ → Bool) (n : ℕ) → some p n ≡ false → NoneBelow p n
none_passes p n h k l = by_test (p k) (λ y. clash (some_yes p n k l y) h) (λ m. m)

pub all_fail : (p : ℕ → Bool) (n : ℕ) → NoneBelow p n → some p n ≡ false
all_fail p n f = by_test (some p n) (λ y. let s = some-lowest p n y in clash s.1 (f (lowest p n) s.0)) (λ m. m)

-- ---- a search that has passed the indices below k ends at one that passes, or at the bound
pub found : {p : ℕ → Bool} {n k : ℕ} → NoneBelow p k → k < n → p k ≡ true → Lowest p n k
found b l h = record { within = omega arith; passes = λ i. h; below = b }

pub exhausted : {p : ℕ → Bool} {n k : ℕ} → NoneBelow p k → n ≤ k → Lowest p n n
exhausted {n} b l = record { within = omega arith; passes = λ i. absurd (omega arith); below = λ j i. b j (omega arith) }

-- ---- a place below an end, or none: what the answer tells
pub below-some : (n m : ℕ) {k : ℕ} → Some k ≡ below n m → (k < n) × (m ≡ k)
below-some n m e = grind (arith, nat_tests)

pub below-none : (n m : ℕ) → None ≡ below n m → n ≤ m
below-none n m e = grind (arith, nat_tests)

-- ---- a search that answers a place, or none: it found the lowest, or passed all
pub answer_found : {p : ℕ → Bool} {n k : ℕ} → NoneBelow p k → k < n → p k ≡ true → Some k ≡ below n (lowest p n)
answer_found {p} {n} {k} b l h = let e : k ≡ lowest p n = lowest_only (found b l h) (lowest_is p n) in grind (arith, nat_tests)

pub answer_first : (p : ℕ → Bool) (n : ℕ) → 0 < n → p 0 ≡ true → Some 0 ≡ below n (lowest p n)
answer_first p n l h = answer_found (λ j i. absurd (omega arith)) l h

pub answer_none : (p : ℕ → Bool) (n : ℕ) → NoneBelow p n → None ≡ below n (lowest p n)
answer_none p n b = let e : n ≡ lowest p n = lowest_only (exhausted b (omega arith)) (lowest_is p n) in grind (arith, nat_tests)

-- what it found below an end is found below a later one, and where it found none none is
pub found_later : (p : ℕ → Bool) (m : ℕ) {n k : ℕ} {r : Option ℕ} → m ≤ n → r ≡ below m (lowest p m) → r ≡ Some k → Some k ≡ below n (lowest p n)
found_later p m {n} {k} l e f =
    let s = below-some m (lowest p m) (sym f ∙ e) in
    let here = rw s.1 at (lowest_is p m) in
    answer_found here.below (lt_of_lt_of_le s.0 l) (here.passes s.0)

pub passed_all : (p : ℕ → Bool) (n : ℕ) {r : Option ℕ} → r ≡ below n (lowest p n) → r ≡ None → NoneBelow p n
passed_all p n e f j l = (lowest_is p n).below j (lt_of_lt_of_le l (below-none n (lowest p n) (sym f ∙ e)))
