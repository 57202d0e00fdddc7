-- What `find` and `any` over a range answer, where their closure answers at each number what a test does: the lowest that passes, and
-- whether one passes. Each law takes the clause `ran` of the call and what one call of the closure gives. Assumes nothing.
use Rattle.std.specs.Prelude.{◌≡◌, refl, Bool, true, false, Option, Some, None, List, ℕ, ◌+◌, ◌-◌, ◌≤◌, ◌<◌, length, MatchOption, get_or}
use Rattle.std.proofs.Common.{sym, subst, arith, Bor}
use Rattle.std.specs.Bool.{⊤, MatchBool}
use Rattle.std.specs.List.{FoldsTo, range_with_len, AllWithin, HoldsAt}
use Rattle.std.specs.Fn.{Called, CalledAt}
use Rattle.std.specs.Iterator.{YieldsThen}
use Rattle.std.specs.declared.ops.Range.{Range}
use Rattle.std.proofs.iter.Yields.{nat_range_steps}
use Rattle.std.proofs.lemmas.Iterator.{YieldsList-from_range, first_from_Range, cases_from_any}
use Rattle.std.proofs.lemmas.List.FromFn.{length-range_with_len, get_or-range_with_len}
use denote.Param.Members.{Mut}
use Rattle.laws.specs.TestLaws.{by_order}
use Rattle.laws.specs.Lowest.{lowest, below, NoneBelow, some}
use Rattle.laws.specs.LowestLaws.{some_yes, all_fail, answer_found, answer_none}

-- where nothing before a range passes, and nothing in it up to a number, nothing below that number does
past : {p : ℕ → Bool} {a : ℕ} (n : ℕ) → NoneBelow p a → ((j : ℕ) → a ≤ j → j < n → p j ≡ false) → NoneBelow p n
past {a} n b h j l = by_order j a (b j) (λ g. h j g l)

module _ {F : Type 0} (p : ℕ → Bool) (s u : Range ℕ) (f : F) where
  -- where nothing before the range passes, `find` answers the lowest below its end
  pub find_lowest : {g : Mut F (Bor ℕ × Unit {0}) Bool} (r : Option ℕ)
      → (xs : List ℕ) × (j : F) × YieldsThen nat_range_steps s xs r u × FoldsTo (λ q x t. CalledAt g q x false t) f xs j × MatchOption r ⊤ (λ x. (h : F) × CalledAt g j x true h)
      → ((x : ℕ) (b : Bool) (q : F) → CalledAt g f x b q → (q ≡ f) × (b ≡ p x))
      → NoneBelow p s.start → r ≡ below s.end (lowest p s.end)
  find_lowest r ran calls b =
      answers r (first_from_Range s u f r (λ x. p x ≡ true) (λ x. p x ≡ false) ran (λ x q k. sym (calls x true q k).1) (λ x q k. let c = calls x false q k in (c.0, sym c.1)))
    where
      answers : (o : Option ℕ) → MatchOption o ((j : ℕ) → s.start ≤ j → j < s.end → p j ≡ false) (λ i. (s.start ≤ i) × (i < s.end) × (p i ≡ true) × ((j : ℕ) → s.start ≤ j → j < i → p j ≡ false)) → o ≡ below s.end (lowest p s.end)
      answers None h = answer_none p s.end (past s.end b h)
      answers (Some i) h = answer_found (past i b h.3) h.1 h.2

  -- and `any` answers whether some number below its end passes
  pub any_some : {g : Mut F (ℕ × Unit {0}) Bool} (r : Bool)
      → (xs : List ℕ) × (o : Option ℕ) × (j : F) × YieldsThen nat_range_steps s xs o u × FoldsTo (λ q x t. Called g q (x, tt) false t) f xs j × MatchOption o (r ≡ false) (λ x. (r ≡ true) × ((h : F) × Called g j (x, tt) true h))
      → ((x : ℕ) (b : Bool) (q : F) → Called g f (x, tt) b q → (q ≡ f) × (b ≡ p x))
      → NoneBelow p s.start → r ≡ some p s.end
  any_some r ran calls b =
      answers r (cases_from_any u f r (λ x. p x ≡ true) (λ x. p x ≡ false) ran (YieldsList-from_range s.start s.end _ refl refl) (λ x q k. sym (calls x true q k).1) (λ x q k. let c = calls x false q k in (c.0, sym c.1)))
    where
      all : List ℕ
      all = range_with_len s.start (s.end - s.start)

      long : length all ≡ s.end - s.start
      long = length-range_with_len s.start (s.end - s.start)

      at : (k : ℕ) → k < s.end - s.start → get_or all k 0 ≡ s.start + k
      at k l = get_or-range_with_len s.start (s.end - s.start) k 0 l

      answers : (t : Bool) → MatchBool t ((k : ℕ) × (k < length all) × HoldsAt (λ x. p x ≡ true) all k) (AllWithin (λ x. p x ≡ false) all 0 (length all)) → t ≡ some p s.end
      answers true h =
          let l : h.0 < s.end - s.start = omega (arith, long, h.1) in
          sym (some_yes p s.end (s.start + h.0) (omega arith) (subst (λ x. p x ≡ true) (at h.0 l) (h.2 0)))
      answers false h =
          sym (all_fail p s.end (past s.end b (λ j g l.
          let i : j - s.start < s.end - s.start = omega arith in
          let e : get_or all (j - s.start) 0 ≡ j = omega (arith, at (j - s.start) i) in
          subst (λ x. p x ≡ false) e (h (j - s.start) 0 (omega arith) (omega (arith, long))))))
