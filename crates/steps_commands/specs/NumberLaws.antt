-- Numbers read one after another: those read so far, and then those of the fields that are left, are those of all. Assumes nothing.
use Rattle.std.specs.Prelude.{◌≡◌, refl, List, [], ◌∷◌, ◌++◌, ℕ, suc, ◌+◌, ◌-◌, ◌<◌, ◌≤◌, ℤ, length, take, set, Option, Some, None, option_map, option_and_then}
use Rattle.std.proofs.Common.{sym, ap, ◌∙◌, append_assoc, append-nil, arith, take_all, length-set}
use Rattle.std.proofs.Math.Nat.{sub-zero}
use Rattle.std.proofs.lemmas.Iterator.{YieldsList}
use Rattle.std.proofs.lemmas.Iterator.Adapters.{option_map_id}
use Rattle.std.proofs.lemmas.List.{take_more_set}
use Rattle.steps_commands.specs.Numerals.{number_of}
use Rattle.steps_commands.specs.Commands.{numbers_of}

-- so many numbers of a list stand for the first fields of all
pub record ReadSoFar (all : List (List ℕ)) (numbers : List ℤ) (i : ℕ) (left : List (List ℕ)) : Type 0 where
  pub together : option_map (λ zs. take i numbers ++ zs) (numbers_of (length numbers - i) left) ≡ numbers_of (length numbers) all

pub none_read : (all : List (List ℕ)) (numbers : List ℤ) → ReadSoFar all numbers 0 all
none_read all numbers = record { together = rw sub-zero (option_map_id (numbers_of (length numbers) all)) }

module _ {all : List (List ℕ)} {numbers : List ℤ} {i : ℕ} where
  one_more : {f : List ℕ} {left : List (List ℕ)} → i < length numbers → ReadSoFar all numbers i (f ∷ left)
      → option_map (λ zs. take i numbers ++ zs) (option_and_then (λ z. option_map (λ zs. z ∷ zs) (numbers_of (length numbers - (i + 1)) left)) (number_of f)) ≡ numbers_of (length numbers) all
  unfolding numbers_of
  one_more {f} {left} l r =
      let next : length numbers - i ≡ suc (length numbers - (i + 1)) = omega arith in
      rw next at r.together

  -- one more
  pub number_read : {f : List ℕ} {left : List (List ℕ)} {z : ℤ} → i < length numbers → number_of f ≡ Some z
      → ReadSoFar all numbers i (f ∷ left) → ReadSoFar all (set numbers i z) (i + 1) left
  number_read {f} {left} {z} l e r = record {
    together = rw (length-set numbers i z, take_more_set numbers i z l) (front (numbers_of (length numbers - (i + 1)) left) ∙ (rw e at (one_more l r)));
  }
    where
      front : (rest : Option (List ℤ)) → option_map (λ zs. (take i numbers ++ z ∷ []) ++ zs) rest ≡ option_map (λ zs. take i numbers ++ zs) (option_map (λ zs. z ∷ zs) rest)
      front None = refl
      front (Some zs) = ap Some (append_assoc (take i numbers) (z ∷ []) zs)

  -- a field that is no number
  pub no_number : {f : List ℕ} {left : List (List ℕ)} → i < length numbers → number_of f ≡ None → ReadSoFar all numbers i (f ∷ left)
      → None ≡ numbers_of (length numbers) all
  no_number l e r = rw e at (one_more l r)

  -- a field too few, and one too many
  pub too_few : i < length numbers → ReadSoFar all numbers i [] → None ≡ numbers_of (length numbers) all
  unfolding numbers_of
  too_few l r =
      let next : length numbers - i ≡ suc (length numbers - (i + 1)) = omega arith in
      rw next at r.together

  pub too_many : {f : List ℕ} {left : List (List ℕ)} → length numbers ≤ i → ReadSoFar all numbers i (f ∷ left) → None ≡ numbers_of (length numbers) all
  unfolding numbers_of
  too_many l r = let done : length numbers - i ≡ 0 = omega arith in rw done at r.together

  -- all
  pub all_read : length numbers ≤ i → ReadSoFar all numbers i [] → Some numbers ≡ numbers_of (length numbers) all
  unfolding numbers_of
  all_read l r =
      let done : length numbers - i ≡ 0 = omega arith in
      ap Some (sym (append-nil _ ∙ take_all i numbers l)) ∙ (rw done at r.together)

-- ---- a step of an iterator that gives a list
module _ {S A B : Type 0} {steps : S → Option A → S → Type 0} {v : A → B} {s : S} (t : S) where
  pub none_left : {left : List B} → YieldsList steps v s left → steps s None t → left ≡ []
  none_left {left = []} y h = refl
  none_left {left = b ∷ left} y h = absurd (y.runs.0 t h)

  pub one_less : {left : List B} (x : A) → YieldsList steps v s left → steps s (Some x) t → (rest : List B) × (left ≡ v x ∷ rest) × YieldsList steps v t rest
  one_less {left = []} x y h = absurd (y.runs x t h)
  one_less {left = b ∷ left} x y h = let r = y.runs.1 x t h in (left, ap (λ c. c ∷ left) (sym r.0), record { runs = r.1 })
