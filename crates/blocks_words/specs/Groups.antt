-- A list made of groups of one width, a group for each element of another list: its length, what stands at a place of a
-- group, and that its numbers are below what each group's are. Over the rule that makes a group, by recursion on the list.
-- Assumes nothing.
use Rattle.std.specs.Prelude.{◌≡◌, ℕ, zero, suc, ◌+◌, ◌*◌, ◌<◌, List, [], ◌∷◌, ◌++◌, length, replicate, slice_index_or}
use Rattle.std.specs.List.{flat_map}
use Rattle.std.proofs.Common.{zero-add, arith, length-append, get_or-append-add}
use Rattle.std.proofs.Math.Nat.{zero-mul, suc-mul}
use Rattle.std.proofs.Math.ListN.{get_or-append}
use Rattle.laws.specs.DigitLaws.{EachBelow}

module _ {A B : Type 0} (group : A → List B) (width : ℕ) (wide : (a : A) → length (group a) ≡ width) where
  -- so many groups of one width
  pub groups_length : (l : List A) → length (flat_map group l) ≡ length l * width
  groups_length [] = rw zero-mul
  groups_length (a ∷ l) = rw (length-append, wide, groups_length l, suc-mul) (omega arith)

  -- a place of a group
  pub groups_at : (l : List A) (i j : ℕ) (a : A) (b : B) → i < length l → j < width → slice_index_or (flat_map group l) (i * width + j) b ≡ slice_index_or (group (slice_index_or l i a)) j b
  groups_at [] i j a b h k = absurd (omega arith)
  groups_at (x ∷ l) zero j a b h k = rw (zero-mul, zero-add) (get_or-append (group x) (flat_map group l) b j (omega (arith, wide x)))
  groups_at (x ∷ l) (suc i) j a b h k =
      let place : suc i * width + j ≡ length (group x) + (i * width + j) = rw suc-mul (omega (arith, wide x)) in
      rw (place, get_or-append-add) (groups_at l i j a b (omega arith) k)

-- ---- numbers below a bound: one list after another
pub append-below : (bound : ℕ) (l m : List ℕ) → EachBelow bound l → EachBelow bound m → EachBelow bound (l ++ m)
append-below bound [] m p q i = q i
append-below bound (n ∷ l) m p q zero = p 0
append-below bound (n ∷ l) m p q (suc i) = append-below bound l m (λ j. p (suc j)) q i

-- zeros
pub zeros-below : (bound : ℕ) → 0 < bound → (n : ℕ) → EachBelow bound (replicate n 0)
zeros-below bound p zero i = p
zeros-below bound p (suc n) zero = p
zeros-below bound p (suc n) (suc i) = zeros-below bound p n i

-- and group after group
pub groups_below : {A : Type 0} (group : A → List ℕ) (bound : ℕ) → 0 < bound → ((a : A) → EachBelow bound (group a))
    → (l : List A) → EachBelow bound (flat_map group l)
groups_below group bound p below [] i = p
groups_below group bound p below (a ∷ l) i = append-below bound (group a) (flat_map group l) (below a) (groups_below group bound p below l) i
