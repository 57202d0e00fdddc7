-- The lowest number below an end that passes a test, or the end; the place that a search answers, or none; and whether some number
-- below the end passes. Assumes nothing.
use Rattle.std.specs.Prelude.{◌≡◌, Bool, true, false, cond, ltb, Option, Some, None, ℕ, zero, suc, ◌+◌, ◌≤◌, ◌<◌}

unfoldable pub lowest : (ℕ → Bool) → ℕ → ℕ
lowest p zero = zero
lowest p (suc n) = elim (p zero) [ true ↦ zero | false ↦ suc (lowest (λ k. p (suc k)) n) ]

-- what it is: an index that passes, or the bound, below which nothing passes
pub record Lowest (p : ℕ → Bool) (n r : ℕ) : Type 0 where
  pub within : r ≤ n
  pub passes : r < n → p r ≡ true
  pub below : (k : ℕ) → k < r → p k ≡ false

-- a place below an end, or none
abbrev pub below : ℕ → ℕ → Option ℕ
below n k = cond (ltb k n) (Some k) None

-- ---- a search has passed the indices below a place: none of them passes
abbrev pub NoneBelow : (ℕ → Bool) → ℕ → Type 0
NoneBelow p k = (j : ℕ) → j < k → p j ≡ false

-- it passes four at a time, of each of which something holds
pub record EachOfFour (P : ℕ → Type 0) (k : ℕ) : Type 0 where
  pub first : P k
  pub second : P (k + 1)
  pub third : P (k + 2)
  pub fourth : P (k + 3)

-- ---- some index below the bound passes
unfoldable pub some : (ℕ → Bool) → ℕ → Bool
some p n = ltb (lowest p n) n
