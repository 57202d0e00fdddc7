-- What holds of every index below k: it holds below k + 1 where it holds of k, and so below k + 4 where it holds of four more.
-- Assumes nothing.
use Rattle.std.specs.Prelude.{◌≡◌, ℕ, ◌+◌, ◌<◌}
use Rattle.std.proofs.Common.{sym, subst, arith}
use Rattle.laws.specs.TestLaws.{by_order}

pub one_more : {P : ℕ → Type 0} {k : ℕ} → ((j : ℕ) → j < k → P j) → P k → (j : ℕ) → j < k + 1 → P j
one_more {P} {k} b h j l =
    by_order j k (b j) (λ g. let e : j ≡ k = omega arith in subst P (sym e) h)

pub four_more : {P : ℕ → Type 0} {k : ℕ} → ((j : ℕ) → j < k → P j) → P k → P (k + 1) → P (k + 2) → P (k + 3) → (j : ℕ) → j < k + 4 → P j
four_more {P} {k} b e f g h j l =
    next (k + 3) (λ i m. next (k + 2) (λ i m. next (k + 1) (next k b e) f i (omega arith)) g i (omega arith)) h j (omega arith)
  where
    next : (n : ℕ) → ((i : ℕ) → i < n → P i) → P n → (i : ℕ) → i < n + 1 → P i
    next n = one_more {P = P}
