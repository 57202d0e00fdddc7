-- Permutations: what holds step by step holds of a permutation, and a permutation keeps the length. Permutation is the library's;
-- the length is that of the native numbers. Assumes nothing.
use Rattle.std.specs.Prelude.{◌≡◌, refl, suc, length}
use Rattle.std.proofs.Common.{ap, ◌∙◌}
use Rattle.std.proofs.Math.Logic.{∥∥₁_elim}
use mathlib.Core.List.{List, [], ◌∷◌, Perm, Permᴰ}
use Rattle.std.proofs.Math.Nat.{ℕ_set}

-- what holds of nothing, of a head more on both, of two heads in the other order, and of one after another, holds of a permutation
pub by_perm : {A : Type 0} {l m : List A} (P : List A → List A → Type 0) → P [] [] → ((a : A) (l m : List A) → P l m → P (a ∷ l) (a ∷ m))
    → ((a b : A) (l : List A) → P (a ∷ b ∷ l) (b ∷ a ∷ l)) → ((l m n : List A) → P l m → P m n → P l n) → Permᴰ l m → P l m
by_perm P none head swap both Permᴰ.nil = none
by_perm P none head swap both (Permᴰ.cons {a = a} {l₁ = l} {l₂ = m} e d) = rw (← e) (head a l m (by_perm P none head swap both d))
by_perm P none head swap both (Permᴰ.swap {a = a} {b = b} {l = l} e f) = rw (← e, ← f) (swap a b l)
by_perm P none head swap both (Permᴰ.trans d e) = both _ _ _ (by_perm P none head swap both d) (by_perm P none head swap both e)

pub permᴰ-length : {A : Type 0} {l m : List A} → Permᴰ l m → length l ≡ length m
permᴰ-length = by_perm (λ l m. length l ≡ length m) refl (λ a l m. ap suc) (λ a b l. refl) (λ l m n. ◌∙◌)

-- a permutation keeps the length
pub perm-length : {A : Type 0} {l m : List A} → Perm l m → length l ≡ length m
perm-length p = ∥∥₁_elim p (ℕ_set _ _) permᴰ-length
