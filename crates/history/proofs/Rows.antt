-- The rows of slots, by what each slot shows: in another order of the slots they are a permutation, and one slot's may be put
-- first, the others' behind it. By induction on the slots. Assumes nothing.
use Rattle.std.specs.Prelude.{◌≡◌, refl, true, false, cond, List, [], ◌∷◌, ◌++◌, ℕ, zero, suc, ◌<◌, eqb, ℤ, Option, None, option_to_list}
use Rattle.std.proofs.Common.{ap₂, ◌∙◌, append_assoc, arith, eqb-true, ne_eqb}
use Rattle.std.proofs.lemmas.Bool.{eqb-false}
use mathlib.Core.List.{Permᴰ}
use mathlib.Core.List.Permᴰ
use Rattle.laws.specs.TestLaws.{by_test}
use Rattle.laws.specs.Permutations.{by_perm}
use Rattle.calls.specs.Rows.{Row}
use Rattle.history.specs.Databases.{Database, holds, up_to}
use Rattle.history.proofs.DatabaseLaws.{holds-append, holds-perm}

-- the rows of slots in an order
abbrev pub rows_for : (ℕ → Option Row) → List ℕ → Database
rows_for f [] = []
rows_for f (k ∷ ks) = option_to_list (f k) ++ rows_for f ks

-- slot k's left out
abbrev pub hiding : ℕ → (ℕ → Option Row) → ℕ → Option Row
hiding k f j = cond (eqb j k) None (f j)

-- ---- slots in another order, and one first
pub front : (a b d : Database) → Permᴰ (a ++ (b ++ d)) (b ++ (a ++ d))
front a b d = rw (← append_assoc a b d, ← append_assoc b a d) (Permᴰ.append_right d (Permᴰ.append_comm a b))

pub rows_perm : (f : ℕ → Option Row) {ks ls : List ℕ} → Permᴰ ks ls → Permᴰ (rows_for f ks) (rows_for f ls)
rows_perm f =
    by_perm (λ ks ls. Permᴰ (rows_for f ks) (rows_for f ls)) Permᴰ.nil (λ k ks ls. Permᴰ.append_left (option_to_list (f k)))
    (λ j k ks. front (option_to_list (f j)) (option_to_list (f k)) (rows_for f ks)) (λ ks ls ms. Permᴰ.trans)

-- slots that show the same have the same rows
pub rows_same : (f g : ℕ → Option Row) (m : ℕ) → ((j : ℕ) → j < m → g j ≡ f j) → rows_for g (up_to m) ≡ rows_for f (up_to m)
rows_same f g zero same = refl
rows_same f g (suc m) same = ap₂ (λ r d. option_to_list r ++ d) (same m (omega arith)) (rows_same f g m (λ j l. same j (omega arith)))

pub focus : (f : ℕ → Option Row) (k m : ℕ) → k < m → Permᴰ (rows_for f (up_to m)) (option_to_list (f k) ++ rows_for (hiding k f) (up_to m))
focus f k zero h = absurd (omega arith)
focus f k (suc m) h =
    by_test (eqb m k)
    (λ y. let e : m ≡ k = eqb-true m k y in
    rw (y, rows_same f (hiding k f) m (λ j l. rw (ne_eqb j k (omega arith)) refl), e) (Permᴰ.refl _))
    (λ n. rw n
    (Permᴰ.trans (Permᴰ.append_left (option_to_list (f m)) (focus f k m (omega (arith, eqb-false m k n))))
    (front (option_to_list (f m)) (option_to_list (f k)) (rows_for (hiding k f) (up_to m)))))

-- ---- keys: where no slot shows a row of one, no row has it; where one does, some row has
pub rows_lack : (f : ℕ → Option Row) (p q : ℤ) (m : ℕ) → ((j : ℕ) → j < m → holds p q (option_to_list (f j)) ≡ false) → holds p q (rows_for f (up_to m)) ≡ false
rows_lack f p q zero none = refl
rows_lack f p q (suc m) none =
    rw (holds-append p q (option_to_list (f m)) (rows_for f (up_to m)), none m (omega arith)) (rows_lack f p q m (λ j l. none j (omega arith)))

pub rows_hold : (f : ℕ → Option Row) (p q : ℤ) (k m : ℕ) → k < m → holds p q (option_to_list (f k)) ≡ true → holds p q (rows_for f (up_to m)) ≡ true
rows_hold f p q k m l h = holds-perm p q (focus f k m l) ∙ holds-append p q (option_to_list (f k)) _ ∙ rw h
