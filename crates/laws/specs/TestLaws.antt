-- The laws of tests that compute: going by one, and lists of them. A law asks for one test of a list by its place; what holds of
-- `any` follows from `all` by De Morgan. Assumes nothing.
use Rattle.std.specs.Prelude.{◌≡◌, refl, Bool, true, false, not, ◌&&◌, List, [], ◌∷◌, map, ℕ, zero, suc, ◌≤◌, ◌<◌, ltb, eqb, get_or}
use Rattle.std.proofs.Common.{sym, ap, ◌∙◌, subst, ltb-true, ltb-false, eqb-true}
use Rattle.std.proofs.lemmas.Bool.{false≢true, eqb-false}
use Rattle.std.proofs.Math.ListN.{get_or-map}
use Rattle.laws.specs.Tests.{and_all, all, or_any, any}

-- ---- going by a test
pub by_test : {P : Type 0} (t : Bool) → (t ≡ true → P) → (t ≡ false → P) → P
by_test true f g = f refl
by_test false f g = g refl

-- by the order of two numbers
pub by_order : {P : Type 0} (a b : ℕ) → (a < b → P) → (b ≤ a → P) → P
by_order a b f g = by_test (ltb a b) (λ y. f (ltb-true a b y)) (λ n. g (ltb-false a b n))

-- by whether two numbers are one
pub by_place : {P : Type 0} (j k : ℕ) → (j ≡ k → P) → ((j ≡ k → ⊥) → P) → P
by_place j k f g = by_test (eqb j k) (λ y. f (eqb-true j k y)) (λ n. g (eqb-false j k n))

pub clash : {P : Type 0} {t : Bool} → t ≡ true → t ≡ false → P
clash y n = absurd (false≢true (sym n ∙ y))

pub not_yes : {t : Bool} → not t ≡ true → t ≡ false
not_yes {t = true} e = clash e refl
not_yes {t = false} e = refl

pub not_no : {t : Bool} → not t ≡ false → t ≡ true
not_no {t = true} e = refl
not_no {t = false} e = clash refl e

and_all-first : (a : Bool) (l : List Bool) → and_all a l ≡ true → a ≡ true
and_all-first true l e = refl
and_all-first false [] e = e
and_all-first false (t ∷ l) e = and_all-first false l e

and_all-at : (a : Bool) (l : List Bool) (k : ℕ) → and_all a l ≡ true → get_or l k true ≡ true
and_all-at a [] k e = refl
and_all-at true (t ∷ l) zero e = and_all-first t l e
and_all-at true (t ∷ l) (suc k) e = and_all-at t l k e
and_all-at false (t ∷ l) k e = clash (and_all-first false l e) refl

-- where all hold, the one at a place does
pub all-at : (l : List Bool) (k : ℕ) → all l ≡ true → get_or l k true ≡ true
unfolding all
all-at [] k e = refl
all-at (t ∷ l) zero e = and_all-first t l e
all-at (t ∷ l) (suc k) e = and_all-at t l k e

and_all_no : (l : List Bool) → and_all false l ≡ false
and_all_no [] = refl
and_all_no (t ∷ l) = and_all_no l

and_all_no_at : (a : Bool) (l : List Bool) (k : ℕ) → get_or l k true ≡ false → and_all a l ≡ false
and_all_no_at a [] k e = clash refl e
and_all_no_at true (t ∷ l) zero e = subst (λ b. and_all b l ≡ false) (sym e) (and_all_no l)
and_all_no_at true (t ∷ l) (suc k) e = and_all_no_at t l k e
and_all_no_at false (t ∷ l) k e = and_all_no l

-- where the one at a place fails, not all hold
pub all_no : (l : List Bool) (k : ℕ) → get_or l k true ≡ false → all l ≡ false
unfolding all
all_no [] k e = clash refl e
all_no (t ∷ l) zero e = subst (λ b. and_all b l ≡ false) (sym e) (and_all_no l)
all_no (t ∷ l) (suc k) e = and_all_no_at t l k e

-- all hold where each does: `all_yes _ (p, (q, tt))`
abbrev pub Every : List Bool → Type 0
Every [] = Unit {0}
Every (t ∷ l) = (t ≡ true) × Every l

and_all_yes : (a : Bool) (l : List Bool) → a ≡ true → Every l → and_all a l ≡ true
and_all_yes a [] e w = e
and_all_yes a (t ∷ l) e w = and_all_yes (a && t) l (subst (λ b. b && t ≡ true) (sym e) w.0) w.1

pub all_yes : (l : List Bool) → Every l → all l ≡ true
unfolding all
all_yes [] w = refl
all_yes (t ∷ l) w = and_all_yes t l w.0 w.1

or_any-all : (a b : Bool) (l : List Bool) → not a ≡ b → or_any a l ≡ not (and_all b (map not l))
or_any-all true b [] e = ap not e
or_any-all false b [] e = ap not e
or_any-all true b (t ∷ l) e = or_any-all true (b && not t) l (subst (λ c. false ≡ c && not t) e refl)
or_any-all false b (t ∷ l) e = or_any-all t (b && not t) l (subst (λ c. not t ≡ c && not t) e refl)

pub any-all : (l : List Bool) → any l ≡ not (all (map not l))
unfolding any all
any-all [] = refl
any-all (t ∷ l) = or_any-all t (not t) l refl

-- where none holds, the one at a place does not
pub none-at : (l : List Bool) (k : ℕ) → any l ≡ false → get_or l k false ≡ false
none-at l k e = not_yes (sym (get_or-map not l k false) ∙ all-at (map not l) k (not_no (sym (any-all l) ∙ e)))
