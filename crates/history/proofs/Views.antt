-- A view of a table: what each version shows of each slot, and which key a slot has. A row that is shown has its slot's key, and
-- a slot has one key. Where no key has two slots, the rows that a version shows have no key twice, and the row of a key among
-- them is what the key's slot shows: it is the only slot that has it. Assumes nothing.
use Rattle.std.specs.Prelude.{◌≡◌, refl, Bool, true, false, ◌∷◌, ◌++◌, map, ℕ, zero, suc, ◌<◌, eqb, ℤ, Option, Some, None, is_some, option_to_list}
use Rattle.std.proofs.Common.{sym, ap, ◌∙◌, arith}
use Rattle.std.proofs.lemmas.Bool.{eqb-false}
use Rattle.laws.specs.TestLaws.{by_test, clash}
use Rattle.calls.specs.Rows.{Row}
use Rattle.calls.specs.Terms.{tally}
use Rattle.history.specs.Databases.{Database, is_key, holds, NoRepeat, found, up_to}
use Rattle.history.proofs.DatabaseLaws.{key_of, is_key_lem, found_absent, found-perm, held_found}
use Rattle.history.proofs.Rows.{rows_for, hiding, focus, rows_lack}

-- no row, or a row of a key that the slot has
abbrev pub Owned : (ℤ → ℤ → Bool) → Option Row → Type 0
Owned has (Some x) = has x.key1 x.key2 ≡ true
Owned has None = Unit {0}

pub by_row : (P : Option Row → Type 0) (has : ℤ → ℤ → Bool) (r : Option Row) → Owned has r → ((x : Row) → has x.key1 x.key2 ≡ true → P (Some x)) → P None → P r
by_row P has (Some x) o some none = some x o
by_row P has None o some none = none

pub record View : Type 0 where
  -- what a version shows of a slot
  pub shown : ℕ → ℕ → Option Row
  -- whether a slot has a key
  pub has : ℕ → ℤ → ℤ → Bool
  pub owned : (s k : ℕ) → Owned (has k) (shown s k)
  pub one_key : (k : ℕ) (p q p' q' : ℤ) → has k p q ≡ true → has k p' q' ≡ true → (p ≡ p') × (q ≡ q')

-- no key has two slots
pub record Distinct (T : View) : Type 0 where
  pub slot : (i j : ℕ) (p q : ℤ) → T.has i p q ≡ true → T.has j p q ≡ true → i ≡ j

-- a key's slot is the only one that has it
pub only : {T : View} → Distinct T → {k : ℕ} {p q : ℤ} → T.has k p q ≡ true → (j : ℕ) → (j ≡ k → ⊥) → T.has j p q ≡ false
only {T} d {k} {p} {q} h j ne = by_test (T.has j p q) (λ y. absurd (ne (d.slot j k p q y h))) (λ n. n)

-- the rows that a version shows in the first m slots
abbrev pub rows_at : View → ℕ → ℕ → Database
rows_at T s m = rows_for (T.shown s) (up_to m)

-- where a key is found: in a slot of the first m that has it, or nowhere, and then the slot that stands for it shows nothing
pub data Place (T : View) (m : ℕ) (p q : ℤ) (k : ℕ) : Type 0 where
  here : k < m → T.has k p q ≡ true → Place T m p q k
  nowhere : ((j : ℕ) → T.has j p q ≡ false) → ((s : ℕ) → T.shown s k ≡ None) → Place T m p q k

-- ---- what is shown of the slots: by one version, or by whichever of several shows a row
module _ {T : View} (distinct : Distinct T) (f : ℕ → Option Row) (owned : (k : ℕ) → Owned (T.has k) (f k)) where
  -- a slot that lacks a key shows no row of it
  pub lacks : (k : ℕ) (p q : ℤ) → T.has k p q ≡ false → holds p q (option_to_list (f k)) ≡ false
  lacks k p q h =
      by_row (λ r. holds p q (option_to_list r) ≡ false) _ (f k) (owned k)
      (λ x y. by_test (is_key p q x)
      (λ z. let e = key_of p q x z in clash (rw (e.0, e.1) at y) h)
      (λ z. rw z)) refl

  -- and one that has it, if it shows a row, shows that key's
  pub holds_own : (k : ℕ) (p q : ℤ) → T.has k p q ≡ true → holds p q (option_to_list (f k)) ≡ is_some (f k)
  holds_own k p q h =
      by_row (λ r. holds p q (option_to_list r) ≡ is_some r) _ (f k) (owned k)
      (λ x y. let e = T.one_key k x.key1 x.key2 p q y h in rw (is_key_lem p q x e.0 e.1)) refl

  pub rest_lacks : (k m : ℕ) (p q : ℤ) → ((j : ℕ) → (j ≡ k → ⊥) → T.has j p q ≡ false) → holds p q (rows_for (hiding k f) (up_to m)) ≡ false
  rest_lacks k m p q none =
      rows_lack (hiding k f) p q m (λ j l. by_test (eqb j k) (λ y. rw y refl) (λ n. rw n (lacks j p q (none j (eqb-false j k n)))))

  -- no key twice
  pub rows_norepeat : (m : ℕ) → NoRepeat (rows_for f (up_to m))
  rows_norepeat zero = tt
  rows_norepeat (suc m) =
      by_row (λ r. NoRepeat (option_to_list r ++ rows_for f (up_to m))) _ (f m) (owned m)
      (λ x y. (rows_lack f x.key1 x.key2 m (λ j l. lacks j x.key1 x.key2 (only distinct y j (omega arith))), rows_norepeat m))
      (rows_norepeat m)

  -- a key's row is what its slot shows
  found_own : (k : ℕ) (p q : ℤ) (d : Database) → T.has k p q ≡ true → holds p q d ≡ false → found p q (option_to_list (f k) ++ d) ≡ f k
  found_own k p q d h g =
      by_row (λ r. found p q (option_to_list r ++ d) ≡ r) _ (f k) (owned k)
      (λ x y. let e = T.one_key k x.key1 x.key2 p q y h in rw (is_key_lem p q x e.0 e.1)) (found_absent p q d g)

  pub found_here : (k m : ℕ) (p q : ℤ) → k < m → T.has k p q ≡ true → found p q (rows_for f (up_to m)) ≡ f k
  found_here k m p q l h =
      found-perm p q (focus f k m l) (rows_norepeat m)
      ∙ found_own k p q (rows_for (hiding k f) (up_to m)) h (rest_lacks k m p q (only distinct h))

  pub found_nowhere : (m : ℕ) (p q : ℤ) → ((j : ℕ) → T.has j p q ≡ false) → found p q (rows_for f (up_to m)) ≡ None
  found_nowhere m p q none = found_absent p q (rows_for f (up_to m)) (rows_lack f p q m (λ j l. lacks j p q (none j)))

  -- so a key is held exactly when its slot shows a row
  pub held_here : (k m : ℕ) (p q : ℤ) → k < m → T.has k p q ≡ true → holds p q (rows_for f (up_to m)) ≡ is_some (f k)
  held_here k m p q l h = held_found p q (rows_for f (up_to m)) ∙ ap is_some (found_here k m p q l h)

  -- the counts and sums of the rows are those of what the slots show
  pub tally_rows : (key1 : ℤ) (m : ℕ) → tally key1 (map f (up_to m)) ≡ tally key1 (map Some (rows_for f (up_to m)))
  tally_rows key1 zero = refl
  tally_rows key1 (suc m) =
      by_row (λ r. tally key1 (r ∷ map f (up_to m)) ≡ tally key1 (map Some (option_to_list r ++ rows_for f (up_to m)))) _ (f m) (owned m)
      (λ x y. rw (tally_rows key1 m)) (tally_rows key1 m)

-- what a version shows of the place of a key is the key's row among the rows that it shows
pub found-place : {T : View} → Distinct T → {m k : ℕ} {p q : ℤ} → Place T m p q k → (s : ℕ) → found p q (rows_at T s m) ≡ T.shown s k
found-place {T} distinct {m} {k} {p} {q} (here l h) s = found_here distinct (T.shown s) (T.owned s) k m p q l h
found-place {T} distinct {m} {k} {p} {q} (nowhere none no_row) s = found_nowhere distinct (T.shown s) (T.owned s) m p q none ∙ sym (no_row s)
