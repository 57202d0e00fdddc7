-- What is read where the invariant holds, at a committed version that is not gone: the rows shown are a permutation of its
-- database, so a key's row, a slot's row and the counts and sums of a region are the database's. A session that reads each slot once, at
-- any places of what follows, gets a permutation of it, since a step keeps what each slot shows there. Assumes nothing.
use Rattle.std.specs.Prelude.{◌≡◌, refl, true, List, [], ◌∷◌, ◌++◌, map, ℕ, zero, suc, ◌≤◌, ◌<◌, ℤ, length, is_some, option_to_list}
use Rattle.std.proofs.Common.{sym, ap, ◌∙◌, arith}
use Rattle.std.proofs.Math.Logic.{∥∥₁_map}
use mathlib.Core.List.{Perm}
use Rattle.laws.specs.Permutations.{perm-length}
use Rattle.calls.specs.Terms.{tally, sums}
use Rattle.history.specs.Databases.{Database, holds, found, IsOf, rolled_up, up_to}
use Rattle.history.specs.Followed.{Followed, current, database_at, running, Committed, Gone}
use Rattle.history.proofs.DatabaseLaws.{holds-perm, found-perm, rolled_perm, tally-region, held_found}
use Rattle.history.proofs.Rows.{rows_for, rows_perm}
use Rattle.history.proofs.Views.{View, rows_at, Place, by_row, rows_norepeat, found_here, found-place, tally_rows}
use mathlib.Core.List.Permᴰ
use Rattle.history.proofs.Invariant.{Inv, Step, same_step, then}

module _ {n m : ℕ} {T : View} {g : Followed} (i : Inv n m T g) where
  module _ {s : ℕ} (c : Committed g s) (kept : Gone n g s → ⊥) where
    -- a key is found alike in the rows and in the database
    found_rows : (p q : ℤ) → found p q (rows_at T s m) ≡ found p q (database_at g s)
    found_rows p q = found-perm p q (i.rows s c kept) (rows_norepeat i.distinct (T.shown s) (T.owned s) m)

    pub key_row : {p q : ℤ} {k : ℕ} → Place T m p q k → T.shown s k ≡ found p q (database_at g s)
    key_row {p} {q} at_place = sym (found-place i.distinct at_place s) ∙ found_rows p q

    -- a slot shows no row, or a row of the database
    pub slot_row : (k : ℕ) → k < m → IsOf (database_at g s) (T.shown s k)
    slot_row k l =
        by_row (λ r. T.shown s k ≡ r → IsOf (database_at g s) r) _ (T.shown s k) (T.owned s k)
        (λ x h e. sym (found_rows x.key1 x.key2) ∙ found_here i.distinct (T.shown s) (T.owned s) k m x.key1 x.key2 l h ∙ e) (λ e. tt) refl

    pub region-sums : (key1 : ℤ) → sums (tally key1 (map (T.shown s) (up_to m))) ≡ rolled_up key1 (database_at g s)
    region-sums key1 =
        ap sums (tally_rows i.distinct (T.shown s) (T.owned s) key1 m) ∙ tally-region key1 (rows_at T s m) ∙ rolled_perm key1 ∣ i.rows s c kept ∣₁

  -- in a run a key is in the running database exactly when its place shows a row at the run's number
  pub key_live_lem : g.active ≡ true → {p q : ℤ} {k : ℕ} → Place T m p q k → is_some (T.shown (suc (current g)) k) ≡ holds p q (running g)
  key_live_lem a {p} {q} at_place =
      ap is_some (sym (found-place i.distinct at_place (suc (current g)))) ∙ sym (held_found p q (rows_at T (suc (current g)) m)) ∙ holds-perm p q (i.top a)

-- ---- the reads of a session, in its order, with steps between: the slots that it asks for, and the rows that it gets
pub data Readings (n m s : ℕ) : View → Followed → List ℕ → Database → Type 0 where
  none : {T : View} {g : Followed} → Readings n m s T g [] []
  moved : {T T' : View} {g g' : Followed} {ks : List ℕ} {d : Database} → Step n m T g T' g' → Readings n m s T' g' ks d → Readings n m s T g ks d
  read : {T : View} {g : Followed} {ks : List ℕ} {d : Database} (k : ℕ) → (Gone n g s → ⊥) → Readings n m s T g ks d
      → Readings n m s T g (k ∷ ks) (option_to_list (T.shown s k) ++ d)

module _ {n m s : ℕ} {from : View} {g₀ : Followed} (c : Committed g₀ s) where
  -- the rows are those that the slots showed at the start
  got_rows : {T : View} {g : Followed} {ks : List ℕ} {d : Database} → Step n m from g₀ T g → Readings n m s T g ks d → d ≡ rows_for (from.shown s) ks
  got_rows x none = refl
  got_rows x (moved y r) = got_rows (then x y) r
  got_rows x (read k kept r) = rw (x.stays s c kept k, got_rows x r)

  -- and the version was not gone there, if anything was read
  was_open : {T : View} {g : Followed} {ks : List ℕ} {d : Database} → Step n m from g₀ T g → Readings n m s T g ks d → (length ks ≡ 0 → ⊥) → Gone n g₀ s → ⊥
  was_open x none some h = some refl
  was_open x (moved y r) some h = was_open (then x y) r some h
  was_open x (read k kept r) some h = kept (omega (arith, x.grows.begun))

up_to-length : (m : ℕ) → length (up_to m) ≡ m
up_to-length zero = refl
up_to-length (suc m) = ap suc (up_to-length m)

-- each slot once, in any order: each row of the database once
pub session_rows : {n m s : ℕ} {T : View} {g : Followed} {ks : List ℕ} {d : Database} → Inv n m T g → 1 ≤ m → Committed g s
    → Readings n m s T g ks d → Perm ks (up_to m) → Perm d (database_at g s)
session_rows {m} {s} {T} {ks} i some c r once =
    let x = same_step i in
    let asked : length ks ≡ 0 → ⊥ = λ e. omega (arith, e, perm-length once, up_to-length m) in
    ∥∥₁_map once (λ p. rw (got_rows c x r) (Permᴰ.trans (rows_perm (T.shown s) p) (i.rows s c (was_open c x r asked))))
