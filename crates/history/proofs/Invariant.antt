-- The invariant of a history, over a view of a table of m slots that keeps n versions: at each committed version that is not
-- gone, the rows shown are a permutation of its database, and in a run those at the run's number are a permutation of the
-- running database. It holds at a start. What keeps it is a step, and a step after a step is one. Assumes nothing.
use Rattle.std.specs.Prelude.{◌≡◌, refl, true, false, [], ℕ, suc, ◌-◌, ◌≤◌}
use Rattle.std.proofs.Common.{◌∙◌, arith}
use mathlib.Core.List.{Permᴰ}
use Rattle.laws.specs.TestLaws.{clash}
use Rattle.history.specs.Databases.{Database}
use Rattle.history.specs.Followed.{Followed, starting, current, database_at, running, Committed, Gone}
use Rattle.history.proofs.Rows.{rows_same}
use Rattle.history.proofs.Views.{View, Distinct, rows_at}
use Rattle.history.proofs.Growth.{Grows, grown, grows_twice, standing_grows}

pub record Inv (n m : ℕ) (T : View) (g : Followed) : Type 0 where
  pub many : 2 ≤ n
  pub distinct : Distinct T
  -- the last run that has begun is current's or the next; one that was rolled back has begun
  pub low : current g ≤ g.begun
  pub high : g.begun ≤ suc (current g)
  pub in_run : g.active ≡ true → g.begun ≡ suc (current g)
  -- with no run active, no change is left over
  pub settled : g.active ≡ false → g.changes ≡ []
  pub rows : (s : ℕ) → Committed g s → (Gone n g s → ⊥) → Permᴰ (rows_at T s m) (database_at g s)
  pub top : g.active ≡ true → Permᴰ (rows_at T (suc (current g)) m) (running g)

-- current is never gone
pub current_open : {n m : ℕ} {T : View} {g : Followed} → Inv n m T g → Gone n g (current g) → ⊥
current_open i h = omega (arith, i.many, i.high)

-- ---- what a call does, in one record: the invariant holds after it, what is followed only grows, and while a version is not gone
-- each slot shows there what it showed
pub record Step (n m : ℕ) (T : View) (g : Followed) (T' : View) (g' : Followed) : Type 0 where
  pub inv : Inv n m T' g'
  pub grows : Grows g g'
  pub stays : (s : ℕ) → Committed g s → (Gone n g' s → ⊥) → (k : ℕ) → T'.shown s k ≡ T.shown s k

pub then : {n m : ℕ} {T T' T'' : View} {g g' g'' : Followed} → Step n m T g T' g' → Step n m T' g' T'' g'' → Step n m T g T'' g''
then x y = record {
  inv = y.inv;
  grows = grows_twice x.grows y.grows;
  stays = λ s c kept k. y.stays s (grown x.grows c) kept k ∙ x.stays s c (λ h. kept (omega (arith, y.grows.begun))) k;
}

-- ---- a start: at its version the table shows its database
pub start_inv : {n m : ℕ} {T : View} (origin : ℕ) (d : Database) → 2 ≤ n → Distinct T → Permᴰ (rows_at T origin m) d → Inv n m T (starting origin d)
start_inv {n} {m} {T} origin d many distinct shown = record {
  many = many;
  distinct = distinct;
  low = omega arith;
  high = omega arith;
  in_run = λ a. clash a refl;
  settled = λ a. refl;
  rows = λ s c kept. let e : s ≡ origin = omega arith in let z : origin - origin ≡ 0 = omega arith in rw (e, z) shown;
  top = λ a. clash a refl;
}

-- ---- a call that does nothing
module _ {n m : ℕ} {T : View} {g : Followed} (i : Inv n m T g) where
  pub same_step : Step n m T g T g
  same_step = record { inv = i; grows = standing_grows g g.changes g.active; stays = λ s c kept k. refl }

  -- where the slots show the same at the open versions, so do the rows
  pub rows_stay : (T' : View) → ((s : ℕ) → Committed g s → (Gone n g s → ⊥) → (k : ℕ) → T'.shown s k ≡ T.shown s k)
      → (s : ℕ) → Committed g s → (Gone n g s → ⊥) → Permᴰ (rows_at T' s m) (database_at g s)
  rows_stay T' same s c kept = rw (rows_same (T.shown s) (T'.shown s) m (λ j l. same s c kept j)) (i.rows s c kept)
