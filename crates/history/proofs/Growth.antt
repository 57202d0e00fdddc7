-- What is followed only grows: runs that have begun, databases committed; a committed database is never altered, since a run adds
-- to the end of the log: so after a change and after a roll back, which touch no run that was committed, after a begin, and
-- after a commit. And a run makes its database of the one before. By induction on the runs. Assumes nothing.
use Rattle.std.specs.Prelude.{◌≡◌, refl, Bool, List, [], ◌∷◌, ◌++◌, ℕ, zero, suc, ◌-◌, ◌≤◌, ◌<◌, length, get_or}
use Rattle.std.proofs.Common.{ap, ◌∙◌, arith, length-append}
use Rattle.std.proofs.Math.Seq.{get_or-append_seam}
use Rattle.history.specs.Databases.{Database, Change, changed, made_by}
use Rattle.history.specs.Followed.{Followed, current, changes_of, after_runs, database_at, running, Committed, with_change, with_changes, run_begun, run_committed}

-- ---- the log: what is added at its end leaves what the runs before make; one run more, one change more
more_runs : (k : ℕ) (runs more : List (List Change)) (d : Database) → k ≤ length runs → after_runs k (runs ++ more) d ≡ after_runs k runs d
more_runs zero runs more d l = refl
more_runs (suc k) [] more d l = absurd (omega arith)
more_runs (suc k) (run ∷ runs) more d l = more_runs k runs more (made_by run d) (omega arith)

one_run : (k : ℕ) (runs : List (List Change)) (d : Database) → k < length runs → after_runs (suc k) runs d ≡ made_by (get_or runs k []) (after_runs k runs d)
one_run k [] d l = absurd (omega arith)
one_run zero (run ∷ runs) d l = refl
one_run (suc k) (run ∷ runs) d l = one_run k runs (made_by run d) (omega arith)

pub made_last : (l : List Change) (c : Change) (d : Database) → made_by (l ++ (c ∷ [])) d ≡ changed c (made_by l d)
made_last [] c d = refl
made_last (x ∷ l) c d = made_last l c (changed x d)

-- a run's changes make its database of the one before
pub run_made : (g : Followed) (v : ℕ) → Committed g v → Committed g (suc v) → database_at g (suc v) ≡ made_by (changes_of g (suc v)) (database_at g v)
run_made g v c d =
    let up : suc v - g.origin ≡ suc (v - g.origin) = omega (arith, c.from) in
    let place : suc v - suc g.origin ≡ v - g.origin = omega arith in
    rw (up, place) (one_run (v - g.origin) g.runs g.opening (omega (arith, c.from, d.to)))

-- ---- growth
pub record Grows (g g' : Followed) : Type 0 where
  pub origin : g'.origin ≡ g.origin
  pub begun : g.begun ≤ g'.begun
  pub current : current g ≤ current g'
  pub databases : (s : ℕ) → Committed g s → database_at g' s ≡ database_at g s

-- what is committed stays committed
pub grown : {g g' : Followed} {s : ℕ} → Grows g g' → Committed g s → Committed g' s
grown x c = record { from = omega arith; to = omega arith }

pub grows_twice : {g g' g'' : Followed} → Grows g g' → Grows g' g'' → Grows g g''
grows_twice x y = record {
  origin = y.origin ∙ x.origin;
  begun = omega (arith, x.begun, y.begun);
  current = omega (arith, x.current, y.current);
  databases = λ s c. y.databases s (grown x c) ∙ x.databases s c;
}

-- the current version is committed
pub current_committed : (g : Followed) → Committed g (current g)
current_committed g = record { from = omega arith; to = omega arith }

-- ---- what leaves the runs that were committed and those that have begun: a change, and a roll back, which drops the changes
pub standing_grows : (g : Followed) (l : List Change) (a : Bool)
    → Grows g (record { origin = g.origin; opening = g.opening; runs = g.runs; changes = l; begun = g.begun; active = a })
standing_grows g l a = record { origin = refl; begun = omega arith; current = omega arith; databases = λ s c. refl }

-- one change more makes one more of the running database
pub running-changed : (g : Followed) (c : Change) → running (with_change c g) ≡ changed c (running g)
running-changed g c = made_last g.changes c (database_at g (current g))

pub running_with : (l : List Change) (g : Followed) → running (with_changes l g) ≡ made_by l (running g)
running_with [] g = refl
running_with (c ∷ l) g = running_with l (with_change c g) ∙ ap (made_by l) (running-changed g c)

-- a begin is of the next run
pub begin_grows : (g : Followed) → g.begun ≤ suc (current g) → Grows g (run_begun g)
begin_grows g h = record { origin = refl; begun = h; current = omega arith; databases = λ s c. refl }

-- a commit adds a run at the end, and its database is the running one
pub counted : (g : Followed) → current (run_committed g) ≡ suc (current g)
counted g = omega (arith, length-append g.runs (g.changes ∷ []))

pub commit_grows : (g : Followed) → Grows g (run_committed g)
commit_grows g = record {
  origin = refl;
  begun = omega arith;
  current = omega (arith, counted g);
  databases = λ s c. more_runs (s - g.origin) g.runs (g.changes ∷ []) g.opening (omega (arith, c.from, c.to));
}

pub last_database : (g : Followed) → database_at (run_committed g) (suc (current g)) ≡ running g
last_database g =
    let up : suc (current g) - g.origin ≡ suc (length g.runs) = omega arith in
    let all : current g - g.origin ≡ length g.runs = omega arith in
    rw (up, all)
    (one_run (length g.runs) (g.runs ++ (g.changes ∷ [])) g.opening (omega (arith, length-append g.runs (g.changes ∷ [])))
    ∙ rw (get_or-append_seam g.runs g.changes [] [], more_runs (length g.runs) g.runs (g.changes ∷ []) g.opening (omega arith)))
