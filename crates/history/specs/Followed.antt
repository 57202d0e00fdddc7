-- What is followed of a history: a log of the changes that went in, run by run, and never the table. A database is what the log
-- makes of the one that the history starts with: database v is what the changes of the runs up to commit v leave. Assumes nothing.
use Rattle.std.specs.Prelude.{Bool, true, false, cond, not, ◌&&◌, List, [], ◌∷◌, ◌++◌, ℕ, zero, suc, ◌+◌, ◌-◌, ◌≤◌, leb, length, get_or}
use Rattle.history.specs.Databases.{Database, Change, made_by, up_to}

pub record Followed : Type 0 where
  -- the version that the history starts at, and its database
  pub origin : ℕ
  pub opening : Database
  -- the changes of each run that was committed since, one list a run
  pub runs : List (List Change)
  -- the changes so far of the run that is active
  pub changes : List Change
  -- the number of the last run that has begun
  pub begun : ℕ
  -- whether a run is active
  pub active : Bool

-- a history that starts at a version, with its database: no later run has begun
abbrev pub starting : ℕ → Database → Followed
starting version d = record { origin = version; opening = d; runs = []; changes = []; begun = version; active = false }

-- a fresh start is at version 1, whose database is empty
abbrev pub fresh_start : Followed
fresh_start = starting 1 []

-- the current version is the last committed
abbrev pub current : Followed → ℕ
current g = g.origin + length g.runs

-- the changes of run v, of the runs after the start
abbrev pub changes_of : Followed → ℕ → List Change
changes_of g v = get_or g.runs (v - suc g.origin) []

-- ---- the databases
-- what the first so many runs make of a database, one after another
abbrev pub after_runs : ℕ → List (List Change) → Database → Database
after_runs zero runs d = d
after_runs (suc k) [] d = d
after_runs (suc k) (run ∷ runs) d = after_runs k runs (made_by run d)

abbrev pub database_at : Followed → ℕ → Database
database_at g v = after_runs (v - g.origin) g.runs g.opening

-- the running database: what the changes so far make of the current one
abbrev pub running : Followed → Database
running g = made_by g.changes (database_at g (current g))

-- ---- versions
-- a version that is committed, from the first up
pub record Committed (g : Followed) (s : ℕ) : Type 0 where
  pub from : g.origin ≤ s
  pub to : s ≤ current g

abbrev pub HasBegun : Followed → ℕ → Type 0
HasBegun g run = run ≤ g.begun

-- a version is gone from a table that keeps n versions once run s + n has begun
abbrev pub Gone : ℕ → Followed → ℕ → Type 0
Gone n g s = HasBegun g (s + n)

-- the versions that are open, the last first: committed, and not gone
abbrev pub is_open : ℕ → Followed → ℕ → Bool
is_open n g s = leb g.origin s && not (leb (s + n) g.begun)

abbrev pub open_of : ℕ → Followed → List ℕ → List ℕ
open_of n g [] = []
open_of n g (s ∷ l) = cond (is_open n g s) (s ∷ open_of n g l) (open_of n g l)

abbrev pub open_versions : ℕ → Followed → List ℕ
open_versions n g = open_of n g (up_to (suc (current g)))

-- ---- what is heard of a call: the changes that went in of it, that it began a run, committed it or rolled it back, or that it loaded
-- a block
pub data Heard : Type 0 where
  went_in : List Change → Heard
  began_run : Heard
  committed_run : Heard
  rolled_back_run : Heard
  loaded_block : Heard

abbrev pub nothing : Heard
nothing = went_in []

-- one change more in the run that is active
abbrev pub with_change : Change → Followed → Followed
with_change c g = record { origin = g.origin; opening = g.opening; runs = g.runs; changes = g.changes ++ (c ∷ []); begun = g.begun; active = g.active }

abbrev pub with_changes : List Change → Followed → Followed
with_changes [] g = g
with_changes (c ∷ l) g = with_changes l (with_change c g)

-- a run begins with no change, and has the number after current
abbrev pub run_begun : Followed → Followed
run_begun g = record { origin = g.origin; opening = g.opening; runs = g.runs; changes = []; begun = suc (current g); active = true }

-- a commit ends it, and adds its changes to the log
abbrev pub run_committed : Followed → Followed
run_committed g = record { origin = g.origin; opening = g.opening; runs = g.runs ++ (g.changes ∷ []); changes = []; begun = g.begun; active = false }

-- a roll back ends it, and drops its changes; it has begun all the same
abbrev pub run_rolled_back : Followed → Followed
run_rolled_back g = record { origin = g.origin; opening = g.opening; runs = g.runs; changes = []; begun = g.begun; active = false }

-- a block that is loaded starts another history, which is not followed here
abbrev pub hear : Heard → Followed → Followed
hear (went_in l) g = with_changes l g
hear began_run g = run_begun g
hear committed_run g = run_committed g
hear rolled_back_run g = run_rolled_back g
hear loaded_block g = g
