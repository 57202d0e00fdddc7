-- No key stands twice in a database that is followed, from the log alone: a change puts its row in place of what the key had, or
-- takes it out, and what is left without a key has no key that was not there. So by changes, by runs, and by what is heard of
-- every call no key stands twice. Assumes nothing.
use Rattle.std.specs.Prelude.{not, ◌≡◌, refl, false, ◌||◌, List, [], ◌∷◌, ℕ, zero, suc, ◌-◌, ℤ}
use Rattle.std.proofs.Common.{ap, ap₂, ◌∙◌}
use Rattle.std.proofs.lemmas.Map.Views.{any-filter_same}
use Rattle.laws.specs.TestLaws.{by_test}
use Rattle.history.specs.Databases.{Database, is_key, holds, NoRepeat, without, Change, gives, takes_out, changed, made_by}
use Rattle.history.specs.Followed.{Followed, current, after_runs, database_at, running, Heard, went_in, began_run, committed_run, rolled_back_run, loaded_block, with_changes, with_change, hear}
use Rattle.history.specs.Kinds.{Kind, World, heard_of, next, after}
use Rattle.history.proofs.DatabaseLaws.{neither}

-- ---- what is left without a key
lacks_it : (p q : ℤ) (d : Database) → holds p q (without p q d) ≡ false
lacks_it p q = any-filter_same (is_key p q) (λ r. not (is_key p q r)) false (λ r. ap not)

lacks_still : (p q p' q' : ℤ) (d : Database) → holds p' q' d ≡ false → holds p' q' (without p q d) ≡ false
lacks_still p q p' q' [] h = refl
lacks_still p q p' q' (r ∷ d) h =
    let no = neither (is_key p' q' r) (holds p' q' d) h in
    by_test (is_key p q r) (λ y. rw y (lacks_still p q p' q' d no.1)) (λ n. rw n (ap₂ ◌||◌ no.0 (lacks_still p q p' q' d no.1)))

without_once : (p q : ℤ) (d : Database) → NoRepeat d → NoRepeat (without p q d)
without_once p q [] once = tt
without_once p q (r ∷ d) once =
    by_test (is_key p q r) (λ y. rw y (without_once p q d once.1))
    (λ n. rw n (lacks_still p q r.key1 r.key2 d once.0, without_once p q d once.1))

-- ---- what changes and runs leave
changed_once : (c : Change) (d : Database) → NoRepeat d → NoRepeat (changed c d)
changed_once (gives p q a b) d once = (lacks_it p q d, without_once p q d once)
changed_once (takes_out p q) d once = without_once p q d once

pub made_once : (l : List Change) (d : Database) → NoRepeat d → NoRepeat (made_by l d)
made_once [] d once = once
made_once (c ∷ l) d once = made_once l (changed c d) (changed_once c d once)

runs_once : (k : ℕ) (runs : List (List Change)) (d : Database) → NoRepeat d → NoRepeat (after_runs k runs d)
runs_once zero runs d once = once
runs_once (suc k) [] d once = once
runs_once (suc k) (run ∷ runs) d once = runs_once k runs (made_by run d) (made_once run d once)

-- ---- so in every database that is followed, if it is so in the first
module _ (g : Followed) (once : NoRepeat g.opening) where
  pub database_once : (s : ℕ) → NoRepeat (database_at g s)
  database_once s = runs_once (s - g.origin) g.runs g.opening once

  pub running_once : NoRepeat (running g)
  running_once = made_once g.changes _ (database_once (current g))

-- which stays the first
opening_stays : (l : List Change) (g : Followed) → (with_changes l g).opening ≡ g.opening
opening_stays [] g = refl
opening_stays (c ∷ l) g = opening_stays l (with_change c g)

heard_opening : (x : Heard) (g : Followed) → (hear x g).opening ≡ g.opening
heard_opening (went_in l) g = opening_stays l g
heard_opening began_run g = refl
heard_opening committed_run g = refl
heard_opening rolled_back_run g = refl
heard_opening loaded_block g = refl

pub opening_after : {K : Kind} (h : List K.Call) (w : World K) → (after h w).told.opening ≡ w.told.opening
opening_after [] w = refl
opening_after (call ∷ h) w = opening_after h (next call w) ∙ heard_opening (heard_of call w) w.told
