-- A session that passes the tests that every read begins with is open, and one that is open passes them; and what they make of a
-- list that begins with them. Assumes nothing.
use Rattle.std.specs.Prelude.{◌≡◌, refl, Bool, false, List, ◌++◌, ℤ, Option, Some, None, Result, Ok, Err}
use Rattle.std.proofs.Common.{◌∙◌}
use Rattle.refusals.specs.declared.Refusal.{Refusal}
use Rattle.refusals.specs.declared.Refusal.TheVariants as refusal
use Rattle.laws.specs.FirstLaws.{none, skip, done, pass, stop}
use Rattle.laws.specs.First.{first, unless}
use Rattle.versions.specs.declared.VersionRecord.{VersionRecord}
use Rattle.versions.specs.Sessions.{OpenSession}
use Rattle.table.specs.Slots.{bad_table}
use Rattle.reads.specs.SessionTests.{session_tests, session_refusal}

-- ---- where none of them is given
pub record Open (t : List ℤ) (v : VersionRecord) (s : ℤ) : Type 0 where
  pub table : bad_table t ≡ false
  pub session : OpenSession v s

pub opened : (t : List ℤ) (v : VersionRecord) (s : ℤ) → session_refusal t v s ≡ None → Open t v s
unfolding session_refusal
opened t v s h =
    let no = none _ h in
    record { table = no refusal.BadTable; session = record { known = no refusal.BadRecord; born = no refusal.NoSuchVersion; kept = no refusal.Expired } }

-- and where one is open, none of them applies
pub open_passes : {t : List ℤ} {v : VersionRecord} {s : ℤ} → Open t v s → session_refusal t v s ≡ None
unfolding session_refusal
open_passes o = skip _ _ o.table ∙ skip _ _ o.session.known ∙ skip _ _ o.session.born ∙ skip _ _ o.session.kept ∙ done

-- ---- a list that begins with them: one of them refuses, or it is as the tests after them say
module _ (t : List ℤ) (v : VersionRecord) (s : ℤ) (l : List (Bool × Refusal)) where
  pub session_stops : {e : Refusal} → session_refusal t v s ≡ Some e → first (session_tests t v s ++ l) ≡ Some e
  unfolding session_refusal
  session_stops {e} h = stop (session_tests t v s) l e h

  pub session_passes : session_refusal t v s ≡ None → first (session_tests t v s ++ l) ≡ first l
  unfolding session_refusal
  session_passes h = pass (session_tests t v s) l h

-- ---- what an answer that says nothing but whether it refuses tells of the refusal
pub answered_err : {m : Option Refusal} {r : Result (Unit {0}) Refusal} {e : Refusal} → r ≡ unless m (tt {0}) → r ≡ Err e → m ≡ Some e
answered_err {m = Some e} told was = cc
answered_err {m = None} told was = cc

pub answered_ok : {m : Option Refusal} {r : Result (Unit {0}) Refusal} {u : Unit {0}} → r ≡ unless m (tt {0}) → r ≡ Ok u → m ≡ None
answered_ok {m = Some e} told was = cc
answered_ok {m = None} told was = refl
