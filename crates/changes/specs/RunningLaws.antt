-- Where the tests that every change begins with pass, the table and the record are sound; and where these are, in a run, they pass.
-- And a list of tests that begins with them. Assumes nothing.
use Rattle.std.specs.Prelude.{◌≡◌, Bool, false, not, List, ◌++◌, ℤ, Option, Some, None, Err}
use Rattle.std.proofs.Common.{ap, ◌∙◌}
use Rattle.refusals.specs.declared.Refusal.{Refusal}
use Rattle.refusals.specs.declared.Refusal.TheVariants as refusal
use Rattle.laws.specs.First.{first, unless}
use Rattle.laws.specs.FirstLaws.{none, skip, done, pass, stop}
use Rattle.versions.specs.declared.VersionRecord.{VersionRecord}
use Rattle.versions.specs.Record.{bad_record, ActiveRun}
use Rattle.table.specs.Slots.{bad_table}
use Rattle.changes.specs.ChangeTests.{running_tests, running_refusal}

-- ---- where none of them is given
pub record Running (t : List ℤ) (v : VersionRecord) : Type 0 where
  pub table : bad_table t ≡ false
  pub known : bad_record v ≡ false

pub running : (t : List ℤ) (v : VersionRecord) → running_refusal t v ≡ None → Running t v
unfolding running_refusal
running t v h =
    let no = none _ h in
    record { table = no refusal.BadTable; known = no refusal.BadRecord }

-- and where they are, and a run is active, none of the tests applies
pub run_passes : (t : List ℤ) (v : VersionRecord) → bad_table t ≡ false → ActiveRun v → running_refusal t v ≡ None
unfolding running_refusal
run_passes t v table run = skip refusal.BadTable _ table ∙ skip refusal.BadRecord _ run.known ∙ skip refusal.NoRun _ (ap not run.active) ∙ done

-- ---- what asking them answers: one of them refuses, and so does a list that begins with them; or none does, and such a list is as
-- the tests after them say
refused : (m : Option Refusal) {e : Refusal} → Err e ≡ unless m (tt {0}) → m ≡ Some e
refused (Some e) h = cc
refused None h = cc

module _ (t : List ℤ) (v : VersionRecord) (l : List (Bool × Refusal)) where
  pub running_stops : {e : Refusal} → Err e ≡ unless (running_refusal t v) (tt {0}) → first (running_tests t v ++ l) ≡ Some e
  unfolding running_refusal
  running_stops {e} h = stop (running_tests t v) l e (refused (running_refusal t v) h)

  pub running_passes : running_refusal t v ≡ None → first (running_tests t v ++ l) ≡ first l
  unfolding running_refusal
  running_passes h = pass (running_tests t v) l h
