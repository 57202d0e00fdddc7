-- Open, begin and commit: the refusals of each in the order of RULES.md (The order of tests), its answer, the record that it
-- leaves, and the contract that says so. Each contract allows one outcome. Assumes nothing.
use Rattle.std.specs.Prelude.{◌≡◌, Bool, true, false, List, [], ◌∷◌, ℤ, Option, Result, Err}
use Rattle.refusals.specs.declared.Refusal.{Refusal}
use Rattle.refusals.specs.declared.Refusal.TheVariants as refusal
use Rattle.laws.specs.First.{first, unless, kept_or}
use Rattle.laws.specs.Order.{eq_z}
use Rattle.versions.specs.declared.VersionRecord.{VersionRecord}
use Rattle.versions_runs.specs.declared.Turned.{Turned}
use Rattle.versions.specs.Record.{largest_version, bad_record, idle, run_number}

-- ---- open: 2
abbrev pub open_tests : VersionRecord → List (Bool × Refusal)
open_tests v = (bad_record v, refusal.BadRecord) ∷ []

unfoldable pub open_refusal : VersionRecord → Option Refusal
open_refusal v = first (open_tests v)

-- open answers current, run or no run
unfoldable pub open_answer : VersionRecord → Result ℤ Refusal
open_answer v = unless (open_refusal v) v.current

pub record OpenContract (v : VersionRecord) (r : Result ℤ Refusal) : Type 0 where
  pub answer : r ≡ open_answer v

-- a refusal leaves the record as it was
abbrev pub kept_as : VersionRecord → Refusal → Turned
kept_as v e = record { answer = Err e; versions = v }

-- an answer, and the record that is left with it
abbrev pub turned_to : Result ℤ Refusal → VersionRecord → Turned
turned_to r v = record { answer = r; versions = v }

-- ---- begin: 2, 7, 9
abbrev pub begin_tests : VersionRecord → List (Bool × Refusal)
begin_tests v =
    (bad_record v, refusal.BadRecord)
    ∷ (v.active, refusal.RunActive)
    ∷ (eq_z v.current largest_version, refusal.NoVersionLeft)
    ∷ []

unfoldable pub begin_refusal : VersionRecord → Option Refusal
begin_refusal v = first (begin_tests v)

-- begin marks the record active and makes current the oldest open version
abbrev pub begun_from : VersionRecord → VersionRecord
begun_from v = record { current = v.current; active = true; oldest = v.current }

-- and answers current + 1
unfoldable pub begin_answer : VersionRecord → Result ℤ Refusal
begin_answer v = unless (begin_refusal v) (run_number v)

unfoldable pub begin_record : VersionRecord → VersionRecord
begin_record v = kept_or (begin_refusal v) v (begun_from v)

pub record BeginContract (v : VersionRecord) (r : Result ℤ Refusal) (v' : VersionRecord) : Type 0 where
  pub answer : r ≡ begin_answer v
  pub versions : v' ≡ begin_record v

-- ---- commit: 2, 8
abbrev pub commit_tests : VersionRecord → List (Bool × Refusal)
commit_tests v = (bad_record v, refusal.BadRecord) ∷ (idle v, refusal.NoRun) ∷ []

unfoldable pub commit_refusal : VersionRecord → Option Refusal
commit_refusal v = first (commit_tests v)

-- commit raises current by one, ends the run
abbrev pub committed_from : VersionRecord → VersionRecord
committed_from v = record { current = run_number v; active = false; oldest = v.oldest }

-- and answers the new current
unfoldable pub commit_answer : VersionRecord → Result ℤ Refusal
commit_answer v = unless (commit_refusal v) (run_number v)

unfoldable pub commit_record : VersionRecord → VersionRecord
commit_record v = kept_or (commit_refusal v) v (committed_from v)

pub record CommitContract (v : VersionRecord) (r : Result ℤ Refusal) (v' : VersionRecord) : Type 0 where
  pub answer : r ≡ commit_answer v
  pub versions : v' ≡ commit_record v
