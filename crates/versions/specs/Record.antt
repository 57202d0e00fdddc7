-- The version record: the largest version, the fresh record, refusal 2, and the run numbers that follow from a record. Only this
-- crate unfolds `bad_record`; what it means outside is `Sound` of `RecordLaws`. RULES.md, The version record. Assumes nothing.
use Rattle.std.specs.Prelude.{◌≡◌, Bool, true, false, cond, not, ◌&&◌, ◌||◌, [], ◌∷◌, ℤ, pos, ◌+ℤ◌, ◌-ℤ◌}
use Rattle.std.specs.Int.Signed.{lt_z}
use Rattle.laws.specs.Tests.{any}
use Rattle.laws.specs.Order.{eq_z, from_to}
use Rattle.versions.specs.declared.VersionRecord.{VersionRecord}

-- the largest version
abbrev pub largest_version : ℤ
largest_version = pos 1000000000

-- a fresh record has current version 1, no run active, and oldest open version 1
abbrev pub fresh_record : VersionRecord
fresh_record = record { current = pos 1; active = false; oldest = pos 1 }

-- 2: current version not in 1 to 1,000,000,000, or equal to 1,000,000,000 with a run active; an oldest open version below 1, not
-- current or current − 1, or not current during a run
unfoldable pub bad_record : VersionRecord → Bool
bad_record v =
    any (not (from_to (pos 1) largest_version v.current)
    ∷ (v.active && eq_z v.current largest_version)
    ∷ lt_z v.oldest (pos 1)
    ∷ not (eq_z v.oldest v.current || eq_z v.oldest (v.current -ℤ pos 1))
    ∷ (v.active && not (eq_z v.oldest v.current))
    ∷ [])

-- 8: no run is active
abbrev pub idle : VersionRecord → Bool
idle v = not v.active

-- a running maintenance has number current + 1
abbrev pub run_number : VersionRecord → ℤ
run_number v = v.current +ℤ pos 1

-- a run number is at most current, or current + 1 while a run is active
abbrev pub last_run : VersionRecord → ℤ
last_run v = cond v.active (run_number v) v.current

-- a run is active, of a record that is not refused
pub record ActiveRun (v : VersionRecord) : Type 0 where
  pub known : bad_record v ≡ false
  pub active : v.active ≡ true
