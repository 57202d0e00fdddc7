-- The tests that every change begins with. Assumes nothing.
use Rattle.std.specs.Prelude.{Bool, List, [], ◌∷◌, ℤ, Option}
use Rattle.refusals.specs.declared.Refusal.{Refusal}
use Rattle.refusals.specs.declared.Refusal.TheVariants as refusal
use Rattle.laws.specs.First.{first}
use Rattle.versions.specs.declared.VersionRecord.{VersionRecord}
use Rattle.versions.specs.Record.{bad_record, idle}
use Rattle.table.specs.Slots.{bad_table}

-- 1, 2, 8: every change begins with these
abbrev pub running_tests : List ℤ → VersionRecord → List (Bool × Refusal)
running_tests t v =
    (bad_table t, refusal.BadTable)
    ∷ (bad_record v, refusal.BadRecord)
    ∷ (idle v, refusal.NoRun)
    ∷ []

unfoldable pub running_refusal : List ℤ → VersionRecord → Option Refusal
running_refusal t v = first (running_tests t v)
