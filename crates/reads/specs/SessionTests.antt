-- The tests that begin every read's list: 1, 2, 3, 4. A session that passes them is open. Assumes nothing.
use Rattle.std.specs.Prelude.{Bool, List, [], ◌∷◌, ℤ, Option}
use Rattle.refusals.specs.declared.Refusal.{Refusal}
use Rattle.refusals.specs.declared.Refusal.TheVariants as refusal
use Rattle.laws.specs.First.{first}
use Rattle.versions.specs.declared.VersionRecord.{VersionRecord}
use Rattle.versions.specs.Record.{bad_record}
use Rattle.versions.specs.Sessions.{unborn, expired}
use Rattle.table.specs.Slots.{bad_table}

-- 1, 2, 3, 4: every read begins with these
abbrev pub session_tests : List ℤ → VersionRecord → ℤ → List (Bool × Refusal)
session_tests t v s =
    (bad_table t, refusal.BadTable)
    ∷ (bad_record v, refusal.BadRecord)
    ∷ (unborn v s, refusal.NoSuchVersion)
    ∷ (expired v s, refusal.Expired)
    ∷ []

unfoldable pub session_refusal : List ℤ → VersionRecord → ℤ → Option Refusal
session_refusal t v s = first (session_tests t v s)
