-- Which sessions are open: refusals 3 and 4, and where no test of a session applies. Only this crate unfolds the two refusals.
-- RULES.md, Runs and sessions. Assumes nothing.
use Rattle.std.specs.Prelude.{◌≡◌, Bool, false, [], ◌∷◌, ℤ, pos}
use Rattle.std.specs.Int.Signed.{lt_z}
use Rattle.laws.specs.Tests.{any}
use Rattle.versions.specs.declared.VersionRecord.{VersionRecord}
use Rattle.versions.specs.Record.{bad_record}

-- 3: session below 1 or above current
unfoldable pub unborn : VersionRecord → ℤ → Bool
unborn v s = any (lt_z s (pos 1) ∷ lt_z v.current s ∷ [])

-- 4: session below the oldest open version
unfoldable pub expired : VersionRecord → ℤ → Bool
expired v s = lt_z s v.oldest

-- no test of a record and a session applies: the session is open
pub record OpenSession (v : VersionRecord) (s : ℤ) : Type 0 where
  pub known : bad_record v ≡ false
  pub born : unborn v s ≡ false
  pub kept : expired v s ≡ false
