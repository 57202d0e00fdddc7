-- The paper's expiry test of a row (RULES.md, Reads), which no call makes. Only this crate unfolds it. Assumes nothing.
use Rattle.std.specs.Prelude.{Bool, ℤ, pos, ◌-ℤ◌}
use Rattle.std.specs.Int.Signed.{lt_z}
use Rattle.table.specs.declared.Slot.{Slot}

-- the session has expired where it is below the run number − 1
unfoldable pub row_expired : ℤ → Slot → Bool
row_expired s x = lt_z s (x.run -ℤ pos 1)
