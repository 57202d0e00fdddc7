-- The slot that a put takes where its key has none. Only this crate unfolds `free` and `free_slot`. RULES.md, The table and
-- its slots. Assumes nothing.
use Rattle.std.specs.Prelude.{Bool, ◌||◌, List, [], ◌∷◌, ℕ, ℤ}
use Rattle.std.specs.Int.Signed.{lt_z}
use Rattle.laws.specs.Tests.{all}
use Rattle.laws.specs.Order.{eq_z}
use Rattle.laws.specs.Lowest.{lowest}
use Rattle.versions.specs.declared.VersionRecord.{VersionRecord}
use Rattle.versions.specs.Record.{run_number}
use Rattle.table.specs.declared.Slot.{Slot}
use Rattle.table.specs.Slots.{slots, slot_at}
use Rattle.table_forms.specs.Operations.{delete_operation}
use Rattle.table_forms.specs.Formed.{all_zeros, well_formed}

-- it is well formed and deleted by an older run
unfoldable pub long_deleted : Slot → VersionRecord → Bool
long_deleted x v = all (eq_z x.operation delete_operation ∷ lt_z x.run (run_number v) ∷ well_formed x v ∷ [])

-- it is all zeros, or that
unfoldable pub free : Slot → VersionRecord → Bool
free x v = all_zeros x || long_deleted x v

-- the lowest free slot: its number, or the number of slots where none is free
unfoldable pub free_slot : List ℤ → VersionRecord → ℕ
free_slot t v = lowest (λ k. free (slot_at t k) v) (slots t)
