-- A well formed slot, and refusal 6. Only this crate unfolds the definitions here; what they mean outside is `Used` of
-- `FormedLaws`. RULES.md, The table and its slots. Assumes nothing.
use Rattle.std.specs.Prelude.{Bool, not, ◌&&◌, ◌||◌, List, [], ◌∷◌, ℤ, pos}
use Rattle.laws.specs.Tests.{all}
use Rattle.laws.specs.Order.{eq_z, from_to}
use Rattle.laws.specs.Lowest.{some}
use Rattle.versions.specs.declared.VersionRecord.{VersionRecord}
use Rattle.versions.specs.Record.{last_run}
use Rattle.table.specs.declared.Slot.{Slot}
use Rattle.table.specs.Slots.{slots, slot_at}
use Rattle.table_forms.specs.Operations.{insert_operation, delete_operation}
use Rattle.table_forms.specs.Totals.{lawful}

-- it is all zeros
unfoldable pub all_zeros : Slot → Bool
all_zeros x =
    all (eq_z x.run (pos 0)
    ∷ eq_z x.operation (pos 0)
    ∷ eq_z x.key1 (pos 0)
    ∷ eq_z x.key2 (pos 0)
    ∷ eq_z x.current1 (pos 0)
    ∷ eq_z x.current2 (pos 0)
    ∷ eq_z x.old1 (pos 0)
    ∷ eq_z x.old2 (pos 0)
    ∷ [])

-- its four totals are lawful
unfoldable pub totals_lawful : Slot → Bool
totals_lawful x = all (lawful x.current1 ∷ lawful x.current2 ∷ lawful x.old1 ∷ lawful x.old2 ∷ [])

-- its old totals are 0
abbrev pub old_zero : Slot → Bool
old_zero x = eq_z x.old1 (pos 0) && eq_z x.old2 (pos 0)

-- its operation is 1 to 3, its run number is from 1 to current (to current + 1 while a run is active), its four totals are
-- lawful and, for operation 1, its old totals are 0
unfoldable pub used_well : Slot → VersionRecord → Bool
used_well x v =
    all (from_to insert_operation delete_operation x.operation
    ∷ from_to (pos 1) (last_run v) x.run
    ∷ totals_lawful x
    ∷ (not (eq_z x.operation insert_operation) || old_zero x)
    ∷ [])

-- a slot is well formed if it is all zeros, or that
unfoldable pub well_formed : Slot → VersionRecord → Bool
well_formed x v = all_zeros x || used_well x v

-- 6: a slot that the call rests on is not well formed
abbrev pub broken : Slot → VersionRecord → Bool
broken x v = not (well_formed x v)

-- 6, where the call rests on any slot: one of them is not well formed
unfoldable pub any_broken : List ℤ → VersionRecord → Bool
any_broken t v = some (λ k. broken (slot_at t k) v) (slots t)
