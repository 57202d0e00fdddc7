-- What a session sees of any slot: its current row or its old one, and then the slot is used; or no row. Every cell of Table 1
-- is one of the three. Assumes nothing.
use Rattle.std.specs.Prelude.{◌≡◌, refl, Bool, true, false, ℤ, Option, Some, None}
use Rattle.std.specs.Int.Signed.{le_z}
use Rattle.laws.specs.TestLaws.{by_test}
use Rattle.laws.specs.OrderLaws.{eq_z_true}
use Rattle.laws.specs.Order.{eq_z}
use Rattle.table.specs.declared.Slot.{Slot}
use Rattle.table_forms.specs.declared.Operation.TheVariants.{Empty}
use Rattle.table_forms.specs.Operations.{empty_operation, column}
use Rattle.table_forms.specs.OperationLaws.{column-empty}
use Rattle.table_forms.specs.DecisionTables.{cell_at}
use Rattle.reads.specs.declared.Row.{Row}
use Rattle.reads.specs.declared.Cell.{Cell}
use Rattle.reads.specs.declared.Cell.TheVariants.{IgnoreTuple, ReadCurrent, ReadOld}
use Rattle.reads.specs.Table1.{table1, current_row, old_row, read_cell, shown}

-- what each cell reads
cell_cases : (P : Option Row → Type 0) (x : Slot) (cell : Cell) → P (Some (current_row x)) → P (Some (old_row x)) → P None → P (read_cell cell x)
cell_cases P x IgnoreTuple c o n = n
cell_cases P x ReadCurrent c o n = c
cell_cases P x ReadOld c o n = o

-- an empty column reads nothing
pub none_read : (x : Slot) (b : Bool) → read_cell (cell_at table1 b Empty) x ≡ None
none_read x true = refl
none_read x false = refl

pub shown-cases : (P : Option Row → Type 0) (s : ℤ) (x : Slot)
    → (eq_z x.operation empty_operation ≡ false → P (Some (current_row x)))
    → (eq_z x.operation empty_operation ≡ false → P (Some (old_row x)))
    → P None → P (shown s x)
unfolding shown
shown-cases P s x c o n =
    by_test (eq_z x.operation empty_operation)
    (λ y. rw (column-empty x (eq_z_true _ _ y), none_read x (le_z x.run s)) n)
    (λ u. cell_cases P x (cell_at table1 (le_z x.run s) (column x)) (c u) (o u) n)

-- a row of the slot's key, or no row
pub shown_own : (P : Option Row → Type 0) (s : ℤ) (x : Slot)
    → (eq_z x.operation empty_operation ≡ false → (a b : ℤ) → P (Some (record { key1 = x.key1; key2 = x.key2; total1 = a; total2 = b })))
    → P None → P (shown s x)
shown_own P s x row n = shown-cases P s x (λ u. row u _ _) (λ u. row u _ _) n

-- two sessions not before a slot's run see the same of it
pub shown_later : (s s' : ℤ) (x : Slot) → le_z x.run s ≡ true → le_z x.run s' ≡ true → shown s' x ≡ shown s x
unfolding shown
shown_later s s' x h h' = rw (h, h') refl
