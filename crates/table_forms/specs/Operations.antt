-- The operation word of a slot: its values, its column in the decision tables, and live. Only this crate unfolds `column` and
-- `live`. RULES.md, The table and its slots. Assumes nothing.
use Rattle.std.specs.Prelude.{Bool, cond, ◌||◌, ℤ, pos}
use Rattle.laws.specs.Order.{eq_z}
use Rattle.table.specs.declared.Slot.{Slot}
use Rattle.table_forms.specs.declared.Operation.{Operation}
use Rattle.table_forms.specs.declared.Operation.TheVariants.{Empty, Insert, Update, Delete}

-- operation: 0 empty, 1 insert, 2 update, 3 delete
abbrev pub empty_operation : ℤ
empty_operation = pos 0

abbrev pub insert_operation : ℤ
insert_operation = pos 1

abbrev pub update_operation : ℤ
update_operation = pos 2

abbrev pub delete_operation : ℤ
delete_operation = pos 3

-- the column of a slot's operation in the decision tables: insert, update, delete, and empty for any other word
unfoldable pub column : Slot → Operation
column x =
    cond (eq_z x.operation insert_operation) Insert
    (cond (eq_z x.operation update_operation) Update
    (cond (eq_z x.operation delete_operation) Delete Empty))

-- an operation word is that of a live slot: 1 or 2
abbrev pub live_word : ℤ → Bool
live_word z = eq_z z insert_operation || eq_z z update_operation

-- a slot is live if its operation is 1 or 2
unfoldable pub live : Slot → Bool
live x = live_word x.operation
