-- A decision table: two rows, the one where its test holds and the one where it fails, with a cell for each operation. Assumes
-- nothing.
use Rattle.std.specs.Prelude.{Bool, true, false}
use Rattle.table_forms.specs.declared.Operation.{Operation}
use Rattle.table_forms.specs.declared.Operation.TheVariants.{Empty, Insert, Update, Delete}
use Rattle.table_forms.specs.declared.Columns.{Columns}
use Rattle.table_forms.specs.declared.DecisionTable.{DecisionTable}

-- the cell of a row at an operation
abbrev pub in_row : {A : Type 0} → Columns A → Operation → A
in_row row Empty = row.empty
in_row row Insert = row.insert
in_row row Update = row.update
in_row row Delete = row.delete

-- the cell of a table by the result of its test and an operation
abbrev pub cell_at : {A : Type 0} → DecisionTable A → Bool → Operation → A
cell_at table true operation = in_row table.holds operation
cell_at table false operation = in_row table.fails operation
