-- Table 1 of RULES.md (The decision tables): what a session sees of a slot. Only this crate unfolds `shown`. Assumes nothing.
use Rattle.std.specs.Prelude.{ℤ, Option, Some, None}
use Rattle.std.specs.Int.Signed.{le_z}
use Rattle.table.specs.declared.Slot.{Slot}
use Rattle.table_forms.specs.Operations.{column}
use Rattle.table_forms.specs.declared.DecisionTable.{DecisionTable}
use Rattle.table_forms.specs.DecisionTables.{cell_at}
use Rattle.reads.specs.declared.Cell.{Cell}
use Rattle.reads.specs.declared.Cell.TheVariants.{IgnoreTuple, ReadCurrent, ReadOld}
use Rattle.reads.specs.declared.Row.{Row}

-- Table 1. The cells: ignore tuple, read current attribute values, read pre-update attribute values. The first row where the run
-- number is at most the session: current version; the second otherwise: pre-update version
abbrev pub table1 : DecisionTable Cell
table1 = record {
  holds = record { empty = IgnoreTuple; insert = ReadCurrent; update = ReadCurrent; delete = IgnoreTuple };
  fails = record { empty = IgnoreTuple; insert = IgnoreTuple; update = ReadOld; delete = ReadOld };
}

-- a row is answered as its two key words and two totals
abbrev pub current_row : Slot → Row
current_row x = record { key1 = x.key1; key2 = x.key2; total1 = x.current1; total2 = x.current2 }

abbrev pub old_row : Slot → Row
old_row x = record { key1 = x.key1; key2 = x.key2; total1 = x.old1; total2 = x.old2 }

-- what a cell says to read
abbrev pub read_cell : Cell → Slot → Option Row
read_cell IgnoreTuple x = None
read_cell ReadCurrent x = Some (current_row x)
read_cell ReadOld x = Some (old_row x)

-- a session reads a slot by Table 1: a row, or none
unfoldable pub shown : ℤ → Slot → Option Row
shown s x = read_cell (cell_at table1 (le_z x.run s) (column x)) x
