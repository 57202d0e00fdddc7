-- Tables 2, 3 and 4 of RULES.md (The decision tables, What a change writes): what a put and a delete write on a slot, chosen by
-- older or same run and by operation. Only this crate unfolds `changed`. Assumes nothing.
use Rattle.std.specs.Prelude.{cond, ℤ, pos}
use Rattle.std.specs.Int.Signed.{lt_z}
use Rattle.table.specs.declared.Slot.{Slot}
use Rattle.table.specs.Slots.{empty}
use Rattle.table_forms.specs.Operations.{insert_operation, update_operation, delete_operation, column, live}
use Rattle.table_forms.specs.declared.DecisionTable.{DecisionTable}
use Rattle.table_forms.specs.DecisionTables.{cell_at}
use Rattle.changes_cells.specs.declared.Cell.{Cell}
use Rattle.changes_cells.specs.declared.Cell.TheVariants.{Never, New, Restore, Save, Correct, Remove, Erase, Mark}

-- ---- what a change leaves of the slot x, by run m, with the totals that are given
-- old totals 0, current totals given, m, insert
abbrev pub new_insert : ℤ → ℤ → ℤ → ℤ → ℤ → Slot
new_insert m key1 key2 total1 total2 =
    record { run = m; operation = insert_operation; key1 = key1; key2 = key2; current1 = total1; current2 = total2; old1 = pos 0; old2 = pos 0 }

-- current totals given, operation update, old totals kept
abbrev pub restored : Slot → ℤ → ℤ → Slot
restored x total1 total2 =
    record { run = x.run; operation = update_operation; key1 = x.key1; key2 = x.key2; current1 = total1; current2 = total2; old1 = x.old1; old2 = x.old2 }

-- old totals take the current ones, current take the given, m, update
abbrev pub saved : ℤ → Slot → ℤ → ℤ → Slot
saved m x total1 total2 =
    record { run = m; operation = update_operation; key1 = x.key1; key2 = x.key2; current1 = total1; current2 = total2; old1 = x.current1; old2 = x.current2 }

-- only the current totals change
abbrev pub corrected : Slot → ℤ → ℤ → Slot
corrected x total1 total2 =
    record { run = x.run; operation = x.operation; key1 = x.key1; key2 = x.key2; current1 = total1; current2 = total2; old1 = x.old1; old2 = x.old2 }

-- old totals take the current ones, m, delete; current totals stay
abbrev pub removed : ℤ → Slot → Slot
removed m x =
    record { run = m; operation = delete_operation; key1 = x.key1; key2 = x.key2; current1 = x.current1; current2 = x.current2; old1 = x.current1; old2 = x.current2 }

-- an updated row's operation becomes delete; an inserted row becomes all zeros, `empty`
abbrev pub marked : Slot → Slot
marked x =
    record { run = x.run; operation = delete_operation; key1 = x.key1; key2 = x.key2; current1 = x.current1; current2 = x.current2; old1 = x.old1; old2 = x.old2 }

-- the slot that each cell leaves; an impossible one leaves the slot as it is
abbrev pub written : Cell → ℤ → Slot → ℤ → ℤ → ℤ → ℤ → Slot
written Never m x key1 key2 total1 total2 = x
written New m x key1 key2 total1 total2 = new_insert m key1 key2 total1 total2
written Restore m x key1 key2 total1 total2 = restored x total1 total2
written Save m x key1 key2 total1 total2 = saved m x total1 total2
written Correct m x key1 key2 total1 total2 = corrected x total1 total2
written Remove m x key1 key2 total1 total2 = removed m x
written Erase m x key1 key2 total1 total2 = empty
written Mark m x key1 key2 total1 total2 = marked x

-- ---- the tables. The first row is that of an older run, the second that of this run. A key with no slot has the empty one,
-- whose run number 0 is older
-- Table 2, a put of a key that is not live; its empty column is that of a key without a slot
abbrev pub table2 : DecisionTable Cell
table2 = record {
  holds = record { empty = New; insert = Never; update = Never; delete = New };
  fails = record { empty = Never; insert = Never; update = Never; delete = Restore };
}

-- Table 3, a put of a live key
abbrev pub table3 : DecisionTable Cell
table3 = record {
  holds = record { empty = Never; insert = Save; update = Save; delete = Never };
  fails = record { empty = Never; insert = Correct; update = Correct; delete = Never };
}

-- Table 4, delete
abbrev pub table4 : DecisionTable Cell
table4 = record {
  holds = record { empty = Never; insert = Remove; update = Remove; delete = Never };
  fails = record { empty = Never; insert = Erase; update = Mark; delete = Never };
}

-- what run m leaves of x by a decision table, for the key and the totals that are given
unfoldable pub changed : DecisionTable Cell → ℤ → Slot → ℤ → ℤ → ℤ → ℤ → Slot
changed table m x key1 key2 total1 total2 = written (cell_at table (lt_z x.run m) (column x)) m x key1 key2 total1 total2

-- a put of a live key goes by Table 3, of any other by Table 2
abbrev pub put_table : Slot → DecisionTable Cell
put_table x = cond (live x) table3 table2

-- what a put by run m leaves of x
abbrev pub put_over : ℤ → Slot → ℤ → ℤ → ℤ → ℤ → Slot
put_over m x key1 key2 total1 total2 = changed (put_table x) m x key1 key2 total1 total2

-- what a delete by run m leaves of x; it gives no totals, and no cell of Table 4 writes the key
abbrev pub deleted : ℤ → Slot → ℤ → ℤ → Slot
deleted m x key1 key2 = changed table4 m x key1 key2 (pos 0) (pos 0)
