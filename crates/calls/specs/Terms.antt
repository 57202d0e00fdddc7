-- The library's terms that statements about calls are made in, passed on: equal numbers, the most slots, the largest version, the
-- fresh record and table, what says that a total is not reported, totals that are not lawful, and the counts and sums of rows.
-- Assumes nothing.
pub use Rattle.laws.specs.Order.{eq_z}
pub use Rattle.versions.specs.Record.{largest_version, fresh_record}
pub use Rattle.table.specs.Slots.{most_slots, fresh_table}
pub use Rattle.table_forms.specs.Totals.{not_reported, unlawful}
pub use Rattle.reads_roll_up.specs.RollUp.{tally, sums}
