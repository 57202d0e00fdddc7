-- What a read answers where it shows something, a row, and what a roll-up answers, its counts and sums, passed on to statements about
-- calls. Assumes nothing.
pub use Rattle.reads.specs.declared.Row.{Row}
pub use Rattle.reads_roll_up.specs.declared.Sums.{Sums}
