-- What bounds a roll-up: rows whose totals are lawful, and the counts and sums of at most so many of them. Assumes nothing.
use Rattle.table_forms.specs.Totals.{Given, largest_total}
use Rattle.std.specs.Prelude.{ℕ, ◌*◌, ◌≤◌, nat_abs, Option, Some, None}
use Rattle.reads.specs.declared.Row.{Row}
use Rattle.reads_roll_up.specs.declared.Reported.{Reported}
use Rattle.reads_roll_up.specs.declared.Tally.{Tally}

-- ---- a row that is shown of a well formed slot has lawful totals
abbrev pub LawfulRow : Option Row → Type 0
LawfulRow (Some x) = Given x.total1 x.total2
LawfulRow None = Unit {0}

-- what at most k rows reported of a total
pub record Within (k : ℕ) (n : Reported) : Type 0 where
  pub rows : n.rows ≤ k
  pub sum : nat_abs n.sum ≤ largest_total * k

-- a tally of at most k rows
pub record Bounded (k : ℕ) (n : Tally) : Type 0 where
  pub rows : n.rows ≤ k
  pub total1 : Within k n.total1
  pub total2 : Within k n.total2
