-- What a contract sees of the bytes that are kept of a line. Assumes nothing.
use Rattle.std.specs.Prelude.{List, ℕ}

-- those bytes, in order, and what lies in the room behind them, of which no clause says anything
pub record Kept : Type 0 where
  pub items : List ℕ
  pub spare : List ℕ
