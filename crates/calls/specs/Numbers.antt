-- The numbers of each answer, as RULES.md (Answers as numbers) gives them: the refusal first, 0 for none, then the answer's in
-- order. A refusal is its number, and zeros elsewhere. Assumes nothing.
use Rattle.std.specs.Prelude.{List, [], ◌∷◌, ℕ, ℤ, pos, Option, Some, None, Result, Ok, Err}
use Rattle.refusals.specs.declared.Refusal.{Refusal}
use Rattle.refusals.specs.Refusals.{number}
use Rattle.reads.specs.declared.Row.{Row}
use Rattle.reads_roll_up.specs.declared.Sums.{Sums}
use Rattle.blocks.specs.declared.Header.{Header}
use Rattle.calls.specs.Calls.{Answer}
use Rattle.calls.specs.Calls as call

-- open, begin, commit and roll back: the version
abbrev pub of_numbered : Result ℤ Refusal → List ℤ
of_numbered (Ok n) = pos 0 ∷ n ∷ []
of_numbered (Err e) = pos (number e) ∷ pos 0 ∷ []

-- a slot or key read: a row's mark is 1, then its two key words and two totals; no row is zeros under a mark of its own, 0
abbrev pub of_seen : Result (Option Row) Refusal → List ℤ
of_seen (Ok (Some x)) = pos 0 ∷ pos 1 ∷ x.key1 ∷ x.key2 ∷ x.total1 ∷ x.total2 ∷ []
of_seen (Ok None) = pos 0 ∷ pos 0 ∷ pos 0 ∷ pos 0 ∷ pos 0 ∷ pos 0 ∷ []
of_seen (Err e) = pos (number e) ∷ pos 0 ∷ pos 0 ∷ pos 0 ∷ pos 0 ∷ pos 0 ∷ []

-- roll-up: the count of rows, the rows that reported each total, and both sums
abbrev pub of_rolled : Result Sums Refusal → List ℤ
of_rolled (Ok x) = pos 0 ∷ pos x.rows ∷ pos x.reported1 ∷ pos x.reported2 ∷ x.sum1 ∷ x.sum2 ∷ []
of_rolled (Err e) = pos (number e) ∷ pos 0 ∷ pos 0 ∷ pos 0 ∷ pos 0 ∷ pos 0 ∷ []

-- a change: its slot number
abbrev pub of_placed : Result ℕ Refusal → List ℤ
of_placed (Ok k) = pos 0 ∷ pos k ∷ []
of_placed (Err e) = pos (number e) ∷ pos 0 ∷ []

-- load header: slots, current and the oldest open version
abbrev pub of_header : Result Header Refusal → List ℤ
of_header (Ok x) = pos 0 ∷ pos x.slots ∷ x.current ∷ x.oldest ∷ []
of_header (Err e) = pos (number e) ∷ pos 0 ∷ pos 0 ∷ pos 0 ∷ []

-- a save and load block: nothing more
abbrev pub of_done : Result Unit Refusal → List ℤ
of_done (Ok x) = pos 0 ∷ []
of_done (Err e) = pos (number e) ∷ []

abbrev pub numbers : Answer → List ℤ
numbers (call.numbered r) = of_numbered r
numbers (call.seen r) = of_seen r
numbers (call.rolled r) = of_rolled r
numbers (call.placed r) = of_placed r
numbers (call.saved r) = of_done r
numbers (call.header r) = of_header r
numbers (call.loaded r) = of_done r
