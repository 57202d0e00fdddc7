-- `steps_commands::fill_numbers`: the loop's invariant is that the iterator gives the fields that are left, and that the numbers so
-- far, with theirs, are those of all. Assumes nothing.
use Rattle.std.proofs.Common.{List, ℕ}
use Rattle.std.proofs.lemmas.Iterator.{YieldsList}
use Rattle.steps_commands.specs.Commands.{fields}
use Rattle.steps_commands.specs.NumberLaws.{ReadSoFar}
use Rattle.steps_commands.proofs.fill_numbers.Given as goal

abbrev pub invariant-loop-number : goal.invariant-loop-number
invariant-loop-number l = record {
  left : List (List ℕ);
  yields : YieldsList (goal.iterator-loop-number).next_gives (λ x. x.now) l.fields left;
  so_far : ReadSoFar (fields l.line) l.numbers l.number-index left;
}
