-- `steps_replies::put_line`: the loop's invariant is that the word and the numbers so far stand from the place on, each number with its
-- space at most as long as the longest. Assumes nothing.
use Rattle.std.proofs.Common.{◌+◌, ◌*◌, ◌≤◌, ◌∷◌, ◌++◌, length, take, flat_map}
use Rattle.steps_commands.specs.Commands.{space_byte}
use Rattle.steps_replies.specs.Puts.{Put}
use Rattle.steps_replies.proofs.put_line.Given as goal

abbrev pub invariant-loop-number : goal.invariant-loop-number
invariant-loop-number g l = record {
  put : Put l.fn.buffer l.fn.place (l.word ++ flat_map (λ n. space_byte ∷ g.I.Integer.text n) (take l.number-index l.numbers)) l.next l.buffer;
  room : l.next ≤ l.fn.place + length l.word + l.number-index * (g.I.Integer.MAX_STR_LEN + 1);
}
