-- `steps_commands::read_digits`: the loop's invariant is that the bytes passed are digits and have made `number`, below 10 to their
-- count. Assumes nothing.
use Rattle.std.proofs.Common.{◌≡◌, true, ◌<◌, ◌^◌, take}
use Rattle.steps_commands.specs.Numerals.{all_digits, decimal_from}
use Rattle.steps_commands.proofs.read_digits.Given as goal

abbrev pub invariant-loop-byte : goal.invariant-loop-byte
invariant-loop-byte l = record {
  digits : all_digits (take l.byte-index l.field) ≡ true;
  made : l.number ≡ decimal_from 0 (take l.byte-index l.field);
  small : l.number < 10 ^ l.byte-index;
}
