-- `steps_commands::read_digits`: a digit more of 19 makes no more than 64 bits hold (`room`). Assumes nothing.
use Rattle.std.proofs.Common.{ℕ, suc, ◌+◌, ◌*◌, ◌^◌, ◌<◌, ◌≤◌, arith, pow-suc}
use Rattle.std.proofs.Math.Nat.{pow-le-pow_right}
use Rattle.steps_commands.specs.Numerals.{most_digits}
use Rattle.steps_commands.proofs.read_digits.Goals as goal

room : (n i : ℕ) → n < 10 ^ i → i < most_digits → n * 10 + 10 ≤ 10 ^ most_digits
room n i small few = omega (arith, pow-suc 10 i, pow-le-pow_right {n = 10} (omega arith) {i = suc i} {j = most_digits} (omega arith))

pub overflow_mul-number : goal.overflow_mul-number
overflow_mul-number c = omega (arith, room _ _ c.loop-byte.invariant.small (omega arith))

pub overflow_add-number : goal.overflow_add-number
overflow_add-number c = omega (arith, room _ _ c.loop-byte.invariant.small (omega arith))
