-- `steps_commands::fill_numbers`: `split` gives the fields of the line; a field taken is the first that was left (`one_less`), and
-- where none is given none was left (`none_left`). Assumes nothing.
use Rattle.std.proofs.Common.{◌≡◌, length, rules, sym, tests, arith, SFits, w64}
use Rattle.std.proofs.lemmas.Iterator.Splits.{YieldsList-from_slice_split}
use Rattle.laws.specs.Bits.{plain}
use Rattle.steps_commands.specs.Commands.{fields}
use Rattle.steps_commands.specs.NumberLaws.{none_read, number_read, no_number, too_few, too_many, all_read, none_left, one_less}
use Rattle.steps_commands.proofs.fill_numbers.Goals as goal

pub loop-number-init : goal.loop-number-init
unfolding fields
loop-number-init c = record {
  left = _;
  yields = YieldsList-from_slice_split _ _ c.args.line.now c.split-fields.ensures.rest c.split-fields.ensures.done c.split-fields.ensures.closure
      (λ x r q k. search (rules, tests));
  so_far = none_read _ _;
}

pub loop-number-preserved : goal.loop-number-preserved
loop-number-preserved c =
    let next = one_less c.next.new.self c.in_ok-next.field-0 c.loop-number.invariant.yields (rw c.in_ok-next.was at c.next.ensures.steps) in
    let fits : SFits w64 c.in_ok-number.field-0 = search rules in
    record {
      left = next.0;
      yields = next.2;
      so_far = rw (plain _ fits) (number_read {left = next.0} (omega arith) (sym c.in_ok-number.ensures) (rw next.1 at c.loop-number.invariant.so_far));
    }

pub returns-in_err-next : goal.returns-in_err-next
returns-in_err-next c =
    let none = none_left c.next.new.self c.loop-number.invariant.yields (rw c.in_err-next.was at c.next.ensures.steps) in
    let long : length c.args.numbers.now ≡ length c.loop-number.numbers = omega arith in
    rw (c.from_residual.ensures, long) (too_few (omega arith) (rw none at c.loop-number.invariant.so_far))

pub returns-in_err-number : goal.returns-in_err-number
returns-in_err-number c =
    let next = one_less c.next.new.self c.in_ok-next.field-0 c.loop-number.invariant.yields (rw c.in_ok-next.was at c.next.ensures.steps) in
    let long : length c.args.numbers.now ≡ length c.loop-number.numbers = omega arith in
    rw (c.from_residual-in_err-number.ensures, long)
    (no_number {left = next.0} (omega arith) (sym c.in_err-number.ensures) (rw next.1 at c.loop-number.invariant.so_far))

pub returns-in-Some : goal.returns-in-Some
returns-in-Some c =
    let next = one_less c.next-2.new.self c.in-Some.field-0 c.loop-number.invariant.yields (rw c.in-Some.is at c.next-2.ensures.steps) in
    let long : length c.args.numbers.now ≡ length c.loop-number.numbers = omega arith in
    rw long (too_many {left = next.0} (omega arith) (rw next.1 at c.loop-number.invariant.so_far))

pub returns-in-None : goal.returns-in-None
returns-in-None c =
    let none = none_left c.next-2.new.self c.loop-number.invariant.yields (rw c.in-None.is at c.next-2.ensures.steps) in
    let long : length c.args.numbers.now ≡ length c.loop-number.numbers = omega arith in
    rw long (all_read (omega arith) (rw none at c.loop-number.invariant.so_far))
