-- `versions::bad_record`: current out of range is the first test of the definition's list; where it is not, the number before it
-- fits, and the code's expression is the rest of the list, once the words are read as the numbers that they are (`plain`,
-- `eq_bits`). Assumes nothing.
use Rattle.std.proofs.Common.{rules, ◌≡◌, refl, true, false, w64, SFits, pos, ◌-ℤ◌}
use Rattle.laws.specs.Tests.{any}
use Rattle.laws.specs.OrderLaws.{from_to_lem}
use Rattle.laws.specs.Order.{from_to}
use Rattle.laws.specs.Bits.{plain, eq_bits, previous_fits}
use Rattle.versions.specs.Record.{bad_record, largest_version}
use Rattle.versions.proofs.bad_record.Goals as goal

pub returns-then-not-current : goal.returns-then-not-current
unfolding bad_record any
returns-then-not-current c =
    let current : SFits w64 c.args.versions.current = search rules in
    let outside : from_to (pos 1) largest_version c.args.versions.current ≡ false = rw (plain _ current) at c.if-not-current.true in
    rw outside refl

pub returns : goal.returns
unfolding bad_record any
returns c =
    let v = c.args.versions in
    let current : SFits w64 v.current = search rules in
    let oldest : SFits w64 v.oldest = search rules in
    let in_range : from_to (pos 1) largest_version v.current ≡ true = rw (plain _ current) at c.if-not-current.false in
    let less : SFits w64 (v.current -ℤ pos 1) = previous_fits _ current (from_to_lem (pos 1) largest_version v.current in_range).low in
    rw in_range
    (simp (plain _ current, plain _ oldest, eq_bits _ largest_version current (search rules), eq_bits _ _ oldest current, eq_bits _ _ oldest less))
