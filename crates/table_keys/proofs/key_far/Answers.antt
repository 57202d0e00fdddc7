-- `table_keys::key_far`: a group is passed since its four slots lie apart or since none of them has the key, and what the searches one
-- by one find is the lowest of all. Assumes nothing.
use Rattle.std.proofs.Common.{rules, arith}
use Rattle.laws.specs.Bits.{plain}
use Rattle.laws.specs.LowestLaws.{found_later, passed_all}
use Rattle.table_keys.specs.Keys.{key_slot}
use Rattle.table_keys.specs.KeyLaws.{past_four}
use Rattle.table_keys.proofs.key_far.Goals as goal
use Rattle.table_keys.proofs.key_far.Goals.{then-not-four_apart+in_default, else-not-four_apart}

pub returns-in-Some : goal.returns-in-Some
unfolding key_slot
returns-in-Some c = found_later _ _ (omega arith) (simp (plain _ c.ranges.key1, plain _ c.ranges.key2) at c.key_from-found.ensures) (cc)

pub loop-group-preserved : goal.loop-group-preserved
loop-group-preserved c =
    let inv = c.loop-group.invariant in
    elim c.if-not-four_apart.branch [
      | then-not-four_apart+in_default w ↦ (λ j h. passed_all _ _ w.key_from-found.ensures (cc) j (omega arith), search rules)
      | else-not-four_apart w ↦ (λ j h. past_four _ inv.1 (c.four_apart.ensures w.if-not-four_apart.false) inv.0 j (omega arith), search rules)
    ]
