-- `changes_rows::delete_row`: its tests are asked of the key's slot, as those of the definition are, and past both it is written as
-- `deleted` leaves it. Assumes nothing.
use Rattle.std.proofs.Common.{◌≡◌, sym, ◌∙◌, arith, List, ℕ, ◌<◌, ℤ, Option, Some, SFits, w64, to_z, of_z}
use Rattle.std.proofs.lemmas.Bool.Decides.{nat_tests}
use Rattle.laws.specs.Bits.{plain}
use Rattle.laws.specs.First.{first}
use Rattle.laws.specs.Lowest.{below}
use Rattle.laws.specs.LowestLaws.{below-some}
use Rattle.table.specs.Slots.{slots}
use Rattle.table_forms.specs.OperationLaws.{dead_empty}
use Rattle.table_forms.specs.FormedLaws.{empty_formed}
use Rattle.table_keys.specs.Keys.{key_slot}
use Rattle.table_keys.specs.KeyLaws.{absent_empty}
use Rattle.changes_rows.proofs.delete_row.Goals as goal

-- the place that the search found is the key's slot
found : (t : List ℤ) {key1 key2 : ℤ} {r : Option ℕ} {k : ℕ} → SFits w64 key1 → SFits w64 key2
    → r ≡ below (slots t) (key_slot t (to_z w64 (of_z w64 key1)) (to_z w64 (of_z w64 key2))) → r ≡ Some k → (k < slots t) × (key_slot t key1 key2 ≡ k)
found t f g e is = below-some _ _ (sym is ∙ (rw (plain _ f, plain _ g) at e))

-- a key with no slot has the empty one, which is not broken and not live
pub returns-in_err-k : goal.returns-in_err-k
unfolding first
returns-in_err-k c = grind (arith, nat_tests, absent_empty, empty_formed, dead_empty)

pub returns-then-is_broken : goal.returns-then-is_broken
unfolding first
returns-then-is_broken c =
    let place = found _ c.ranges.key1 c.ranges.key2 c.key_slot.ensures c.in_ok-k.ensures.ok_part in
    record { leaves = rw place.1 (grind (arith, plain)) }

pub returns-then-not-is_live : goal.returns-then-not-is_live
unfolding first
returns-then-not-is_live c =
    let place = found _ c.ranges.key1 c.ranges.key2 c.key_slot.ensures c.in_ok-k.ensures.ok_part in
    record { leaves = rw place.1 (grind (arith, plain)) }

pub place-requires-clause-in_table : goal.place-requires-clause-in_table
place-requires-clause-in_table c = (found _ c.ranges.key1 c.ranges.key2 c.key_slot.ensures c.in_ok-k.ensures.ok_part).0

pub returns : goal.returns
unfolding first
returns c =
    let place = found _ c.ranges.key1 c.ranges.key2 c.key_slot.ensures c.in_ok-k.ensures.ok_part in
    record { leaves = rw place.1 (grind (arith, plain)) }
