-- `changes_rows::put_new`: the free slot that the search found is written as `put_over` leaves the empty one. Assumes nothing.
use Rattle.std.proofs.Common.{sym, ◌∙◌, arith}
use Rattle.laws.specs.Bits.{plain}
use Rattle.laws.specs.First.{first}
use Rattle.laws.specs.LowestLaws.{below-some}
use Rattle.changes_rows.proofs.put_new.Goals as goal

pub returns : goal.returns
unfolding first
returns c =
    let place = below-some _ _ (sym c.in_ok-k.ensures.ok_part ∙ c.free_slot.ensures) in
    record { leaves = rw place.1 (grind (arith, plain, place.0)) }
