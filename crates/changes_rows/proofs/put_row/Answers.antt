-- `changes_rows::put_row`: the key has a slot, or it has none; either part is the put (`found_put`, `new_put`). Assumes nothing.
use Rattle.std.proofs.Common.{rules, sym, ◌∙◌, w64, SFits}
use Rattle.laws.specs.Bits.{plain}
use Rattle.changes_rows.specs.PutPartLaws.{found_put, new_put}
use Rattle.changes_rows.proofs.put_row.Goals as goal

pub returns-in-Some : goal.returns-in-Some
returns-in-Some c =
    let key1 : SFits w64 c.args.given.key1 = search rules in
    let key2 : SFits w64 c.args.given.key2 = search rules in
    found_put (sym c.in-Some.is ∙ (rw (plain _ key1, plain _ key2) at c.key_slot.ensures)) c.put_found.ensures

pub returns-in-None : goal.returns-in-None
returns-in-None c =
    let key1 : SFits w64 c.args.given.key1 = search rules in
    let key2 : SFits w64 c.args.given.key2 = search rules in
    new_put c.requires.lawful_table (sym c.in-None.is ∙ (rw (plain _ key1, plain _ key2) at c.key_slot.ensures)) c.put_new.ensures
