-- Either part of a put is the put: where the key has a slot there is one to take, and where it has none its slot is the empty one,
-- which is not broken. Assumes nothing.
use Rattle.std.specs.Prelude.{◌≡◌, false, not, List, [], ℕ, ℤ, Some, None, Result}
use Rattle.std.proofs.Common.{ap, lt-ltb, le-ltb}
use Rattle.refusals.specs.declared.Refusal.{Refusal}
use Rattle.refusals.specs.declared.Refusal.TheVariants as refusal
use Rattle.laws.specs.FirstLaws.{skip, under}
use Rattle.laws.specs.Lowest.{below}
use Rattle.laws.specs.LowestLaws.{below-some, below-none}
use Rattle.versions.specs.declared.VersionRecord.{VersionRecord}
use Rattle.table.specs.Slots.{bad_table, slots, slot_at, empty}
use Rattle.table_forms.specs.FormedLaws.{empty_formed}
use Rattle.table_keys.specs.Keys.{key_slot}
use Rattle.table_keys.specs.KeyLaws.{absent_empty}
use Rattle.table_free.specs.Free.{free_slot}
use Rattle.changes_cells.specs.declared.Given.{Given}
use Rattle.changes_rows.specs.PutRow.{RowPut}
use Rattle.changes_rows.specs.PutParts.{found_tests, new_tests, PutAt}
use Rattle.changes_rows.specs.LeavesLaws.{passed}

module _ {t t' : List ℤ} {v : VersionRecord} {g : Given} {r : Result ℕ Refusal} where
  pub found_put : {k : ℕ} → Some k ≡ below (slots t) (key_slot t g.key1 g.key2)
      → PutAt t v (found_tests t v k) k (slot_at t k) g r t' → RowPut t v g.key1 g.key2 g.total1 g.total2 r t'
  found_put {k} found w =
      let place = below-some (slots t) (key_slot t g.key1 g.key2) found in
      let has = lt-ltb k (slots t) place.0 in
      record { leaves = rw (place.1, has) (passed (under _ _ _ (skip refusal.TableFull [] (ap not has))) w.leaves) }

  pub new_put : bad_table t ≡ false → None ≡ below (slots t) (key_slot t g.key1 g.key2)
      → PutAt t v (new_tests t v) (free_slot t v) empty g r t' → RowPut t v g.key1 g.key2 g.total1 g.total2 r t'
  new_put sound none w =
      let past = below-none (slots t) (key_slot t g.key1 g.key2) none in
      record {
        leaves = rw (le-ltb (key_slot t g.key1 g.key2) (slots t) past, absent_empty t g.key1 g.key2 sound past)
            (passed (skip refusal.BrokenSlot _ (ap not (empty_formed v))) w.leaves);
      }
