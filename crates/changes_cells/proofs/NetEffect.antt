-- The net effect of two changes of one run on the slot of one key: of two puts the second counts; a new row that is put again
-- stays an insert; a put takes a delete back; a new row deleted leaves zeros. Each is two cells, one after the other. Assumes
-- nothing.
use Rattle.std.specs.Prelude.{◌≡◌, refl, true, false, not, ℤ}
use Rattle.std.proofs.Common.{ap, ◌∙◌}
use Rattle.std.specs.Int.Signed.{lt_z}
use Rattle.laws.specs.OrderLaws.{le_z_refl, lt_z-le_z}
use Rattle.table.specs.declared.Slot.{Slot}
use Rattle.table.specs.Slots.{empty}
use Rattle.table_forms.specs.Operations.{live}
use Rattle.table_forms.specs.OperationLaws.{live_insert, live_update}
use Rattle.changes_cells.specs.Tables.{new_insert, saved, removed, put_over, deleted}
use Rattle.changes_cells.proofs.TableLaws.{put_deleted_same, put_live_older, put_live_same, deleted_older, deleted_insert}

module _ (m key1 key2 : ℤ) where
  -- a slot of run m is not of an older run
  this_run : lt_z m m ≡ false
  this_run = lt_z-le_z m m ∙ ap not (le_z_refl m)

  module _ (x : Slot) (older : lt_z x.run m ≡ true) (l : live x ≡ true) where
    -- the old totals are saved at the first put of a run, and at no later one
    pub put_twice : (a b c d : ℤ) → put_over m (put_over m x key1 key2 a b) key1 key2 c d ≡ put_over m x key1 key2 c d
    put_twice a b c d =
        rw (put_live_older m key1 key2 x a b l older, put_live_older m key1 key2 x c d l older)
        (put_live_same m key1 key2 (saved m x a b) c d (live_update _ refl) this_run)

    -- a put takes a delete of the same run back
    pub delete_then_put_lem : (a b : ℤ) → put_over m (deleted m x key1 key2) key1 key2 a b ≡ put_over m x key1 key2 a b
    delete_then_put_lem a b =
        rw (deleted_older m key1 key2 x l older, put_live_older m key1 key2 x a b l older)
        (put_deleted_same m key1 key2 (removed m x) a b refl this_run)

  -- a new row that is put again stays an insert
  pub new_then_put : (total1 total2 c d : ℤ) → put_over m (new_insert m key1 key2 total1 total2) key1 key2 c d ≡ new_insert m key1 key2 c d
  new_then_put total1 total2 c d = put_live_same m key1 key2 (new_insert m key1 key2 total1 total2) c d (live_insert _ refl) this_run

  -- a new row that is deleted leaves zeros
  pub new_then_delete : (total1 total2 : ℤ) → deleted m (new_insert m key1 key2 total1 total2) key1 key2 ≡ empty
  new_then_delete total1 total2 = deleted_insert m key1 key2 (new_insert m key1 key2 total1 total2) refl this_run
