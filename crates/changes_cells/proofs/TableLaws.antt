-- The laws of Tables 2 to 4, one for each sentence of RULES.md (What a change writes). Each is one cell. Assumes nothing.
use Rattle.std.specs.Prelude.{◌≡◌, true, false, ℤ, pos}
use Rattle.std.proofs.Math.Path.{refl}
use Rattle.std.specs.Int.Signed.{lt_z}
use Rattle.table.specs.declared.Slot.{Slot}
use Rattle.table.specs.Slots.{empty}
use Rattle.table_forms.specs.Operations.{insert_operation, update_operation, delete_operation, live}
use Rattle.table_forms.specs.OperationLaws.{live-cases, dead_empty, dead_delete, column-empty, column_insert, column_update, column_delete}
use Rattle.changes_cells.specs.Tables.{new_insert, restored, saved, corrected, removed, marked, changed, put_over, deleted}

module _ (m key1 key2 : ℤ) where
  -- ---- a put of a key that is not live. No slot for the key; key's slot deleted, older run; deleted by this run
  pub put_new : (total1 total2 : ℤ) → lt_z (pos 0) m ≡ true → put_over m empty key1 key2 total1 total2 ≡ new_insert m key1 key2 total1 total2
  unfolding changed
  put_new total1 total2 h = rw (dead_empty, h, column-empty empty refl) refl

  module _ (x : Slot) (total1 total2 : ℤ) (e : x.operation ≡ delete_operation) where
    pub put_deleted_older : lt_z x.run m ≡ true → put_over m x key1 key2 total1 total2 ≡ new_insert m key1 key2 total1 total2
    unfolding changed
    put_deleted_older h = rw (dead_delete x e, h, column_delete x e) refl

    pub put_deleted_same : lt_z x.run m ≡ false → put_over m x key1 key2 total1 total2 ≡ restored x total1 total2
    unfolding changed
    put_deleted_same h = rw (dead_delete x e, h, column_delete x e) refl

  -- ---- of a live key. Older run; this run
  module _ (x : Slot) (total1 total2 : ℤ) (l : live x ≡ true) where
    pub put_live_older : lt_z x.run m ≡ true → put_over m x key1 key2 total1 total2 ≡ saved m x total1 total2
    unfolding changed
    put_live_older h = live-cases x l (λ e. rw (l, h, column_insert x e) refl) (λ e. rw (l, h, column_update x e) refl)

    pub put_live_same : lt_z x.run m ≡ false → put_over m x key1 key2 total1 total2 ≡ corrected x total1 total2
    unfolding changed
    put_live_same h = live-cases x l (λ e. rw (l, h, column_insert x e) refl) (λ e. rw (l, h, column_update x e) refl)

  -- ---- delete. Older run; this run, inserted; this run, updated
  pub deleted_older : (x : Slot) → live x ≡ true → lt_z x.run m ≡ true → deleted m x key1 key2 ≡ removed m x
  unfolding changed
  deleted_older x l h = live-cases x l (λ e. rw (h, column_insert x e) refl) (λ e. rw (h, column_update x e) refl)

  pub deleted_insert : (x : Slot) → x.operation ≡ insert_operation → lt_z x.run m ≡ false → deleted m x key1 key2 ≡ empty
  unfolding changed
  deleted_insert x e h = rw (h, column_insert x e) refl

  pub deleted_update : (x : Slot) → x.operation ≡ update_operation → lt_z x.run m ≡ false → deleted m x key1 key2 ≡ marked x
  unfolding changed
  deleted_update x e h = rw (h, column_update x e) refl
