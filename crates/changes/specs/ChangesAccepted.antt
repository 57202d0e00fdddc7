-- What an accepted change of a whole table in which no key has two slots leaves, one theorem a call: its slot is written to the
-- effect that the call says, and no other slot has the key. Each goes by the cell that the slot's run and operation choose. Assumes
-- nothing.
use Rattle.std.specs.Prelude.{◌≡◌, refl, true, false, List, ℕ, ltb, ℤ, pos, Option, Some, None, Result}
use Rattle.std.proofs.Common.{sym, ◌∙◌, ltb-true, ltb-false}
use Rattle.std.specs.Int.Signed.{lt_z, le_z}
use Rattle.refusals.specs.declared.Refusal.{Refusal}
use Rattle.refusals.specs.declared.Refusal.TheVariants as refusal
use Rattle.laws.specs.TestLaws.{by_test, clash, not_no}
use Rattle.laws.specs.FirstLaws.{none}
use Rattle.laws.specs.OrderLaws.{next-lt_z, le_z_trans}
use Rattle.versions.specs.declared.VersionRecord.{VersionRecord}
use Rattle.versions.specs.Record.{bad_record, run_number}
use Rattle.versions.specs.RecordLaws.{sound}
use Rattle.table.specs.declared.Slot.{Slot}
use Rattle.table.specs.Slots.{slots, slot_at, empty}
use Rattle.table_forms.specs.Operations.{delete_operation, live}
use Rattle.table_forms.specs.OperationLaws.{live-cases}
use Rattle.table_forms.specs.TotalLaws.{given}
use Rattle.table_forms.specs.Totals.{Given}
use Rattle.table_forms.specs.Formed.{well_formed}
use Rattle.table_forms.specs.FormedLaws.{Used, live_used, formed_cases, dead_deleted}
use Rattle.table_keys.specs.Keys.{has_key, key_slot, keyed}
use Rattle.table_keys.specs.KeyLaws.{Keyed, has_key_lem, key_slot_is, empty_keyless, absent_empty, absent_nowhere, live_placed}
use Rattle.table_free.specs.Free.{free, free_slot}
use Rattle.table_free.specs.FreeLaws.{free_slot_is, free-cases}
use Rattle.reads.specs.declared.Row.{Row}
use Rattle.reads.specs.Table1.{shown}
use Rattle.reads.specs.Table1Laws.{shown-deleted, shown-empty}
use Rattle.changes_cells.specs.Tables.{put_over, deleted}
use Rattle.changes_cells.proofs.TableLaws.{put_new, put_deleted_older, put_deleted_same, put_live_older, put_live_same, deleted_older, deleted_insert, deleted_update}
use Rattle.changes.specs.Effects.{Effect, row, run_within, save_effect, correct_effect, remove_effect, erase_effect, mark_effect, restore_effect, insert_effect}
use Rattle.changes.specs.Whole.{Whole, KeysApart, Wrote, only_slot}
use Rattle.changes_rows.specs.PutRow.{slot_to_take}
use Rattle.changes.specs.Put.{put_refusal, put_answer, put_words}
use Rattle.changes.specs.Delete.{delete_refusal, delete_answer, delete_words}
use Rattle.changes.specs.ChangeOutcomes.{ChangeRefuses, ChangeAccepts, put_refuses, put_accepts, delete_refuses, delete_accepts}

module _ (v : VersionRecord) (known : bad_record v ≡ false) (active : v.active ≡ true) where
  -- an older run is one that is at most current
  older : (x : Slot) → lt_z x.run (run_number v) ≡ le_z x.run v.current
  older x = next-lt_z x.run v.current (sound known).low

  -- a free slot shows nothing at the two versions of a run
  pub free_unseen : (x : Slot) → free x v ≡ true → (shown v.current x ≡ None) × (shown (run_number v) x ≡ None)
  free_unseen x f =
      free-cases x v f
      (λ e. rw e (shown-empty v.current, shown-empty (run_number v)))
      (λ d. formed_cases x v d.formed
      (λ e. rw e (shown-empty v.current, shown-empty (run_number v)))
      (λ u. (
        shown-deleted v.current x (sym (older x) ∙ d.older) d.operation,
        shown-deleted (run_number v) x (run_within v known active u) d.operation,
      )))

  module _ (x : Slot) (key1 key2 : ℤ) (u : Used x v) (k : Keyed x key1 key2) where
    -- what a put makes of a live slot that has the key
    live_effect : (total1 total2 : ℤ) → live x ≡ true → Given total1 total2
        → Effect v x (put_over (run_number v) x key1 key2 total1 total2) key1 key2 (Some (row key1 key2 total1 total2))
    live_effect total1 total2 l g =
        by_test (le_z x.run v.current)
        (λ y. rw (put_live_older (run_number v) key1 key2 x total1 total2 l (older x ∙ y)) (save_effect v known active x key1 key2 u k total1 total2 g l y))
        (λ n. rw (put_live_same (run_number v) key1 key2 x total1 total2 l (older x ∙ n)) (correct_effect v known active x key1 key2 u k total1 total2 g l n))

    -- of a deleted one
    deleted_effect : (total1 total2 : ℤ) → x.operation ≡ delete_operation → Given total1 total2
        → Effect v x (put_over (run_number v) x key1 key2 total1 total2) key1 key2 (Some (row key1 key2 total1 total2))
    deleted_effect total1 total2 d g =
        by_test (le_z x.run v.current)
        (λ y. rw (put_deleted_older (run_number v) key1 key2 x total1 total2 d (older x ∙ y))
        (insert_effect v known active x key1 key2 total1 total2 g (shown-deleted v.current x y d) (shown-deleted (run_number v) x (run_within v known active u) d)))
        (λ n. rw (put_deleted_same (run_number v) key1 key2 x total1 total2 d (older x ∙ n)) (restore_effect v known active x key1 key2 u k total1 total2 g n d))

    -- and so of any
    keyed_effect : (total1 total2 : ℤ) → Given total1 total2
        → Effect v x (put_over (run_number v) x key1 key2 total1 total2) key1 key2 (Some (row key1 key2 total1 total2))
    keyed_effect total1 total2 g =
        by_test (live x) (λ l. live_effect total1 total2 l g) (λ n. deleted_effect total1 total2 (dead_deleted x v u n) g)

    -- and what a delete makes of a live one
    delete_effect : live x ≡ true → Effect v x (deleted (run_number v) x key1 key2) key1 key2 None
    delete_effect l =
        by_test (le_z x.run v.current)
        (λ y. rw (deleted_older (run_number v) key1 key2 x l (older x ∙ y)) (remove_effect v known active x key1 key2 u k y l))
        (λ n. live-cases x l
        (λ e. rw (deleted_insert (run_number v) key1 key2 x e (older x ∙ n)) (erase_effect v known active x key1 key2 u k n e))
        (λ e. rw (deleted_update (run_number v) key1 key2 x e (older x ∙ n)) (mark_effect v known active x key1 key2 u k n e)))

  -- what a put makes of a free slot, where the key has none
  first_effect : (x : Slot) (key1 key2 total1 total2 : ℤ) → free x v ≡ true → Given total1 total2
      → Effect v x (put_over (run_number v) empty key1 key2 total1 total2) key1 key2 (Some (row key1 key2 total1 total2))
  first_effect x key1 key2 total1 total2 f g =
      rw (put_new (run_number v) key1 key2 total1 total2 (older empty ∙ le_z_trans (pos 0) (pos 1) v.current refl (sound known).low))
      (insert_effect v known active x key1 key2 total1 total2 g (free_unseen x f).0 (free_unseen x f).1)

-- a slot that has a key and is well formed is used
pub keyed_used : (x : Slot) (v : VersionRecord) (key1 key2 : ℤ) → well_formed x v ≡ true → has_key x key1 key2 ≡ true → Used x v
keyed_used x v key1 key2 w h = formed_cases x v w (λ e. clash h (rw e (empty_keyless key1 key2))) (λ u. u)

-- ---- put writes at the key's slot, which is used and has the key, or where the key has none at a free one
pub put_wrote : (t : List ℤ) (v : VersionRecord) (key1 key2 total1 total2 : ℤ) → Whole t v → KeysApart t → put_refusal t v key1 key2 total1 total2 ≡ None
    → Wrote t v key1 key2 (Some (row key1 key2 total1 total2)) (slot_to_take t v key1 key2) (put_words t v key1 key2 total1 total2)
unfolding put_refusal put_words
put_wrote t v key1 key2 total1 total2 whole distinct h =
    let no = none _ h in
    let g = given total1 total2 (no refusal.BadTotal) in
    let x = keyed t key1 key2 in
    let k = key_slot t key1 key2 in
    let room : ltb (slot_to_take t v key1 key2) (slots t) ≡ true = not_no (no refusal.TableFull) in
    record {
      slot = put_over (run_number v) x key1 key2 total1 total2;
      place = ltb-true _ _ room;
      words = rw h refl;
      alone = by_test (ltb k (slots t))
          (λ y. rw y (only_slot t distinct k key1 key2 ((key_slot_is t key1 key2).passes (ltb-true _ _ y))))
          (λ n. λ j ne. absent_nowhere t key1 key2 (no refusal.BadTable) (ltb-false _ _ n) j);
      effect = by_test (ltb k (slots t))
          (λ y. let has = (key_slot_is t key1 key2).passes (ltb-true _ _ y) in
          let u = keyed_used x v key1 key2 (not_no (no refusal.BrokenSlot)) has in
          rw y (keyed_effect v (no refusal.BadRecord) (not_no (no refusal.NoRun)) x key1 key2 u (has_key_lem x key1 key2 has) total1 total2 g))
          (λ n. let taken = (free_slot_is t v).passes (ltb-true _ _ (rw n at room)) in
          rw (n, absent_empty t key1 key2 (no refusal.BadTable) (ltb-false _ _ n)) (first_effect v (no refusal.BadRecord) (not_no (no refusal.NoRun)) (slot_at t (free_slot t v)) key1 key2 total1 total2 taken g));
    }

-- ---- delete writes at a live key's slot
pub delete_wrote : (t : List ℤ) (v : VersionRecord) (key1 key2 : ℤ) → Whole t v → KeysApart t → delete_refusal t v key1 key2 ≡ None
    → Wrote t v key1 key2 None (key_slot t key1 key2) (delete_words t v key1 key2)
unfolding delete_refusal delete_words
delete_wrote t v key1 key2 whole distinct h =
    let no = none _ h in
    let x = keyed t key1 key2 in
    let l = not_no (no refusal.KeyNotLive) in
    let place = live_placed t key1 key2 whole.shape l in
    let has = (key_slot_is t key1 key2).passes place in
    record {
      slot = deleted (run_number v) x key1 key2;
      place = place;
      words = rw h refl;
      alone = only_slot t distinct (key_slot t key1 key2) key1 key2 has;
      effect = delete_effect v (no refusal.BadRecord) (not_no (no refusal.NoRun)) x key1 key2 (live_used x v l (whole.formed _)) (has_key_lem x key1 key2 has) l;
    }

-- ---- what comes of a change of a whole table: it is refused, or it is accepted and writes to its effect
pub data Came (t : List ℤ) (v : VersionRecord) (key1 key2 : ℤ) (after : Option Row) (r : Result ℕ Refusal) (t' : List ℤ) : Type 0 where
  refuses : (e : Refusal) → ChangeRefuses e t r t' → Came t v key1 key2 after r t'
  accepts : (k : ℕ) → ChangeAccepts v k r → Wrote t v key1 key2 after k t' → Came t v key1 key2 after r t'

-- by its refusal
came : {t t' : List ℤ} {v : VersionRecord} {key1 key2 : ℤ} {after : Option Row} {r : Result ℕ Refusal} {m : Option Refusal} {k : ℕ} → ((e : Refusal) → m ≡ Some e → ChangeRefuses e t r t')
    → (m ≡ None → ChangeAccepts v k r) → (m ≡ None → Wrote t v key1 key2 after k t') → Came t v key1 key2 after r t'
came {m = None} refused accepted wrote = accepts _ (accepted refl) (wrote refl)
came {m = Some e} refused accepted wrote = refuses e (refused e refl)

pub put_came : (t : List ℤ) (v : VersionRecord) (key1 key2 total1 total2 : ℤ) → Whole t v → KeysApart t
    → Came t v key1 key2 (Some (row key1 key2 total1 total2)) (put_answer t v key1 key2 total1 total2) (put_words t v key1 key2 total1 total2)
put_came t v key1 key2 total1 total2 whole distinct =
    came {m = put_refusal t v key1 key2 total1 total2} (put_refuses t v key1 key2 total1 total2) (put_accepts t v key1 key2 total1 total2) (put_wrote t v key1 key2 total1 total2 whole distinct)

pub delete_came : (t : List ℤ) (v : VersionRecord) (key1 key2 : ℤ) → Whole t v → KeysApart t
    → Came t v key1 key2 None (delete_answer t v key1 key2) (delete_words t v key1 key2)
delete_came t v key1 key2 whole distinct =
    came {m = delete_refusal t v key1 key2} (delete_refuses t v key1 key2) (delete_accepts t v key1 key2) (delete_wrote t v key1 key2 whole distinct)
