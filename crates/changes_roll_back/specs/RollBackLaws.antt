-- What roll back leaves. Of a slot, by the three cases of `rolled_back`: it is well formed for the record that is left, shows the
-- session at current what it showed, and has no key that it had not. Of a table, by its slots one after another: slot k is what is
-- left of slot k. Of the record: it is sound. And of a call, by its refusal. Assumes nothing.
use Rattle.std.specs.Prelude.{◌≡◌, refl, true, false, not, List, ℕ, zero, suc, ◌+◌, ◌/◌, ◌≤◌, ◌<◌, ℤ, pos, negsuc, ◌+ℤ◌, length, Some, None, Result, Ok, Err}
use Rattle.std.proofs.Common.{sym, ap, ◌∙◌, arith, leb-true, le-leb}
use Rattle.std.specs.Int.Signed.{le_z}
use Rattle.std.proofs.lemmas.Bool.{eqb-false}
use Rattle.refusals.specs.declared.Refusal.{Refusal}
use Rattle.refusals.specs.declared.Refusal.TheVariants as refusal
use Rattle.laws.specs.TestLaws.{by_test, by_order, by_place, clash, not_no}
use Rattle.laws.specs.FirstLaws.{unless_refused, unless-done, kept_refused, kept-done, none, skip, hit, done}
use Rattle.laws.specs.OrderLaws.{eq_z_true, le_z_refl, next-le_z, next_low, from_to_lem}
use Rattle.laws.specs.Order.{eq_z, from_to}
use Rattle.versions.specs.declared.VersionRecord.{VersionRecord}
use Rattle.versions.specs.Record.{bad_record, run_number, last_run}
use Rattle.versions.specs.RecordLaws.{sound, known}
use Rattle.table.specs.declared.Slot.{Slot}
use Rattle.table.specs.Slots.{slot_words, empty, bad_table, slots, slot_at, put_slot}
use Rattle.table.specs.SlotLaws.{put_length, put_same, put_other, same_length, slot_at-past}
use Rattle.table_forms.specs.Operations.{empty_operation, insert_operation, delete_operation, live}
use Rattle.table_forms.specs.OperationLaws.{live-cases, live_insert}
use Rattle.table_forms.specs.TotalLaws.{lawful-zero}
use Rattle.table_forms.specs.Formed.{well_formed}
use Rattle.table_forms.specs.FormedLaws.{Used, used_formed, empty_formed, formed_cases, dead_deleted, none-broken, all_formed}
use Rattle.table_keys.specs.Keys.{has_key}
use Rattle.table_keys.specs.KeyLaws.{has_key_lem, keyed_has, empty_keyless}
use Rattle.reads.specs.Table1.{shown, old_row}
use Rattle.reads.specs.Table1Laws.{shown-current, shown_updated, shown-removed, shown_inserted, shown-empty}
use Rattle.changes.specs.Whole.{Whole, KeysApart}
use Rattle.changes_roll_back.specs.RollBack.{as_before, rolled_back, slots_back, rolled_back_from, roll_back_refusal, roll_back_answer, roll_back_words, roll_back_record, RollBackContract}

-- ---- a slot of another run stays, one that the run inserted is empty, and any other of the run is as it was before it
module _ (v : VersionRecord) (x : Slot) where
  pub back_other : eq_z x.run (run_number v) ≡ false → rolled_back v x ≡ x
  unfolding rolled_back
  back_other n = rw n

  pub back_inserted : eq_z x.run (run_number v) ≡ true → eq_z x.operation insert_operation ≡ true → rolled_back v x ≡ empty
  unfolding rolled_back
  back_inserted y i = rw (y, i)

  pub back-changed : eq_z x.run (run_number v) ≡ true → eq_z x.operation insert_operation ≡ false → rolled_back v x ≡ as_before v x
  unfolding rolled_back
  back-changed y i = rw (y, i)

-- ---- the tables that it passes on the way have the length of the first
pub back-length : (t : List ℤ) (v : VersionRecord) (n : ℕ) → length (slots_back t v n) ≡ length t
back-length t v zero = refl
back-length t v (suc n) = put_length (slots_back t v n) n _ ∙ back-length t v n

pub back_shape : (t : List ℤ) (v : VersionRecord) (n : ℕ) → bad_table (slots_back t v n) ≡ bad_table t
back_shape t v n = same_length t _ (back-length t v n)

pub back-slots : (t : List ℤ) (v : VersionRecord) (n : ℕ) → slots (slots_back t v n) ≡ slots t
back-slots t v n = ap (λ l. l / slot_words) (back-length t v n)

-- and after n slots the others are as they were, and the first n are put back
pub back_kept : (t : List ℤ) (v : VersionRecord) (n k : ℕ) → n ≤ k → slot_at (slots_back t v n) k ≡ slot_at t k
back_kept t v zero k l = refl
back_kept t v (suc n) k l = put_other (slots_back t v n) n k _ (λ e. omega arith) ∙ back_kept t v n k (omega arith)

pub back_done : (t : List ℤ) (v : VersionRecord) → bad_table t ≡ false → (n k : ℕ) → n ≤ slots t → k < n
    → slot_at (slots_back t v n) k ≡ rolled_back v (slot_at t k)
back_done t v shape zero k h l = absurd (omega arith)
back_done t v shape (suc n) k h l =
    by_place k n
    (λ e. rw e (put_same (slots_back t v n) n _ (back_shape t v n ∙ shape) (omega (arith, back-slots t v n))))
    (λ ne. put_other (slots_back t v n) n k _ ne ∙ back_done t v shape n k (omega arith) (omega (arith, ne)))

-- so that putting back the slot that now stands at n is the next step
pub back-next : (t : List ℤ) (v : VersionRecord) (n : ℕ) {u u' : List ℤ} → u ≡ slots_back t v n
    → u' ≡ put_slot u n (rolled_back v (slot_at u n)) → u' ≡ slots_back t v (suc n)
back-next t v n e put = (rw e at put) ∙ ap (λ x. put_slot (slots_back t v n) n (rolled_back v x)) (back_kept t v n n (omega arith))

-- ---- the record that is left is sound
pub rolled_back-sound : (v : VersionRecord) → bad_record v ≡ false → bad_record (rolled_back_from v) ≡ false
rolled_back-sound v b =
    let s = sound {v = v} b in
    known (record { low = s.low; high = s.high; in_run = λ a. clash a refl; first = s.first; near = s.near; newest = λ a. clash a refl })

-- ---- in a run of a sound record: what is left of a slot that is well formed
-- a run number that is not the run's is at most current
earlier : (r c : ℤ) → le_z (pos 1) c ≡ true → le_z r (c +ℤ pos 1) ≡ true → eq_z r (c +ℤ pos 1) ≡ false → le_z r c ≡ true
earlier (pos r) (pos c) low h n = le-leb r c (omega (arith, leb-true r (c + 1) h, eqb-false r (c + 1) n))
earlier (negsuc r) (pos c) low h n = refl
earlier r (negsuc c) low h n = clash low refl

module _ (v : VersionRecord) (known : bad_record v ≡ false) where
  -- the empty slot has no run's number
  pub back-empty : rolled_back v empty ≡ empty
  back-empty =
      by_test (eq_z (pos 0) (run_number v))
      (λ y. clash (next_low v.current (sound known).low) (ap (le_z (pos 1)) (sym (eq_z_true (pos 0) (run_number v) y)))) (back_other v empty)

module _ (v : VersionRecord) (known : bad_record v ≡ false) (active : v.active ≡ true) where
  -- a slot of the run is not seen at current
  ahead : (x : Slot) → eq_z x.run (run_number v) ≡ true → le_z x.run v.current ≡ false
  ahead x y = rw (eq_z_true x.run (run_number v) y) (next-le_z v.current (sound known).low)

  -- a slot of the run that was not inserted shows its old totals at current
  old_shown : (x : Slot) → Used x v → eq_z x.run (run_number v) ≡ true → eq_z x.operation insert_operation ≡ false
      → shown v.current x ≡ Some (old_row x)
  old_shown x u y n =
      by_test (live x)
      (λ l. live-cases x l (λ e. clash (rw e refl) n) (λ e. shown_updated v.current x (ahead x y) e))
      (λ d. shown-removed v.current x (ahead x y) (dead_deleted x v u d))

  before_formed : (x : Slot) → Used x v → Used (as_before v x) (rolled_back_from v)
  before_formed x u = record {
    operation = refl;
    run = rw (sound known).low (le_z_refl v.current);
    current1 = u.old1;
    current2 = u.old2;
    old1 = lawful-zero;
    old2 = lawful-zero;
    old_of_insert = refl;
  }

  other_formed : (x : Slot) → Used x v → eq_z x.run (run_number v) ≡ false → Used x (rolled_back_from v)
  other_formed x u n =
      let r = from_to_lem (pos 1) (last_run v) x.run u.run in
      record {
        operation = u.operation;
        run = rw r.low (earlier x.run v.current (sound known).low (rw active at r.high) n);
        current1 = u.current1;
        current2 = u.current2;
        old1 = u.old1;
        old2 = u.old2;
        old_of_insert = u.old_of_insert;
      }

  -- it is well formed for the record that is left
  pub back_formed : (x : Slot) → well_formed x v ≡ true → well_formed (rolled_back v x) (rolled_back_from v) ≡ true
  back_formed x w =
      formed_cases x v w (λ e. rw (e, back-empty v known) (empty_formed (rolled_back_from v)))
      (λ u. by_test (eq_z x.run (run_number v))
      (λ y. by_test (eq_z x.operation insert_operation)
      (λ i. rw (back_inserted v x y i) (empty_formed (rolled_back_from v)))
      (λ n. rw (back-changed v x y n) (used_formed (before_formed x u))))
      (λ o. rw (back_other v x o) (used_formed (other_formed x u o))))

  -- it shows the session at current what it showed
  pub back-shown : (x : Slot) → well_formed x v ≡ true → shown v.current (rolled_back v x) ≡ shown v.current x
  back-shown x w =
      formed_cases x v w (λ e. rw (e, back-empty v known) refl)
      (λ u. by_test (eq_z x.run (run_number v))
      (λ y. by_test (eq_z x.operation insert_operation)
      (λ i. rw (back_inserted v x y i) (shown-empty v.current ∙ sym (shown_inserted v.current x (ahead x y) (eq_z_true _ _ i))))
      (λ n. rw (back-changed v x y n)
      (shown-current v.current (as_before v x) (le_z_refl v.current) (live_insert (as_before v x) refl) ∙ sym (old_shown x u y n))))
      (λ o. rw (back_other v x o) refl))

  -- it has no key that the slot had not
  pub back_key : (x : Slot) → well_formed x v ≡ true → (key1 key2 : ℤ)
      → has_key (rolled_back v x) key1 key2 ≡ true → has_key x key1 key2 ≡ true
  back_key x w key1 key2 h =
      formed_cases x v w (λ e. clash (rw (e, back-empty v known) at h) (empty_keyless key1 key2))
      (λ u. by_test (eq_z x.run (run_number v))
      (λ y. by_test (eq_z x.operation insert_operation)
      (λ i. clash (rw (back_inserted v x y i) at h) (empty_keyless key1 key2))
      (λ n. let k = has_key_lem (as_before v x) key1 key2 (rw (back-changed v x y n) at h) in
      keyed_has (record { used = used_full x u; key1 = k.key1; key2 = k.key2 })))
      (λ o. rw (back_other v x o) at h))
    where
      used_full : (x : Slot) → Used x v → eq_z x.operation empty_operation ≡ false
      used_full x u =
          by_test (eq_z x.operation empty_operation)
          (λ z. clash u.operation (ap (from_to insert_operation delete_operation) (eq_z_true x.operation empty_operation z))) (λ n. n)

-- ---- of a table: each slot is put back, past the end too
pub back-slot : (t : List ℤ) (v : VersionRecord) → bad_table t ≡ false → bad_record v ≡ false → (k : ℕ)
    → slot_at (slots_back t v (slots t)) k ≡ rolled_back v (slot_at t k)
back-slot t v shape known k =
    by_order k (slots t) (λ l. back_done t v shape (slots t) k (omega arith) l)
    (λ g. back_kept t v (slots t) k g ∙ rw (slot_at-past t k shape g) (sym (back-empty v known)))

-- ---- an accepted roll back: the shape is lawful, the record is sound, a run is active, and every slot is well formed
pub record CanRollBack (t : List ℤ) (v : VersionRecord) : Type 0 where
  pub shape : bad_table t ≡ false
  pub known : bad_record v ≡ false
  pub active : v.active ≡ true
  pub formed : (k : ℕ) → well_formed (slot_at t k) v ≡ true

pub can_roll_back : (t : List ℤ) (v : VersionRecord) → roll_back_refusal t v ≡ None → CanRollBack t v
unfolding roll_back_refusal
can_roll_back t v h =
    let no = none _ h in
    record {
      shape = no refusal.BadTable;
      known = no refusal.BadRecord;
      active = not_no (no refusal.NoRun);
      formed = λ k. by_order k (slots t) (λ l. none-broken t v (no refusal.BrokenSlot) k l) (λ g. rw (slot_at-past t k (no refusal.BadTable) g) (empty_formed v));
    }

-- and where it is so, it is accepted
pub roll_back_passes : (t : List ℤ) (v : VersionRecord) → CanRollBack t v → roll_back_refusal t v ≡ None
unfolding roll_back_refusal
roll_back_passes t v can =
    skip refusal.BadTable _ can.shape ∙ skip refusal.BadRecord _ can.known ∙ skip refusal.NoRun _ (ap not can.active)
    ∙ skip refusal.BrokenSlot _ (all_formed t v can.formed) ∙ done

-- with no run it is refused 8
pub roll_back_idle : (t : List ℤ) (v : VersionRecord) → bad_table t ≡ false → bad_record v ≡ false → v.active ≡ false → roll_back_refusal t v ≡ Some refusal.NoRun
unfolding roll_back_refusal
roll_back_idle t v shape known idle = skip refusal.BadTable _ shape ∙ skip refusal.BadRecord _ known ∙ hit _ (ap not idle)

-- ---- it leaves a whole table whole, and keys that are apart so
module _ (t : List ℤ) (v : VersionRecord) (can : CanRollBack t v) where
  abbrev after : List ℤ
  after = slots_back t v (slots t)

  pub back_whole : Whole after (rolled_back_from v)
  back_whole = record {
    shape = back_shape t v (slots t) ∙ can.shape;
    formed = λ k. rw (back-slot t v can.shape can.known k) (back_formed v can.known can.active (slot_at t k) (can.formed k));
  }

  pub back_apart : KeysApart t → KeysApart after
  back_apart apart i j key1 key2 a b = apart i j key1 key2 (had i a) (had j b)
    where
      had : (k : ℕ) → has_key (slot_at after k) key1 key2 ≡ true → has_key (slot_at t k) key1 key2 ≡ true
      had k h = back_key v can.known can.active (slot_at t k) (can.formed k) key1 key2 (rw (back-slot t v can.shape can.known k) at h)

-- ---- how the contract is shown: a refusal leaves table and record as they were; what is not refused is done
pub roll_back_kept : {t : List ℤ} {v : VersionRecord} {e : Refusal} → roll_back_refusal t v ≡ Some e → RollBackContract t v (Err e) t v
unfolding roll_back_answer roll_back_record roll_back_words
roll_back_kept {t} {v} h = record {
  answer = unless_refused v.current h;
  versions = kept_refused (rolled_back_from v) h refl;
  words = kept_refused (slots_back t v (slots t)) h refl;
}

pub roll_back_done : {t t' : List ℤ} {v : VersionRecord} → roll_back_refusal t v ≡ None → t' ≡ slots_back t v (slots t)
    → RollBackContract t v (Ok v.current) t' (rolled_back_from v)
unfolding roll_back_answer roll_back_record roll_back_words
roll_back_done {t} {v} h w = record { answer = unless-done h refl; versions = kept-done v h refl; words = kept-done t h w }

-- ---- what comes of it by its refusal
pub record RollBackRefuses (e : Refusal) (t : List ℤ) (v : VersionRecord) (r : Result ℤ Refusal) (v' : VersionRecord) (t' : List ℤ) : Type 0 where
  pub answer : r ≡ Err e
  pub record_kept : v' ≡ v
  pub words : t' ≡ t

pub record RollBackAccepts (t : List ℤ) (v : VersionRecord) (r : Result ℤ Refusal) (v' : VersionRecord) (t' : List ℤ) : Type 0 where
  pub answer : r ≡ Ok v.current
  pub record_after : v' ≡ rolled_back_from v
  pub words : t' ≡ slots_back t v (slots t)

module _ (t : List ℤ) (v : VersionRecord) where
  pub roll_back_refuses : (e : Refusal) → roll_back_refusal t v ≡ Some e
      → RollBackRefuses e t v (roll_back_answer t v) (roll_back_record t v) (roll_back_words t v)
  unfolding roll_back_answer roll_back_record roll_back_words
  roll_back_refuses e h = record { answer = rw h; record_kept = rw h; words = rw h }

  pub roll_back_accepts : roll_back_refusal t v ≡ None → RollBackAccepts t v (roll_back_answer t v) (roll_back_record t v) (roll_back_words t v)
  unfolding roll_back_answer roll_back_record roll_back_words
  roll_back_accepts h = record { answer = rw h; record_after = rw h; words = rw h }

-- ---- the contract allows one outcome
pub one_outcome : {t : List ℤ} {v : VersionRecord} {r r' : Result ℤ Refusal} {u u' : List ℤ} {w w' : VersionRecord}
    → RollBackContract t v r u w → RollBackContract t v r' u' w' → (r ≡ r') × ((u ≡ u') × (w ≡ w'))
one_outcome a b = (a.answer ∙ sym b.answer, (a.words ∙ sym b.words, a.versions ∙ sym b.versions))
