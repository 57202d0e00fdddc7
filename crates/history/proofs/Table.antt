-- The table of two versions as a view: a version sees of a slot what Table 1 shows, and a slot has the key of its words. The key
-- search finds a key's place. An accepted change writes one slot to its effect; at a begin no slot is of a run above current, so
-- that the next number shows what current shows; a roll back leaves what current shows of each slot. What the table itself keeps in
-- a history is `Sound`. Assumes nothing.
use Rattle.std.specs.Prelude.{◌≡◌, refl, true, List, [], ℕ, zero, suc, ◌+◌, ltb, ℤ, pos, Option, None}
use Rattle.std.specs.Int.Signed.{le_z}
use Rattle.std.proofs.Common.{sym, ◌∙◌, ⊎_elim, arith, ltb-true, ltb-false, le-leb}
use Rattle.laws.specs.TestLaws.{by_test, clash}
use Rattle.laws.specs.OrderLaws.{le_z_refl, le_z_trans, from_to_lem}
use Rattle.versions.specs.declared.VersionRecord.{VersionRecord}
use Rattle.versions.specs.Record.{fresh_record, run_number, last_run}
use Rattle.versions.specs.RecordLaws.{fresh_sound}
use Rattle.versions_runs.specs.Runs.{begin_refusal, begun_from, commit_refusal, committed_from}
use Rattle.versions_runs.specs.RunLaws.{can_begin, can_commit}
use Rattle.table.specs.Slots.{slots, slot_at, fresh_table}
use Rattle.table.specs.SlotLaws.{put_length, fresh_slots, fresh_shape, fresh_slot}
use Rattle.table_forms.specs.FormedLaws.{formed_cases, formed_later, empty_formed}
use Rattle.table_keys.specs.Keys.{has_key, key_slot}
use Rattle.table_keys.specs.KeyLaws.{has_key_lem, keyed_has, key_slot_is, empty_keyless, absent_empty, absent_nowhere}
use Rattle.reads.specs.declared.Row.{Row}
use Rattle.reads.specs.Table1.{shown}
use Rattle.reads.specs.Table1Laws.{shown-empty}
use Rattle.reads.specs.ShownLaws.{shown_own, shown_later}
use Rattle.changes.specs.Whole.{Whole, Wrote, written-slot, other_slot, whole_after}
use Rattle.changes_roll_back.specs.RollBack.{rolled_back, slots_back, rolled_back_from, roll_back_refusal}
use Rattle.changes_roll_back.specs.RollBackLaws.{CanRollBack, can_roll_back, back-slot, back-slots, back_key, back-shown, back_whole}
use Rattle.history.specs.Databases.{Change}
use Rattle.history.specs.Followed.{Followed, fresh_start, current, Committed, Gone, with_change, run_begun, run_committed, run_rolled_back}
use Rattle.history.specs.Kinds.{Size}
use Rattle.history.proofs.Views.{View, Owned, Place, here, nowhere, rows_at}
use Rattle.history.proofs.Invariant.{Inv, start_inv}
use Rattle.history.proofs.SlotWritten.{Written}
use mathlib.Core.List.Permᴰ
use Rattle.history.proofs.Recorded.{Recorded, start_recorded, run_is, change_recorded, begin_recorded, commit_runs, commit_recorded, roll_back_recorded}

abbrev pub view_of : List ℤ → View
view_of t = record {
  shown = λ s k. shown (pos s) (slot_at t k);
  has = λ k. has_key (slot_at t k);
  owned = λ s k. shown_own (Owned (has_key (slot_at t k))) (pos s) (slot_at t k) (λ u a b. keyed_has (record { used = u; key1 = refl; key2 = refl })) tt;
  one_key = λ k p q p' q' h h'. let x = has_key_lem (slot_at t k) p q h in let y = has_key_lem (slot_at t k) p' q' h' in (sym x.key1 ∙ y.key1, sym x.key2 ∙ y.key2);
}

-- ---- what the table and its record keep
pub record Sound (m : ℕ) (t : List ℤ) (v : VersionRecord) (g : Followed) : Type 0 where
  pub size : slots t ≡ m
  pub whole : Whole t v
  pub recorded : Recorded v g

-- ---- a fresh table
fresh_rows : (n m s : ℕ) → rows_at (view_of (fresh_table n)) s m ≡ []
fresh_rows n zero s = refl
fresh_rows n (suc m) s = rw (fresh_slot n m, shown-empty (pos s)) (fresh_rows n m s)

pub fresh_table_lem : (m : ℕ) → Size m → Sound m (fresh_table m) fresh_record fresh_start
fresh_table_lem m size = record {
  size = fresh_slots m;
  whole = record {
    shape = fresh_shape m size.some size.few;
    formed = λ k. rw (fresh_slot m k) (empty_formed fresh_record);
  };
  recorded = start_recorded 1 [] fresh_sound refl refl (omega arith);
}

pub fresh_inv : (m : ℕ) → Inv 2 m (view_of (fresh_table m)) fresh_start
fresh_inv m = start_inv 1 [] (omega arith) (record { slot = λ i j key1 key2 hi hj. clash hi (rw (fresh_slot m i) (empty_keyless key1 key2)) }) (rw (fresh_rows m m 1) Permᴰ.nil)

module _ {m : ℕ} {t : List ℤ} {v : VersionRecord} {g : Followed} (x : Sound m t v g) where
  -- the key search finds a key's place
  pub key_place : (key1 key2 : ℤ) → Place (view_of t) m key1 key2 (key_slot t key1 key2)
  key_place key1 key2 =
      by_test (ltb (key_slot t key1 key2) (slots t))
      (λ y. let l = ltb-true _ _ y in here (rw x.size at l) ((key_slot_is t key1 key2).passes l))
      (λ n. let past = ltb-false _ _ n in
      nowhere (absent_nowhere t key1 key2 x.whole.shape past) (λ s. rw (absent_empty t key1 key2 x.whole.shape past) (shown-empty (pos s))))

  -- ---- a change in a run, in which the one open version is current
  module _ (i : Inv 2 m (view_of t) g) (a : g.active ≡ true) {key1 key2 : ℤ} {after : Option Row} {k : ℕ} {t' : List ℤ} (w : Wrote t v key1 key2 after k t') where
    written : slot_at t' k ≡ w.slot
    written = written-slot t v key1 key2 after k t' x.whole w

    pub change_written : Written 2 m (view_of t) g key1 key2 after k (view_of t')
    change_written = record {
      place = rw x.size at w.place;
      others = λ j ne s. rw (other_slot t v key1 key2 after k t' x.whole w j ne);
      other_keys = λ j ne p q. rw (other_slot t v key1 key2 after k t' x.whole w j ne);
      alone = w.alone;
      stays = λ s c still. let e : s ≡ current g = omega (arith, i.in_run a) in rw (written, e, ← x.recorded.version) w.effect.low;
      before = rw (run_is x.recorded) w.effect.before;
      now = rw (written, run_is x.recorded) w.effect.high;
      key = λ p q h. ⊎_elim (λ e. clash (rw written at h) (rw e (empty_keyless p q)))
          (λ y. let z = has_key_lem w.slot p q (rw written at h) in (sym z.key1 ∙ y.key1, sym z.key2 ∙ y.key2)) w.effect.key;
    }

    pub change_sound : (c : Change) → Sound m t' v (with_change c g)
    change_sound c = record {
      size = rw (w.words, put_length t k w.slot) x.size;
      whole = whole_after t v key1 key2 after k t' x.whole w;
      recorded = change_recorded x.recorded c;
    }

  -- ---- begin and commit write no slot, and the last run is no earlier after them
  later_whole : {v' : VersionRecord} → le_z (last_run v) (last_run v') ≡ true → Whole t v'
  later_whole {v'} l = record { shape = x.whole.shape; formed = λ k. formed_later (slot_at t k) v v' l (x.whole.formed k) }

  module _ (h : begin_refusal v ≡ None) where
    pub same_above : (j : ℕ) → shown (pos (suc (current g))) (slot_at t j) ≡ shown (pos (current g)) (slot_at t j)
    same_above j =
        formed_cases (slot_at t j) v (x.whole.formed j)
        (λ e. rw (e, shown-empty (pos (suc (current g))), shown-empty (pos (current g))))
        (λ u. let r : le_z (slot_at t j).run (pos (current g)) ≡ true =
        rw ((can_begin v h).idle, x.recorded.version) at (from_to_lem (pos 1) (last_run v) (slot_at t j).run u.run).high in
        shown_later (pos (current g)) (pos (suc (current g))) (slot_at t j) r
        (le_z_trans (slot_at t j).run (pos (current g)) (pos (suc (current g))) r (le-leb (current g) (suc (current g)) (omega arith))))

    pub begin_sound : Sound m t (begun_from v) (run_begun g)
    begin_sound = record {
      size = x.size;
      whole = later_whole (rw ((can_begin v h).idle, x.recorded.version) (le-leb (current g) (current g + 1) (omega arith)));
      recorded = begin_recorded x.recorded h;
    }

  pub commit_sound : Inv 2 m (view_of t) g → commit_refusal v ≡ None → Sound m t (committed_from v) (run_committed g)
  commit_sound i h = record {
    size = x.size;
    whole = later_whole (rw (can_commit v h).active (le_z_refl (run_number v)));
    recorded = commit_recorded x.recorded h (i.in_run (commit_runs x.recorded h));
  }

  -- ---- a roll back puts every slot back: a run is active, so the one open version is current, which sees what it saw
  module _ (i : Inv 2 m (view_of t) g) (h : roll_back_refusal t v ≡ None) where
    can : CanRollBack t v
    can = can_roll_back t v h

    abbrev back : List ℤ
    back = slots_back t v (slots t)

    back_at : (k : ℕ) → slot_at back k ≡ rolled_back v (slot_at t k)
    back_at = back-slot t v can.shape can.known

    pub in_run : g.active ≡ true
    in_run = sym x.recorded.active ∙ can.active

    pub back_fewer : (j : ℕ) (p q : ℤ) → has_key (slot_at back j) p q ≡ true → has_key (slot_at t j) p q ≡ true
    back_fewer j p q y = back_key v can.known can.active (slot_at t j) (can.formed j) p q (rw (back_at j) at y)

    pub back_stays : (s : ℕ) → Committed g s → (Gone 2 g s → ⊥) → (k : ℕ) → shown (pos s) (slot_at back k) ≡ shown (pos s) (slot_at t k)
    back_stays s c still k =
        let e : s ≡ current g = omega (arith, i.in_run in_run) in
        rw (e, ← x.recorded.version, back_at k) (back-shown v can.known can.active (slot_at t k) (can.formed k))

    pub back-sound : Sound m back (rolled_back_from v) (run_rolled_back g)
    back-sound = record {
      size = back-slots t v (slots t) ∙ x.size;
      whole = back_whole t v can;
      recorded = roll_back_recorded x.recorded can.active (i.in_run in_run);
    }
