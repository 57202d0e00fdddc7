-- What changes of the table of two versions answer where all is well: the shape, the record and the key's slot are sound, so that
-- what is left to test are the run, the totals, the key and the room. A key is live exactly when its slot shows a row at the run's
-- number; a slot is free exactly when neither current nor the run's number shows a row of it. Assumes nothing.
use Rattle.std.specs.Prelude.{◌≡◌, Bool, true, false, not, List, ℕ, ltb, ℤ, is_some}
use Rattle.std.proofs.Common.{sym, ap, ◌∙◌, ⊎_elim, inl, inr, arith, ltb-true, ltb-false}
use Rattle.laws.specs.TestLaws.{by_test, clash}
use Rattle.laws.specs.FirstLaws.{skip, hit, done}
use Rattle.versions.specs.declared.VersionRecord.{VersionRecord}
use Rattle.versions.specs.Record.{run_number}
use Rattle.table.specs.declared.Slot.{Slot}
use Rattle.table.specs.Slots.{slots, slot_at}
use Rattle.table_forms.specs.Operations.{live}
use Rattle.table_forms.specs.OperationLaws.{dead_empty}
use Rattle.table_forms.specs.Formed.{well_formed}
use Rattle.table_forms.specs.FormedLaws.{formed_cases, dead_deleted}
use Rattle.table_keys.specs.Keys.{key_slot, keyed, key_live}
use Rattle.table_keys.specs.KeyLaws.{key_slot_is, absent_nowhere}
use Rattle.table_free.specs.Free.{free}
use Rattle.reads.specs.Table1.{shown}
use Rattle.reads.specs.Table1Laws.{shown-current, shown-deleted, shown-empty}
use Rattle.changes.specs.Effects.{run_within}
use Rattle.changes.specs.ChangesAccepted.{free_unseen}
use Rattle.changes.specs.ChangesRefused as refused
use Rattle.changes.specs.ChangesRefused.{busy_seen, put_refused, delete_refused, put_idle, delete_idle}
use Rattle.changes.specs.ChangeOutcomes.{put_refuses, put_accepts, delete_refuses, delete_accepts}
use Rattle.changes_rows.specs.PutRow.{no_slot}
use Rattle.calls.specs.Refusals as refusal
use Rattle.calls.specs.Calls as answer
use Rattle.history.specs.Followed.{current}
use Rattle.history.specs.Kinds.{accepted}
use Rattle.history.proofs.Growth.{current_committed}
use Rattle.history.proofs.Invariant.{current_open}
use Rattle.history.proofs.Fullness.{NoRoom}
use Rattle.history.proofs.Recorded.{Recorded, run_is}
use Rattle.history.proofs.Argument.{Idle, Rooms, InRun, live_at}
use Rattle.history.proofs.Steps.{TableWorld, world_view, Well}

-- whether the slot at a place may be taken
abbrev pub free_at : TableWorld → ℕ → Bool
free_at w j = free (slot_at w.state.words j) w.state.versions

-- ---- with no run active
pub idle : (m : ℕ) (w : TableWorld) → Well m w → w.told.active ≡ false → (key1 key2 : ℤ) → Idle w key1 key2
idle m w i no_run key1 key2 =
    let shape = i.sound.whole.shape in
    let known = i.sound.recorded.known in
    let e = i.sound.recorded.active ∙ no_run in
    record {
      put = λ a b. ap answer.placed (put_refuses _ _ key1 key2 a b refusal.NoRun (put_idle _ _ shape known e key1 key2 a b)).answer;
      delete = ap answer.placed (delete_refuses _ _ key1 key2 refusal.NoRun (delete_idle _ _ shape known e key1 key2)).answer;
    }

-- ---- during a run
module _ (m : ℕ) (w : TableWorld) (i : Well m w) (a : w.told.active ≡ true) where
  abbrev t : List ℤ
  t = w.state.words

  abbrev v : VersionRecord
  v = w.state.versions

  recorded : Recorded v w.told
  recorded = i.sound.recorded

  runs : v.active ≡ true
  runs = recorded.active ∙ a

  -- a slot shows a row at the run's number exactly when it is live
  slot-live : (x : Slot) → well_formed x v ≡ true → is_some (shown (run_number v) x) ≡ live x
  slot-live x f =
      formed_cases x v f (λ e. rw (e, shown-empty (run_number v), dead_empty))
      (λ u. let r = run_within v recorded.known runs u in
      by_test (live x) (λ y. rw (shown-current (run_number v) x r y, y)) (λ n. rw (shown-deleted (run_number v) x r (dead_deleted x v u n), n)))

  live_is : (key1 key2 : ℤ) → key_live t key1 key2 ≡ live_at (world_view w) (key_slot t) w key1 key2
  live_is key1 key2 = sym (slot-live (keyed t key1 key2) (i.sound.whole.formed (key_slot t key1 key2))) ∙ rw (run_is recorded)

  pub rooms : Rooms (world_view w) m w (free_at w)
  rooms = record {
    unseen_run = λ j l y. rw (run_is recorded) (free_unseen v recorded.known runs (slot_at t j) y).1;
    unseen = λ j l y s c still.
        let e : s ≡ current w.told = omega (arith, i.inv.in_run a) in
        rw (e, ← recorded.version) (free_unseen v recorded.known runs (slot_at t j) y).0;
    visible = λ j l n. ⊎_elim (λ e. inl (rw (run_is recorded) (ap is_some e)))
        (λ e. inr (current w.told, current_committed w.told, current_open i.inv, rw (← recorded.version) (ap is_some e)))
        (busy_seen t v i.sound.whole recorded.known runs (slot_at t j) (i.sound.whole.formed j) n);
  }

  -- ---- no slot to take is no room
  no_slot_lem : (key1 key2 : ℤ) → NoRoom (world_view w) m (free_at w) key1 key2 → no_slot t v key1 key2 ≡ true
  no_slot_lem key1 key2 r =
      refused.not_full t v i.sound.whole recorded.known runs key1 key2
      (record {
        absent = by_test (ltb (key_slot t key1 key2) (slots t))
            (λ y. let l = ltb-true _ _ y in clash ((key_slot_is t key1 key2).passes l) (r.absent _ (rw i.sound.size at l))) (ltb-false _ _);
        taken = λ j l. r.taken j (rw i.sound.size at l);
      })

  no_room : (key1 key2 : ℤ) → no_slot t v key1 key2 ≡ true → NoRoom (world_view w) m (free_at w) key1 key2
  no_room key1 key2 h =
      let f = refused.full t v i.sound.whole recorded.known runs key1 key2 h in
      record {
        absent = λ j l. absent_nowhere t key1 key2 i.sound.whole.shape f.absent j;
        taken = λ j l. f.taken j (rw i.sound.size l);
      }

  pub in_run : (key1 key2 : ℤ) → InRun (world_view w) (key_slot t) m w (free_at w) key1 key2
  in_run key1 key2 =
      let whole = i.sound.whole in
      let known = recorded.known in
      let live = live_is key1 key2 in
      record {
        put_unlawful = λ x y bad. ap answer.placed (put_refuses _ _ key1 key2 x y refusal.BadTotal (put_refused _ _ whole known runs key1 key2 x y ∙ hit _ bad)).answer;
        put_full = λ x y lawful r. ap answer.placed
            (put_refuses _ _ key1 key2 x y refusal.TableFull (put_refused _ _ whole known runs key1 key2 x y ∙ skip refusal.BadTotal _ lawful ∙ hit _ (no_slot_lem key1 key2 r))).answer;
        put_room = λ x y lawful room. ap (λ p. accepted (answer.placed p))
            (put_accepts _ _ key1 key2 x y
            (put_refused _ _ whole known runs key1 key2 x y ∙ skip refusal.BadTotal _ lawful
            ∙ skip refusal.TableFull _ (by_test (no_slot t v key1 key2) (λ z. absurd (room (no_room key1 key2 z))) (λ n. n)) ∙ done)).answer;
        delete_live = λ h. ap (λ p. accepted (answer.placed p))
            (delete_accepts _ _ key1 key2 (delete_refused _ _ whole known runs key1 key2 ∙ skip refusal.KeyNotLive _ (ap not (live ∙ h)) ∙ done)).answer;
        delete_absent = λ h. ap answer.placed (delete_refuses _ _ key1 key2 refusal.KeyNotLive (delete_refused _ _ whole known runs key1 key2 ∙ hit _ (ap not (live ∙ h)))).answer;
      }
