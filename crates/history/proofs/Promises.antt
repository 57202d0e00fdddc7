-- From what a kind of table supplies to every promise of demand 3: `kept`, wherever all is well; `from`, after every history from
-- such a start; `demanded`, after every history from a fresh one. A read answers what the view shows, which is the database's; a
-- session's answers are readings of the view, whose rows stay while its version does. Assumes nothing.
use Rattle.std.specs.Prelude.{◌≡◌, true, not, List, [], ◌∷◌, ℕ, suc, ◌<◌, ℤ, pos, Ok, is_some}
use Rattle.std.proofs.Common.{sym, ap, subst, ◌∙◌, arith}
use Rattle.laws.specs.TestLaws.{by_order, clash}
use Rattle.calls.specs.Calls as answer
use Rattle.history.specs.Databases.{holds, NoRepeat, made_by, rolled_up}
use Rattle.history.specs.Followed.{fresh_start, current, database_at, running, Committed, open_versions, hear}
use Rattle.history.specs.Kinds.{Kind, accepted, World, fresh_world, next, after, NoLoad}
use Rattle.history.specs.SessionTurns.{Turn, mine, other, calls_of, slots_asked, answers_got, NoneRefused, rows_got}
use Rattle.history.specs.Demand.{IsGone, Shows, answered, KeyReads, RollUps, SlotReads, Sessions, IsFull, Fullness, Changes, Incident, Databases, Kept, Demanded}
use Rattle.history.proofs.DatabaseLaws.{rolled_perm}
use Rattle.history.proofs.Growth.{grown, current_committed, run_made, running_with, last_database}
use Rattle.history.proofs.Reading.{key_row, slot_row, region-sums, key_live_lem, Readings, none, moved, read, session_rows}
use Rattle.history.proofs.Fullness.{any_shown, open_versions_lem, taken_open, NoRoom, full_room, room_full}
use Rattle.history.proofs.Argument.{Argument, live_at, Well, went_well, after_step}
use Rattle.history.proofs.Once.{database_once, running_once, opening_after}

module _ {K : Kind} (A : Argument K) where
  module _ (m : ℕ) (w : World K) (i : Well A m w) where
    key_reads_lem : KeyReads w
    key_reads_lem s c key1 key2 =
        let r = A.reads m w i in
        record {
          gone = λ h. r.key_gone c h key1 key2;
          kept = λ still. r.key_shown c still key1 key2 ∙ ap (λ r. answer.seen (Ok r)) (key_row i.inv c still (A.placed m w i key1 key2));
        }

    roll_ups_lem : RollUps w
    roll_ups_lem s c key1 =
        let r = A.reads m w i in
        record {
          gone = λ h. r.sums_gone c h key1;
          kept = λ still. r.sums-shown c still key1 ∙ ap (λ r. answer.rolled (Ok r)) (region-sums i.inv c still key1);
        }

    slot_reads_lem : SlotReads m w
    slot_reads_lem s c k =
        let r = A.reads m w i in
        record {
          gone = λ h. r.slot_gone c h k;
          past = λ still. r.slot-past c still k;
          kept = λ still l. subst (Shows (database_at w.told s)) (sym (r.slot-shown c still k l)) (answered _ (slot_row i.inv c still k l));
          stays = λ h no_load still.
              let x = after_step A m w i h no_load in
              let r' = A.reads m (after h w) (went_well A x) in
              let c' = grown x.step.grows c in
              let before : IsGone w s → ⊥ = λ z. still (omega (arith, x.step.grows.begun)) in
              by_order k m
              (λ l. r'.slot-shown c' still k l ∙ ap (λ r. answer.seen (Ok r)) (x.step.stays s c still k) ∙ sym (r.slot-shown c before k l))
              (λ l. r'.slot-past c' still k l ∙ sym (r.slot-past c before k l));
        }

  -- ---- a session's answers are readings
  module _ (m s : ℕ) where
    readings : (turns : List (Turn K)) (w : World K) → Well A m w → Committed w.told s → NoLoad (calls_of s turns) w → NoneRefused (answers_got s turns w)
        → Readings K.keeps m s (A.view w) w.told (slots_asked turns) (rows_got (answers_got s turns w))
    readings [] w i c no_load ok = none
    readings (mine k ∷ turns) w i c no_load ok =
        let r = A.reads m w i in
        let still : IsGone w s → ⊥ = λ h. clash ok.0 (ap accepted (r.slot_gone c h k)) in
        let x = A.makes m w i (K.read_slot (pos s) k) no_load.0 in
        by_order k m
        (λ l. subst (λ a. Readings K.keeps m s (A.view w) w.told (k ∷ slots_asked turns) (rows_got (a ∷ answers_got s turns (next (K.read_slot (pos s) k) w))))
        (sym (r.slot-shown c still k l))
        (read k still (moved x.step (readings turns (next (K.read_slot (pos s) k) w) (went_well A x) (grown x.step.grows c) no_load.1 ok.1))))
        (λ l. clash ok.0 (ap accepted (r.slot-past c still k l)))
    readings (other call ∷ turns) w i c no_load ok =
        let x = A.makes m w i call no_load.0 in
        moved x.step (readings turns (next call w) (went_well A x) (grown x.step.grows c) no_load.1 ok)

  -- ---- changes: a key is live exactly when the running database holds it, and there is no room exactly when the table is full
  module _ (m : ℕ) (w : World K) (i : Well A m w) (a : w.told.active ≡ true) where
    live-held : (key1 key2 : ℤ) → live_at (A.view w) (A.place w) w key1 key2 ≡ holds key1 key2 (running w.told)
    live-held key1 key2 = key_live_lem i.inv a (A.placed m w i key1 key2)

    taken : (j : ℕ) → j < m → is_some (any_shown (A.view w) (open_versions K.keeps w.told) (suc (current w.told)) j) ≡ not (A.free w j)
    taken j l =
        let r = A.rooms m w i a in
        taken_open (A.view w) K.keeps w.told (suc (current w.told)) j (A.free w j) (r.unseen_run j l) (r.unseen j l) (r.visible j l)

    full_none : (key1 key2 : ℤ) → IsFull m w key1 key2 → NoRoom (A.view w) m (A.free w) key1 key2
    full_none = full_room i.inv a (open_versions K.keeps w.told) (open_versions_lem K.keeps w.told) (A.free w) taken

    none_full : (key1 key2 : ℤ) → NoRoom (A.view w) m (A.free w) key1 key2 → IsFull m w key1 key2
    none_full = room_full i.inv a (open_versions K.keeps w.told) (open_versions_lem K.keeps w.told) (A.free w) taken

  module _ (m : ℕ) (w : World K) (i : Well A m w) where
    fullness : Fullness m w
    fullness a key1 key2 x y lawful =
        let r = A.in_run m w i a key1 key2 in
        record {
          full = λ f. r.put_full x y lawful (full_none m w i a key1 key2 f);
          room = λ room. r.put_room x y lawful (λ none. room (none_full m w i a key1 key2 none));
        }

    changes : (key1 key2 : ℤ) → Changes w key1 key2
    changes key1 key2 = record {
      put_idle = λ idle. (A.idle m w i idle key1 key2).put;
      delete_idle = λ idle. (A.idle m w i idle key1 key2).delete;
      put_unlawful = λ a. (A.in_run m w i a key1 key2).put_unlawful;
      delete_live = λ a held. (A.in_run m w i a key1 key2).delete_live (live-held m w i a key1 key2 ∙ held);
      delete_absent = λ a held. (A.in_run m w i a key1 key2).delete_absent (live-held m w i a key1 key2 ∙ held);
    }

    sessions : Sessions m w
    sessions s c turns x = session_rows i.inv (A.some m w i.sound) c (readings m s turns w i c x.no_load x.none_refused) x.each

    -- the incident: the roll-up is the database's, which stays, and the rows that the session got are a permutation of it
    incident : Incident m w
    incident s c turns each h no_load still region =
        let x = after_step A m w i h no_load in
        (roll_ups_lem m (after h w) (went_well A x) s (grown x.step.grows c) region).kept still
        ∙ ap (λ r. answer.rolled (Ok r)) (ap (rolled_up region) (x.step.grows.databases s c) ∙ sym (rolled_perm region (sessions s c turns each)))

    databases : NoRepeat w.told.opening → Databases w
    databases once = record {
      begun = λ call e. ap (λ x. running (hear x w.told)) e;
      changed = λ call l e. ap (λ x. running (hear x w.told)) e ∙ running_with l w.told;
      committed = λ call e. ap (λ x. database_at (hear x w.told) (suc (current w.told))) e ∙ last_database w.told;
      rolled_back = λ call e. ap (λ x. running (hear x w.told)) e;
      made = run_made w.told;
      kept = λ s c h no_load. (after_step A m w i h no_load).step.grows.databases s c;
      settled = λ idle. ap (λ l. made_by l (database_at w.told (current w.told))) (i.inv.settled idle);
      once = database_once w.told once;
      running_once = running_once w.told once;
    }

    -- ---- from all well to every promise
    pub kept : NoRepeat w.told.opening → Kept m w
    kept once = record {
      runs = A.runs m w i;
      key_reads = key_reads_lem m w i;
      roll_ups = roll_ups_lem m w i;
      slot_reads = slot_reads_lem m w i;
      sessions = sessions;
      fullness = fullness;
      changes = changes;
      incident = incident;
      databases = databases once;
    }

  -- ---- from a start to every history
  pub from : (m : ℕ) (w : World K) → Well A m w → NoRepeat w.told.opening → (h : List K.Call) → NoLoad h w → Kept m (after h w)
  from m w i once h no_load = kept m (after h w) (went_well A (after_step A m w i h no_load)) (rw (opening_after h w) once)

  pub demanded : Demanded K
  demanded m size h no_load =
      let i = A.fresh m size in
      let grows = (after_step A m (fresh_world K m) i h no_load).step.grows in
      record {
        origin = grows.origin;
        empty = grows.databases 1 (current_committed fresh_start);
        kept = from m (fresh_world K m) i tt h no_load;
      }
