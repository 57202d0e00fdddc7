-- What every call does to the table of two versions: the table and its record stay sound, and its view makes a step. A refused call
-- leaves the words, the record and what is followed as they were; an accepted change, begin, commit or roll back is a lemma of
-- `Table`. Assumes nothing.
use Rattle.std.specs.Prelude.{◌≡◌, refl, false, List, [], ◌∷◌, ◌++◌, ℕ, ℤ, Option, Some, None, Result, option_to_list}
use Rattle.std.proofs.Common.{sym, ap, ◌∙◌}
use Rattle.laws.specs.TestLaws.{clash}
use Rattle.versions.specs.declared.VersionRecord.{VersionRecord}
use Rattle.versions_runs.specs.RunLaws.{TurnRefuses, TurnAccepts, begin_refuses, begin_accepts, commit_refuses, commit_accepts}
use Rattle.versions_runs.specs.Runs.{begin_refusal, commit_refusal}
use Rattle.changes.specs.ChangesAccepted.{Came, refuses, accepts, put_came, delete_came}
use Rattle.changes_roll_back.specs.RollBack.{roll_back_refusal}
use Rattle.changes_roll_back.specs.RollBackLaws.{roll_back_refuses, roll_back_accepts}
use Rattle.blocks.specs.ContractLaws as load
use Rattle.blocks.specs.LoadBlock.{load_block_refusal}
use Rattle.calls.specs.Refusals.{Refusal}
use Rattle.calls.specs.Rows.{Row}
use Rattle.calls.specs.Calls.{Call, open_session, begin, commit, read_slot, read_key, roll_up, put, delete, roll_back, save_header, save_block, load_header, load_block}
use Rattle.calls.specs.Calls as answer
use Rattle.calls.specs.Perform.{with_words, with_version}
use Rattle.history.specs.Databases.{without, Change, changed}
use Rattle.history.specs.Followed.{running, Heard, loaded_block, hear}
use Rattle.history.specs.Kinds.{World, heard_of, next, is_load}
use Rattle.history.specs.TwoVersions.{heard_changes, if_accepted, two_versions}
use Rattle.history.proofs.Views.{View}
use Rattle.history.proofs.Invariant.{Step, same_step}
use Rattle.history.proofs.SlotWritten.{written_step}
use Rattle.history.proofs.Turns.{begin_step, commit_step, undo_step}
use Rattle.history.proofs.Recorded.{commit_runs}
use Rattle.history.proofs.Table.{view_of, Sound, change_written, change_sound, same_above, begin_sound, commit_sound, back_fewer, back_stays, back-sound}
use Rattle.history.proofs.Argument.{Stands, Went}

abbrev pub TableWorld : Type 0
TableWorld = World two_versions

-- the table and its record are sound, and its view is that of its words
abbrev pub SoundWorld : ℕ → TableWorld → Type 0
SoundWorld m w = Sound m w.state.words w.state.versions w.told

abbrev pub world_view : TableWorld → View
world_view w = view_of w.state.words

abbrev pub Well : ℕ → TableWorld → Type 0
Well m w = Stands SoundWorld world_view m w

abbrev pub Goes : ℕ → TableWorld → TableWorld → Type 0
Goes m w w' = Went SoundWorld world_view m w w'

module _ (m : ℕ) (w : TableWorld) (i : Well m w) where
  -- a call that leaves words, record and what is followed
  quiet : (w' : TableWorld) → w'.state.words ≡ w.state.words → w'.state.versions ≡ w.state.versions → w'.told ≡ w.told → Goes m w w'
  quiet w' a b c = record { sound = rw (a, b, c) i.sound; step = rw (a, c) (same_step i.inv) }

  -- begin or commit, by its refusal
  turn : (x : Heard) (r : Result ℤ Refusal) (v' later : VersionRecord) (refusal : Option Refusal) → ((e : Refusal) → refusal ≡ Some e → TurnRefuses e w.state.versions r v')
      → (refusal ≡ None → TurnAccepts w.state.versions r v' later) → (refusal ≡ None → Sound m w.state.words later (hear x w.told))
      → (refusal ≡ None → Step 2 m (world_view w) w.told (world_view w) (hear x w.told))
      → Goes m w (record { state = with_version w.state v'; told = hear (if_accepted (answer.numbered r) x) w.told })
  turn x r v' later None refuse accept sound step =
      let ok = accept refl in
      record { sound = rw (ok.answer, ok.record_after) (sound refl); step = rw ok.answer (step refl) }
  turn x r v' later (Some e) refuse accept sound step =
      let no_turn = refuse e refl in
      quiet _ refl no_turn.record_kept (rw no_turn.answer refl)

  -- a roll back, by its refusal
  undone : (refusal : Option Refusal) → roll_back_refusal w.state.words w.state.versions ≡ refusal → Goes m w (next {K = two_versions} roll_back w)
  undone None e =
      let ok = roll_back_accepts w.state.words w.state.versions e in
      rw ok.answer
      (record {
        sound = rw (ok.record_after, ok.words) (back-sound i.sound i.inv e);
        step = rw ok.words (undo_step i.inv (back_fewer i.sound i.inv e) (back_stays i.sound i.inv e));
      })
  undone (Some refusal) e =
      let no_turn = roll_back_refuses w.state.words w.state.versions refusal e in
      quiet _ no_turn.words no_turn.record_kept (rw no_turn.answer refl)

  -- a change, by what came of it; an accepted one makes of the running database what its effect says
  change : (c : Change) (key1 key2 : ℤ) (after : Option Row) (r : Result ℕ Refusal) (t' : List ℤ)
      → changed c (running w.told) ≡ option_to_list after ++ without key1 key2 (running w.told)
      → Came w.state.words w.state.versions key1 key2 after r t'
      → Goes m w (record { state = with_words w.state t'; told = hear (heard_changes (answer.placed r) (c ∷ [])) w.told })
  change c key1 key2 after r t' e (refuses refusal x) = quiet _ x.words refl (rw x.answer refl)
  change c key1 key2 after r t' e (accepts k x wrote) =
      let a = sym i.sound.recorded.active ∙ x.active in
      rw x.answer
      (record {
        sound = change_sound i.sound i.inv a wrote c;
        step = written_step i.inv a (change_written i.sound i.inv a wrote) c e;
      })

  -- a load of a block that is refused
  load_refused : (k : ℕ) (b : List ℕ) (refusal : Option Refusal) → load_block_refusal w.state.words w.state.versions k b ≡ refusal
      → is_load (heard_of {K = two_versions} (load_block k b) w) ≡ false → Goes m w (next {K = two_versions} (load_block k b) w)
  load_refused k b None e no_load = clash (ap (λ r. is_load (if_accepted (answer.loaded r) loaded_block)) (load.load_accepts _ _ k b e)) no_load
  load_refused k b (Some refusal) e no_load =
      let x = load.load_refuses _ _ k b refusal e in
      quiet _ x.words refl (rw x.answer refl)

  -- ---- every call
  pub next_step : (call : Call) → is_load (heard_of {K = two_versions} call w) ≡ false → Goes m w (next {K = two_versions} call w)
  next_step open_session no_load = quiet _ refl refl refl
  next_step begin no_load =
      turn _ _ _ _ (begin_refusal _) (begin_refuses _) (begin_accepts _) (begin_sound i.sound)
      (λ h. begin_step i.inv (same_above i.sound h))
  next_step commit no_load =
      turn _ _ _ _ (commit_refusal _) (commit_refuses _) (commit_accepts _) (commit_sound i.sound i.inv)
      (λ h. commit_step i.inv (commit_runs i.sound.recorded h))
  next_step (read_slot s k) no_load = quiet _ refl refl refl
  next_step (read_key s key1 key2) no_load = quiet _ refl refl refl
  next_step (roll_up s key1) no_load = quiet _ refl refl refl
  next_step (put key1 key2 total1 total2) no_load = change _ key1 key2 _ _ _ refl (put_came _ _ key1 key2 total1 total2 i.sound.whole i.inv.distinct.slot)
  next_step (delete key1 key2) no_load = change _ key1 key2 _ _ _ refl (delete_came _ _ key1 key2 i.sound.whole i.inv.distinct.slot)
  next_step roll_back no_load = undone _ refl
  next_step save_header no_load = quiet _ refl refl refl
  next_step (save_block k) no_load = quiet _ refl refl refl
  next_step (load_header given) no_load = quiet _ refl refl refl
  next_step (load_block k given) no_load = load_refused k given _ refl no_load
