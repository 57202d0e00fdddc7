-- What a kind of table supplies for demand 3: its view, what keeps all well with what is lent, that each call is a step of the
-- view, and what its calls answer, reads and changes in terms of the view. From that every promise follows (`Promises`).
-- Assumes nothing.
use Rattle.std.specs.Prelude.{◌≡◌, Bool, true, false, ◌⊎◌, List, [], ◌∷◌, map, ℕ, suc, ◌≤◌, ◌<◌, ℤ, pos, Ok, Err, None, is_some}
use Rattle.calls.specs.Terms.{unlawful, tally, sums}
use Rattle.calls.specs.Refusals as refusal
use Rattle.calls.specs.Calls as answer
use Rattle.history.specs.Databases.{up_to}
use Rattle.history.specs.Followed.{current, Committed}
use Rattle.history.specs.Kinds.{Kind, accepted, Size, World, fresh_world, answer_of, heard_of, next, after, is_load, NoLoad}
use Rattle.history.specs.Demand.{IsGone, Runs}
use Rattle.history.proofs.Views.{View, Place}
use Rattle.history.proofs.Invariant.{Inv, Step, same_step, then}
use Rattle.history.proofs.Fullness.{NoRoom}

-- ---- a world of m slots in which all is well, and a way from a world to another
pub record Stands {K : Kind} (Sound : ℕ → World K → Type 0) (view : World K → View) (m : ℕ) (w : World K) : Type 0 where
  pub sound : Sound m w
  pub inv : Inv K.keeps m (view w) w.told

pub record Went {K : Kind} (Sound : ℕ → World K → Type 0) (view : World K → View) (m : ℕ) (w w' : World K) : Type 0 where
  pub sound : Sound m w'
  pub step : Step K.keeps m (view w) w.told (view w') w'.told

-- ---- what reads of a world answer at a committed version: refused by 4 once it is gone, and else what the view shows
pub record Reads {K : Kind} (T : View) (place : ℤ → ℤ → ℕ) (m : ℕ) (w : World K) : Type 0 where
  pub key_gone : {s : ℕ} → Committed w.told s → IsGone w s → (key1 key2 : ℤ) → answer_of (K.read_key (pos s) key1 key2) w ≡ answer.seen (Err refusal.Expired)
  pub key_shown : {s : ℕ} → Committed w.told s → (IsGone w s → ⊥) → (key1 key2 : ℤ)
      → answer_of (K.read_key (pos s) key1 key2) w ≡ answer.seen (Ok (T.shown s (place key1 key2)))
  pub sums_gone : {s : ℕ} → Committed w.told s → IsGone w s → (key1 : ℤ) → answer_of (K.roll_up (pos s) key1) w ≡ answer.rolled (Err refusal.Expired)
  pub sums-shown : {s : ℕ} → Committed w.told s → (IsGone w s → ⊥) → (key1 : ℤ)
      → answer_of (K.roll_up (pos s) key1) w ≡ answer.rolled (Ok (sums (tally key1 (map (T.shown s) (up_to m)))))
  pub slot_gone : {s : ℕ} → Committed w.told s → IsGone w s → (k : ℕ) → answer_of (K.read_slot (pos s) k) w ≡ answer.seen (Err refusal.Expired)
  pub slot-past : {s : ℕ} → Committed w.told s → (IsGone w s → ⊥) → (k : ℕ) → m ≤ k → answer_of (K.read_slot (pos s) k) w ≡ answer.seen (Err refusal.NoSuchPlace)
  pub slot-shown : {s : ℕ} → Committed w.told s → (IsGone w s → ⊥) → (k : ℕ) → k < m
      → answer_of (K.read_slot (pos s) k) w ≡ answer.seen (Ok (T.shown s k))

-- ---- what changes of a world answer: 8 with no run; in a run a put 13, or by whether there is room, and a delete by whether the
-- key's place shows a row at the run's number
abbrev pub live_at : {K : Kind} → View → (ℤ → ℤ → ℕ) → World K → ℤ → ℤ → Bool
live_at T place w key1 key2 = is_some (T.shown (suc (current w.told)) (place key1 key2))

pub record Idle {K : Kind} (w : World K) (key1 key2 : ℤ) : Type 0 where
  pub put : (total1 total2 : ℤ) → answer_of (K.put key1 key2 total1 total2) w ≡ answer.placed (Err refusal.NoRun)
  pub delete : answer_of (K.delete key1 key2) w ≡ answer.placed (Err refusal.NoRun)

-- a slot may be taken exactly when no open version and not the run shows a row of it
pub record Rooms {K : Kind} (T : View) (m : ℕ) (w : World K) (free : ℕ → Bool) : Type 0 where
  pub unseen_run : (j : ℕ) → j < m → free j ≡ true → T.shown (suc (current w.told)) j ≡ None
  pub unseen : (j : ℕ) → j < m → free j ≡ true → (s : ℕ) → Committed w.told s → (IsGone w s → ⊥) → T.shown s j ≡ None
  pub visible : (j : ℕ) → j < m → free j ≡ false
      → (is_some (T.shown (suc (current w.told)) j) ≡ true) ⊎ ((s : ℕ) × Committed w.told s × (IsGone w s → ⊥) × (is_some (T.shown s j) ≡ true))

pub record InRun {K : Kind} (T : View) (place : ℤ → ℤ → ℕ) (m : ℕ) (w : World K) (free : ℕ → Bool) (key1 key2 : ℤ) : Type 0 where
  pub put_unlawful : (total1 total2 : ℤ) → unlawful total1 total2 ≡ true → answer_of (K.put key1 key2 total1 total2) w ≡ answer.placed (Err refusal.BadTotal)
  pub put_full : (total1 total2 : ℤ) → unlawful total1 total2 ≡ false → NoRoom T m free key1 key2 → answer_of (K.put key1 key2 total1 total2) w ≡ answer.placed (Err refusal.TableFull)
  pub put_room : (total1 total2 : ℤ) → unlawful total1 total2 ≡ false → (NoRoom T m free key1 key2 → ⊥) → accepted (answer_of (K.put key1 key2 total1 total2) w) ≡ true
  pub delete_live : live_at T place w key1 key2 ≡ true → accepted (answer_of (K.delete key1 key2) w) ≡ true
  pub delete_absent : live_at T place w key1 key2 ≡ false → answer_of (K.delete key1 key2) w ≡ answer.placed (Err refusal.KeyNotLive)

pub record Argument (K : Kind) : Type 1 where
  pub Sound : ℕ → World K → Type 0
  pub view : World K → View
  -- a table has a slot
  pub some : (m : ℕ) (w : World K) → Sound m w → 1 ≤ m
  -- a fresh start, and every call is a step
  pub fresh : (m : ℕ) → Size m → Stands Sound view m (fresh_world K m)
  pub makes : (m : ℕ) (w : World K) → Stands Sound view m w → (call : K.Call) → is_load (heard_of call w) ≡ false → Went Sound view m w (next call w)
  -- what calls answer: the place of a key, and whether a slot may be taken
  pub place : World K → ℤ → ℤ → ℕ
  pub free : World K → ℕ → Bool
  pub placed : (m : ℕ) (w : World K) → Stands Sound view m w → (key1 key2 : ℤ) → Place (view w) m key1 key2 (place w key1 key2)
  pub runs : (m : ℕ) (w : World K) → Stands Sound view m w → Runs w
  pub reads : (m : ℕ) (w : World K) → Stands Sound view m w → Reads (view w) (place w) m w
  pub idle : (m : ℕ) (w : World K) → Stands Sound view m w → w.told.active ≡ false → (key1 key2 : ℤ) → Idle w key1 key2
  pub rooms : (m : ℕ) (w : World K) → Stands Sound view m w → w.told.active ≡ true → Rooms (view w) m w (free w)
  pub in_run : (m : ℕ) (w : World K) → Stands Sound view m w → w.told.active ≡ true → (key1 key2 : ℤ) → InRun (view w) (place w) m w (free w) key1 key2

module _ {K : Kind} (A : Argument K) where
  abbrev pub Well : ℕ → World K → Type 0
  Well m w = Stands A.Sound A.view m w

  abbrev pub Goes : ℕ → World K → World K → Type 0
  Goes m w w' = Went A.Sound A.view m w w'

  pub went_well : {m : ℕ} {w w' : World K} → Goes m w w' → Well m w'
  went_well x = record { sound = x.sound; inv = x.step.inv }

  -- ---- every history
  pub after_step : (m : ℕ) (w : World K) → Well m w → (h : List K.Call) → NoLoad h w → Goes m w (after h w)
  after_step m w i [] none = record { sound = i.sound; step = same_step i.inv }
  after_step m w i (call ∷ h) none =
      let x = A.makes m w i call none.0 in
      let y = after_step m (next call w) (went_well x) h none.1 in
      record { sound = y.sound; step = then x.step y.step }
