-- Demand 3, said of a world of a kind of table: what is lent, with what was followed of its history. What each statement promises
-- holds after every history, `Kept` below. 'Committed', 'current', 'running' and 'gone' are by what was followed alone: a version
-- is gone once the run that many above it has begun, as many as the kind keeps. Assumes nothing.
use Rattle.std.specs.Prelude.{◌≡◌, true, false, ℕ, suc, ◌≤◌, ◌<◌, ℤ, pos, nat_abs, length, Option, Ok, Err}
use mathlib.Core.List.{List, [], map, Perm}
use Rattle.calls.specs.Terms.{largest_version, unlawful}
use Rattle.calls.specs.Refusals as refusal
use Rattle.calls.specs.Rows.{Row}
use Rattle.calls.specs.Calls.{Answer}
use Rattle.calls.specs.Calls as answer
use Rattle.history.specs.Databases.{Database, holds, NoRepeat, Change, made_by, found, IsOf, rolled_up, up_to, all_together}
use Rattle.history.specs.Followed.{current, changes_of, database_at, running, Committed, Gone, open_versions, went_in, began_run, committed_run, rolled_back_run}
use Rattle.history.specs.Kinds.{Kind, accepted, Size, World, fresh_world, answer_of, heard_of, next, after, NoLoad}
use Rattle.history.specs.SessionTurns.{Turn, calls_of, slots_asked, answers_got, NoneRefused, rows_got}

-- the version is gone
abbrev pub IsGone : {K : Kind} → World K → ℕ → Type 0
IsGone {K} w s = Gone K.keeps w.told s

-- an answer is one thing once the version is gone, and another until then
pub record Until {K : Kind} (w : World K) (s : ℕ) (got expired shown : Answer) : Type 0 where
  pub gone : IsGone w s → got ≡ expired
  pub kept : (IsGone w s → ⊥) → got ≡ shown

-- an answer to a read that shows no row, or a row of the database
pub data Shows (d : Database) : Answer → Type 0 where
  answered : (r : Option Row) → IsOf d r → Shows d (answer.seen (Ok r))

module _ {K : Kind} where
  -- ---- runs: open answers the current version; begin is accepted exactly with no run active and a version left, commit exactly
  -- in a run, and both answer the next version; roll back is accepted exactly in a run, and answers the current version
  pub record Runs (w : World K) : Type 0 where
    pub opened : answer_of K.open_session w ≡ answer.numbered (Ok (pos (current w.told)))
    pub begun : w.told.active ≡ false → current w.told < nat_abs largest_version → answer_of K.begin w ≡ answer.numbered (Ok (pos (suc (current w.told))))
    pub begun_already : w.told.active ≡ true → answer_of K.begin w ≡ answer.numbered (Err refusal.RunActive)
    pub no_version_left : w.told.active ≡ false → nat_abs largest_version ≤ current w.told → answer_of K.begin w ≡ answer.numbered (Err refusal.NoVersionLeft)
    pub committed : w.told.active ≡ true → answer_of K.commit w ≡ answer.numbered (Ok (pos (suc (current w.told))))
    pub no_run : w.told.active ≡ false → answer_of K.commit w ≡ answer.numbered (Err refusal.NoRun)
    pub rolled_back : w.told.active ≡ true → answer_of K.roll_back w ≡ answer.numbered (Ok (pos (current w.told)))
    pub nothing_to_roll_back : w.told.active ≡ false → answer_of K.roll_back w ≡ answer.numbered (Err refusal.NoRun)

  -- ---- a read of a key, and a roll-up, at a committed version s answers from database s, and is refused as expired exactly when
  -- that version is gone
  abbrev pub KeyRead : World K → ℕ → ℤ → ℤ → Type 0
  KeyRead w s key1 key2 = Until w s (answer_of (K.read_key (pos s) key1 key2) w) (answer.seen (Err refusal.Expired)) (answer.seen (Ok (found key1 key2 (database_at w.told s))))

  abbrev pub KeyReads : World K → Type 0
  KeyReads w = (s : ℕ) → Committed w.told s → (key1 key2 : ℤ) → KeyRead w s key1 key2

  abbrev pub RegionRead : World K → ℕ → ℤ → Type 0
  RegionRead w s key1 = Until w s (answer_of (K.roll_up (pos s) key1) w) (answer.rolled (Err refusal.Expired)) (answer.rolled (Ok (rolled_up key1 (database_at w.told s))))

  abbrev pub RollUps : World K → Type 0
  RollUps w = (s : ℕ) → Committed w.told s → (key1 : ℤ) → RegionRead w s key1

  -- ---- a read of a slot is refused as expired exactly then, or by 5 past the last slot; else it answers no row, or a row of
  -- database s; and it answers the same as long as the version is not gone, whatever is called between
  pub record SlotRead (m : ℕ) (w : World K) (s k : ℕ) : Type 0 where
    pub gone : IsGone w s → answer_of (K.read_slot (pos s) k) w ≡ answer.seen (Err refusal.Expired)
    pub past : (IsGone w s → ⊥) → m ≤ k → answer_of (K.read_slot (pos s) k) w ≡ answer.seen (Err refusal.NoSuchPlace)
    pub kept : (IsGone w s → ⊥) → k < m → Shows (database_at w.told s) (answer_of (K.read_slot (pos s) k) w)
    pub stays : (h : List K.Call) → NoLoad h w → (IsGone (after h w) s → ⊥) → answer_of (K.read_slot (pos s) k) (after h w) ≡ answer_of (K.read_slot (pos s) k) w

  abbrev pub SlotReads : ℕ → World K → Type 0
  SlotReads m w = (s : ℕ) → Committed w.told s → (k : ℕ) → SlotRead m w s k

  -- ---- a session that reads each slot once, with any calls between, and isn't refused, gets each row of database s once and
  -- nothing else
  pub record ReadsEach (m : ℕ) (w : World K) (s : ℕ) (turns : List (Turn K)) : Type 0 where
    pub no_load : NoLoad (calls_of s turns) w
    pub each : Perm (slots_asked turns) (up_to m)
    pub none_refused : NoneRefused (answers_got s turns w)

  abbrev pub Sessions : ℕ → World K → Type 0
  Sessions m w = (s : ℕ) → Committed w.told s → (turns : List (Turn K)) → ReadsEach m w s turns → Perm (rows_got (answers_got s turns w)) (database_at w.told s)

  -- ---- during a run, a put with lawful totals is refused as full exactly when the databases of the open versions and the running
  -- one together hold as many keys as there are slots, this key in none; and else it is accepted
  abbrev pub held_in_run : World K → Database
  held_in_run w = all_together (map (database_at w.told) (open_versions K.keeps w.told)) (running w.told)

  abbrev pub IsFull : ℕ → World K → ℤ → ℤ → Type 0
  IsFull m w key1 key2 = (length (held_in_run w) ≡ m) × (holds key1 key2 (held_in_run w) ≡ false)

  pub record Full (m : ℕ) (w : World K) (key1 key2 total1 total2 : ℤ) : Type 0 where
    pub full : IsFull m w key1 key2 → answer_of (K.put key1 key2 total1 total2) w ≡ answer.placed (Err refusal.TableFull)
    pub room : (IsFull m w key1 key2 → ⊥) → accepted (answer_of (K.put key1 key2 total1 total2) w) ≡ true

  abbrev pub Fullness : ℕ → World K → Type 0
  Fullness m w = w.told.active ≡ true → (key1 key2 total1 total2 : ℤ) → unlawful total1 total2 ≡ false → Full m w key1 key2 total1 total2

  -- ---- changes: with no run active every one is refused 8; during a run a put of totals that are not lawful is refused 13, and a
  -- delete is accepted exactly when its key is in the running database, and else refused 11
  pub record Changes (w : World K) (key1 key2 : ℤ) : Type 0 where
    pub put_idle : w.told.active ≡ false → (total1 total2 : ℤ) → answer_of (K.put key1 key2 total1 total2) w ≡ answer.placed (Err refusal.NoRun)
    pub delete_idle : w.told.active ≡ false → answer_of (K.delete key1 key2) w ≡ answer.placed (Err refusal.NoRun)
    pub put_unlawful : w.told.active ≡ true → (total1 total2 : ℤ) → unlawful total1 total2 ≡ true → answer_of (K.put key1 key2 total1 total2) w ≡ answer.placed (Err refusal.BadTotal)
    pub delete_live : w.told.active ≡ true → holds key1 key2 (running w.told) ≡ true → accepted (answer_of (K.delete key1 key2) w) ≡ true
    pub delete_absent : w.told.active ≡ true → holds key1 key2 (running w.told) ≡ false → answer_of (K.delete key1 key2) w ≡ answer.placed (Err refusal.KeyNotLive)

  -- ---- the incident: a region is a first key, its stores the rows that have it. Wherever session s is not refused, the roll-up
  -- of the region has the counts and the sums of its stores as the session read them, slot by slot, at any places of the history
  abbrev pub Incident : ℕ → World K → Type 0
  Incident m w = (s : ℕ) → Committed w.told s → (turns : List (Turn K)) → ReadsEach m w s turns
      → (h : List K.Call) → NoLoad h w → (IsGone (after h w) s → ⊥)
      → (region : ℤ) → answer_of (K.roll_up (pos s) region) (after h w) ≡ answer.rolled (Ok (rolled_up region (rows_got (answers_got s turns w))))

  -- ---- the databases: database v + 1 is what the changes of run v + 1 make of database v, one by one; a committed one is never
  -- altered; between runs the running one is the current; and no key stands twice in one. Call by call: a run begins with the
  -- current database; what goes in of a call makes what it says of the running one; a commit makes that the next; and a roll back
  -- leaves the current one
  pub record Databases (w : World K) : Type 0 where
    pub begun : (call : K.Call) → heard_of call w ≡ began_run → running (next call w).told ≡ database_at w.told (current w.told)
    pub changed : (call : K.Call) (l : List Change) → heard_of call w ≡ went_in l → running (next call w).told ≡ made_by l (running w.told)
    pub committed : (call : K.Call) → heard_of call w ≡ committed_run → database_at (next call w).told (suc (current w.told)) ≡ running w.told
    pub rolled_back : (call : K.Call) → heard_of call w ≡ rolled_back_run → running (next call w).told ≡ database_at w.told (current w.told)
    pub made : (v : ℕ) → Committed w.told v → Committed w.told (suc v) → database_at w.told (suc v) ≡ made_by (changes_of w.told (suc v)) (database_at w.told v)
    pub kept : (s : ℕ) → Committed w.told s → (h : List K.Call) → NoLoad h w → database_at (after h w).told s ≡ database_at w.told s
    pub settled : w.told.active ≡ false → running w.told ≡ database_at w.told (current w.told)
    pub once : (s : ℕ) → NoRepeat (database_at w.told s)
    pub running_once : NoRepeat (running w.told)

  -- ---- all of it, after a history
  pub record Kept (m : ℕ) (w : World K) : Type 0 where
    pub runs : Runs w
    pub key_reads : KeyReads w
    pub roll_ups : RollUps w
    pub slot_reads : SlotReads m w
    pub sessions : Sessions m w
    pub fullness : Fullness m w
    pub changes : (key1 key2 : ℤ) → Changes w key1 key2
    pub incident : Incident m w
    pub databases : Databases w

  -- ---- from a fresh start, where versions go from 1 up and database 1 is empty
  pub record FromFresh (m : ℕ) (w : World K) : Type 0 where
    pub origin : w.told.origin ≡ 1
    pub empty : database_at w.told 1 ≡ []
    pub kept : Kept m w

-- ---- the demand of a kind of table: for every size and every history in which no block is loaded
abbrev pub Demanded : Kind → Type 0
Demanded K = (m : ℕ) → Size m → (h : List K.Call) → NoLoad h (fresh_world K m) → FromFresh m (after h (fresh_world K m))
