-- The table of eight words to a slot, which keeps two versions, as a kind: its calls are the library's, and what is heard of one is
-- worked out from its arguments and its answer. Demand 3 is what is demanded of it. Assumes nothing.
use Rattle.std.specs.Prelude.{◌≡◌, true, cond, List, [], ◌∷◌, ℕ, take}
use Rattle.calls.specs.Terms.{fresh_record, fresh_table}
use Rattle.calls.specs.Calls.{Call, open_session, begin, commit, read_slot, read_key, roll_up, put, delete, roll_back, save_header, save_block, load_header, load_block, Answer}
use Rattle.calls.specs.Perform.{State, perform}
use Rattle.history.specs.Databases.{Change, gives, takes_out}
use Rattle.history.specs.Followed.{current, open_versions, Heard, went_in, nothing, began_run, committed_run, rolled_back_run, loaded_block}
use Rattle.history.specs.Kinds.{Kind, accepted, Size, fresh_world, after, NoLoad}
use Rattle.history.specs.Demand.{Demanded}

-- of the changes that a call asks for, those that went in: one that is accepted, none that is refused
abbrev pub heard_changes : Answer → List Change → Heard
heard_changes a asked = went_in (take (cond (accepted a) 1 0) asked)

abbrev pub if_accepted : Answer → Heard → Heard
if_accepted a x = cond (accepted a) x nothing

abbrev pub heard_from : Call → Answer → Heard
heard_from open_session a = nothing
heard_from begin a = if_accepted a began_run
heard_from commit a = if_accepted a committed_run
heard_from (read_slot s k) a = nothing
heard_from (read_key s key1 key2) a = nothing
heard_from (roll_up s key1) a = nothing
heard_from (put key1 key2 x y) a = heard_changes a (gives key1 key2 x y ∷ [])
heard_from (delete key1 key2) a = heard_changes a (takes_out key1 key2 ∷ [])
heard_from roll_back a = if_accepted a rolled_back_run
heard_from save_header a = nothing
heard_from (save_block k) a = nothing
heard_from (load_header b) a = nothing
heard_from (load_block k b) a = if_accepted a loaded_block

-- a fresh table of m slots and a fresh record
abbrev pub fresh_state : ℕ → State
fresh_state m = record { words = fresh_table m; versions = fresh_record; block = [] }

abbrev pub two_versions : Kind
two_versions = record {
  State = State;
  fresh = fresh_state;
  Call = Call;
  answer = λ call st. (perform call st).answer;
  left = λ call st. (perform call st).state;
  heard = heard_from;
  keeps = 2;
  open_session = open_session;
  begin = begin;
  commit = commit;
  read_slot = read_slot;
  read_key = read_key;
  roll_up = roll_up;
  put = put;
  delete = delete;
  roll_back = roll_back;
}

-- what is demanded of it; and where the demand speaks of the open versions during a run, that is current alone
pub record Demand3 : Type 0 where
  pub demanded : Demanded two_versions
  pub current-alone : (m : ℕ) → Size m → (h : List Call) → NoLoad h (fresh_world two_versions m)
      → let g = (after h (fresh_world two_versions m)).told in g.active ≡ true → open_versions 2 g ≡ current g ∷ []
