-- A kind of table, as demand 3 sees it: what is lent, the calls with their answers, and what is heard of each. Histories of it are
-- lists of its calls, any numbers in them, from what is lent fresh; beside what is lent goes what is followed. Assumes nothing.
use Rattle.std.specs.Prelude.{◌≡◌, Bool, true, false, List, [], ◌∷◌, ℕ, ◌≤◌, ℤ, is_ok}
use Rattle.calls.specs.Terms.{most_slots}
use Rattle.calls.specs.Calls.{Answer, numbered, seen, rolled, placed, saved, header, loaded}
use Rattle.history.specs.Followed.{Followed, fresh_start, Heard, went_in, began_run, committed_run, rolled_back_run, loaded_block, hear}

pub record Kind : Type 1 where
  -- what is lent, and what is lent fresh for a table of so many slots
  pub State : Type 0
  pub fresh : ℕ → State
  -- a call, what it answers and what it leaves
  pub Call : Type 0
  pub answer : Call → State → Answer
  pub left : Call → State → State
  -- what is heard of a call, by its arguments and its answer alone
  pub heard : Call → Answer → Heard
  -- how many versions it keeps: version s is gone once run s + that many has begun
  pub keeps : ℕ
  -- the calls that demand 3 speaks of
  pub open_session : Call
  pub begin : Call
  pub commit : Call
  pub read_slot : ℤ → ℕ → Call
  pub read_key : ℤ → ℤ → ℤ → Call
  pub roll_up : ℤ → ℤ → Call
  pub put : ℤ → ℤ → ℤ → ℤ → Call
  pub delete : ℤ → ℤ → Call
  pub roll_back : Call

-- ---- a call is accepted if what it answers is no refusal
abbrev pub accepted : Answer → Bool
accepted (numbered r) = is_ok r
accepted (seen r) = is_ok r
accepted (rolled r) = is_ok r
accepted (placed r) = is_ok r
accepted (saved r) = is_ok r
accepted (header r) = is_ok r
accepted (loaded r) = is_ok r

-- 1 to 1,024 slots
pub record Size (m : ℕ) : Type 0 where
  pub some : 1 ≤ m
  pub few : m ≤ most_slots

-- ---- what is lent, and what was followed
pub record World (K : Kind) : Type 0 where
  pub state : K.State
  pub told : Followed

abbrev pub fresh_world : (K : Kind) → ℕ → World K
fresh_world K m = record { state = K.fresh m; told = fresh_start }

-- one call
abbrev pub answer_of : {K : Kind} → K.Call → World K → Answer
answer_of {K} call w = K.answer call w.state

abbrev pub heard_of : {K : Kind} → K.Call → World K → Heard
heard_of {K} call w = K.heard call (answer_of call w)

abbrev pub next : {K : Kind} → K.Call → World K → World K
next {K} call w = record { state = K.left call w.state; told = hear (heard_of call w) w.told }

-- a history
abbrev pub after : {K : Kind} → List K.Call → World K → World K
after [] w = w
after (call ∷ h) w = after h (next call w)

-- ---- no block loaded: a load that is refused is a call like any other
abbrev pub is_load : Heard → Bool
is_load (went_in l) = false
is_load began_run = false
is_load committed_run = false
is_load rolled_back_run = false
is_load loaded_block = true

abbrev pub NoLoad : {K : Kind} → List K.Call → World K → Type 0
NoLoad [] w = Unit {0}
NoLoad (call ∷ h) w = (is_load (heard_of call w) ≡ false) × NoLoad h (next call w)
