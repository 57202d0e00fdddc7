-- Every call of the library as a value, and its answer as a value. Assumes nothing.
use Rattle.std.specs.Prelude.{List, ℕ, ℤ, Option, Result}
use Rattle.refusals.specs.declared.Refusal.{Refusal}
use Rattle.reads.specs.declared.Row.{Row}
use Rattle.reads_roll_up.specs.declared.Sums.{Sums}
use Rattle.blocks.specs.declared.Header.{Header}

pub data Call : Type 0 where
  open_session : Call
  begin : Call
  commit : Call
  -- session, slot number
  read_slot : ℤ → ℕ → Call
  -- session, key one, key two
  read_key : ℤ → ℤ → ℤ → Call
  -- session, first key word
  roll_up : ℤ → ℤ → Call
  -- key one, key two, total one, total two
  put : ℤ → ℤ → ℤ → ℤ → Call
  -- key one, key two
  delete : ℤ → ℤ → Call
  roll_back : Call
  save_header : Call
  -- block number
  save_block : ℕ → Call
  -- the lent bytes
  load_header : List ℕ → Call
  -- block number, the lent bytes
  load_block : ℕ → List ℕ → Call

-- each is what the call answers where nothing refuses it, or its refusal
pub data Answer : Type 0 where
  -- the number of a version
  numbered : Result ℤ Refusal → Answer
  -- a row, or none
  seen : Result (Option Row) Refusal → Answer
  rolled : Result Sums Refusal → Answer
  -- the number of the slot
  placed : Result ℕ Refusal → Answer
  -- the block is in the state
  saved : Result Unit Refusal → Answer
  header : Result Header Refusal → Answer
  loaded : Result Unit Refusal → Answer
