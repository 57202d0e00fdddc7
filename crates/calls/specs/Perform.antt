-- What a call does to the lent things: it hands on to the definition of the call, and does nothing itself. Assumes nothing.
use Rattle.std.specs.Prelude.{List, ℕ, ℤ}
use Rattle.laws.specs.First.{unless}
use Rattle.versions.specs.declared.VersionRecord.{VersionRecord}
use Rattle.versions_runs.specs.Runs.{open_answer, begin_answer, begin_record, commit_answer, commit_record}
use Rattle.reads.specs.ReadSlot.{read_slot_answer}
use Rattle.reads.specs.ReadKey.{read_key_answer}
use Rattle.reads_roll_up.specs.RollUp.{roll_up_answer}
use Rattle.changes.specs.Put.{put_answer, put_words}
use Rattle.changes.specs.Delete.{delete_answer, delete_words}
use Rattle.changes_roll_back.specs.RollBack.{roll_back_answer, roll_back_words, roll_back_record}
use Rattle.blocks.specs.SaveHeader.{save_header_refusal, save_header_block}
use Rattle.blocks.specs.SaveBlock.{save_block_refusal, save_block_block}
use Rattle.blocks.specs.LoadHeader.{load_header_answer}
use Rattle.blocks.specs.LoadBlock.{load_block_answer, load_block_words}
use Rattle.calls.specs.Calls.{Call, open_session, begin, commit, read_slot, read_key, roll_up, put, delete, roll_back, save_header, save_block, load_header, load_block, Answer, numbered, seen, rolled, placed, saved, header, loaded}

-- the lent things: the table's words, the record, and the block last handed out or lent
pub record State : Type 0 where
  pub words : List ℤ
  pub versions : VersionRecord
  pub block : List ℕ

-- what a call leaves
pub record Done : Type 0 where
  pub answer : Answer
  pub state : State

abbrev pub with_words : State → List ℤ → State
with_words st t = record { words = t; versions = st.versions; block = st.block }

abbrev pub with_version : State → VersionRecord → State
with_version st v = record { words = st.words; versions = v; block = st.block }

abbrev pub with_block : State → List ℕ → State
with_block st b = record { words = st.words; versions = st.versions; block = b }

abbrev pub done : Answer → State → Done
done a st = record { answer = a; state = st }

abbrev pub perform : Call → State → Done
perform open_session st = done (numbered (open_answer st.versions)) st
perform begin st = done (numbered (begin_answer st.versions)) (with_version st (begin_record st.versions))
perform commit st = done (numbered (commit_answer st.versions)) (with_version st (commit_record st.versions))
perform (read_slot s k) st = done (seen (read_slot_answer st.words st.versions s k)) st
perform (read_key s key1 key2) st = done (seen (read_key_answer st.words st.versions s key1 key2)) st
perform (roll_up s key1) st = done (rolled (roll_up_answer st.words st.versions s key1)) st
perform (put key1 key2 total1 total2) st =
    done (placed (put_answer st.words st.versions key1 key2 total1 total2)) (with_words st (put_words st.words st.versions key1 key2 total1 total2))
perform (delete key1 key2) st =
    done (placed (delete_answer st.words st.versions key1 key2)) (with_words st (delete_words st.words st.versions key1 key2))
perform roll_back st =
    done (numbered (roll_back_answer st.words st.versions)) (with_version (with_words st (roll_back_words st.words st.versions)) (roll_back_record st.words st.versions))
perform save_header st =
    done (saved (unless (save_header_refusal st.words st.versions) tt)) (with_block st (save_header_block st.words st.versions))
perform (save_block k) st =
    done (saved (unless (save_block_refusal st.words st.versions k) tt)) (with_block st (save_block_block st.words st.versions k))
perform (load_header given) st = done (header (load_header_answer given)) (with_block st given)
perform (load_block k given) st =
    done (loaded (load_block_answer st.words st.versions k given))
    (with_block (with_words st (load_block_words st.words st.versions k given)) given)
