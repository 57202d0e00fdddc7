-- A worked history of a table of two slots, computed: the premises of demand 3's statements hold in it, so that none of them is
-- empty; only the largest version, 10^9 runs away, is not reached. A session at version 2 reads slot 0 before run 3 and slot 1
-- after it; a load and changes are refused; during run 3 the table is full; run 4 makes the session expire, and takes the slot
-- that run 3 freed. Assumes nothing.
use Rattle.std.specs.Prelude.{◌≡◌, refl, false, pos, Some, Ok, Err}
use mathlib.Core.List.{List, [], ◌∷◌, Perm}
use Rattle.std.proofs.Common.{arith}
use Rattle.laws.specs.Tests.{all, any}
use Rattle.laws.specs.First.{first}
use Rattle.laws.specs.Lowest.{lowest, some}
use Rattle.versions.specs.Record.{bad_record}
use Rattle.versions.specs.Sessions.{unborn, expired}
use Rattle.versions_runs.specs.Runs.{begin_refusal, begin_answer, begin_record, commit_refusal, commit_answer, commit_record}
use Rattle.table.specs.Slots.{bad_table, slot_at, put_slot}
use Rattle.table_forms.specs.Operations.{column, live}
use Rattle.table_forms.specs.Totals.{lawful, reported, unlawful}
use Rattle.table_forms.specs.Formed.{all_zeros, totals_lawful, used_well, well_formed, any_broken}
use Rattle.table_keys.specs.Keys.{has_key, key_slot}
use Rattle.table_free.specs.Free.{long_deleted, free, free_slot}
use Rattle.reads.specs.Table1.{shown}
use Rattle.reads.specs.ReadSlot.{read_slot_refusal, read_slot_answer}
use Rattle.reads.specs.ReadKey.{read_key_refusal, read_key_answer}
use Rattle.reads_roll_up.specs.RollUp.{roll_up_refusal, roll_up_answer}
use Rattle.changes_cells.specs.Tables.{changed}
use Rattle.changes.specs.Put.{put_refusal, put_answer, put_words}
use Rattle.changes.specs.Delete.{delete_refusal, delete_answer, delete_words}
use Rattle.blocks.specs.LoadBlock.{load_block_refusal, load_block_answer, load_block_words}
use Rattle.calls.specs.Refusals as refusal
use Rattle.calls.specs.Rows.{Row}
use Rattle.calls.specs.Calls.{Call, begin, commit, put, delete, read_slot, read_key, roll_up, load_block}
use Rattle.calls.specs.Calls as answer
use Rattle.history.specs.Databases.{row, gives}
use Rattle.history.specs.Followed.{database_at, running, Committed}
use Rattle.history.specs.Kinds.{World, fresh_world, after, answer_of, NoLoad}
use Rattle.history.specs.SessionTurns.{Turn, mine, other, answers_got, rows_got}
use Rattle.history.specs.Demand.{IsGone, ReadsEach, IsFull}
use mathlib.Core.List.Permᴰ
use Rattle.history.specs.TwoVersions.{two_versions}

abbrev TwoWorld : Type 0
TwoWorld = World two_versions

-- two rows of one group
abbrev first-row : Row
first-row = row (pos 1) (pos 14) (pos 100) (pos 0)

abbrev second-row : Row
second-row = row (pos 1) (pos 15) (pos 200) (pos 0)

-- a load of no bytes is refused; run 2 puts the two rows in, and a delete of a key that is absent is refused
abbrev run2 : List Call
run2 =
    load_block 1 []
    ∷ begin
    ∷ put (pos 1) (pos 14) (pos 100) (pos 0)
    ∷ put (pos 1) (pos 15) (pos 200) (pos 0)
    ∷ delete (pos 2) (pos 14)
    ∷ []

abbrev in2 : TwoWorld
in2 = after run2 (fresh_world two_versions 2)

abbrev at2 : TwoWorld
at2 = after {K = two_versions} (commit ∷ []) in2

-- run 3 corrects the first twice and deletes the second
abbrev run3 : List Call
run3 = begin ∷ put (pos 1) (pos 14) (pos 110) (pos 0) ∷ put (pos 1) (pos 14) (pos 120) (pos 0) ∷ delete (pos 1) (pos 15) ∷ []

abbrev in3 : TwoWorld
in3 = after {K = two_versions} run3 at2

-- run 4 begins
abbrev in4 : TwoWorld
in4 = after {K = two_versions} (commit ∷ begin ∷ []) in3

-- the session at 2: slot 0 before run 3, slot 1 after it
abbrev turns : List (Turn two_versions)
turns =
    mine 0
    ∷ other begin
    ∷ other (put (pos 1) (pos 14) (pos 110) (pos 0))
    ∷ other (put (pos 1) (pos 14) (pos 120) (pos 0))
    ∷ other (delete (pos 1) (pos 15))
    ∷ other commit
    ∷ mine 1
    ∷ []

pub record Worked : Type 0 where
  -- what was followed: the changes that went in, and the databases that they make
  pub told : at2.told ≡ record {
    origin = 1;
    opening = [];
    runs = (gives (pos 1) (pos 14) (pos 100) (pos 0) ∷ gives (pos 1) (pos 15) (pos 200) (pos 0) ∷ []) ∷ [];
    changes = [];
    begun = 2;
    active = false;
  }
  pub database : database_at at2.told 2 ≡ second-row ∷ first-row ∷ []
  pub running_then : running in3.told ≡ row (pos 1) (pos 14) (pos 120) (pos 0) ∷ []
  -- no block is loaded: the load is refused
  pub load_refused : answer_of (load_block 1 []) (fresh_world two_versions 2) ≡ answer.loaded (Err refusal.NotBlock)
  pub no_load : NoLoad run2 (fresh_world two_versions 2)
  -- changes that are refused: a delete of an absent key, a put of totals that are not lawful, and a delete with no run
  pub absent : answer_of {K = two_versions} (delete (pos 2) (pos 14)) in2 ≡ answer.placed (Err refusal.KeyNotLive)
  pub not_lawful : answer_of {K = two_versions} (put (pos 1) (pos 14) (pos 0) (pos 1000000000000001)) in3 ≡ answer.placed (Err refusal.BadTotal)
  pub no_run : answer_of {K = two_versions} (delete (pos 1) (pos 14)) at2 ≡ answer.placed (Err refusal.NoRun)
  -- versions 1 and 2 are committed; version 2 is not gone in run 3, and gone in run 4
  pub committed_first : Committed at2.told 1
  pub committed : Committed at2.told 2
  pub not_gone : IsGone in3 2 → ⊥
  pub gone : IsGone in4 2
  -- the session reads each slot once (`up_to` has them the other way round), and gets the rows of database 2
  pub each : ReadsEach 2 at2 2 turns
  pub rows : rows_got (answers_got 2 turns at2) ≡ first-row ∷ second-row ∷ []
  pub its_rows : Perm (rows_got (answers_got 2 turns at2)) (database_at at2.told 2)
  pub past : answer_of {K = two_versions} (read_slot (pos 2) 2) at2 ≡ answer.seen (Err refusal.NoSuchPlace)
  -- in run 3 a key read and the region's roll-up at version 2 answer what they did
  pub key : answer_of {K = two_versions} (read_key (pos 2) (pos 1) (pos 14)) in3 ≡ answer.seen (Ok (Some first-row))
  pub region : answer_of {K = two_versions} (roll_up (pos 2) (pos 1)) in3 ≡ answer.rolled (Ok (record { rows = 2; reported1 = 2; reported2 = 2; sum1 = pos 300; sum2 = pos 0 }))
  -- there the two databases together hold both keys: a third is refused as full, and one that is live is accepted
  pub is_full : IsFull 2 in3 (pos 2) (pos 14)
  pub full : answer_of {K = two_versions} (put (pos 2) (pos 14) (pos 300) (pos 0)) in3 ≡ answer.placed (Err refusal.TableFull)
  pub live : answer_of {K = two_versions} (put (pos 1) (pos 14) (pos 300) (pos 0)) in3 ≡ answer.placed (Ok 0)
  -- once run 4 has begun, session 2 is expired, and the third key takes slot 1
  pub expired_then : answer_of {K = two_versions} (read_slot (pos 2) 0) in4 ≡ answer.seen (Err refusal.Expired)
  pub reused : answer_of {K = two_versions} (put (pos 2) (pos 14) (pos 300) (pos 0)) in4 ≡ answer.placed (Ok 1)

pub worked : Worked
unfolding all any first lowest some bad_record unborn expired begin_refusal begin_answer begin_record commit_refusal commit_answer commit_record bad_table slot_at put_slot column live lawful reported unlawful all_zeros totals_lawful used_well well_formed any_broken has_key key_slot long_deleted free free_slot shown read_slot_refusal read_slot_answer roll_up_refusal roll_up_answer changed put_refusal put_answer put_words delete_refusal delete_answer delete_words read_key_refusal read_key_answer load_block_refusal load_block_answer load_block_words
worked = record {
  told = refl;
  database = refl;
  running_then = refl;
  load_refused = refl;
  no_load = (refl, (refl, (refl, (refl, (refl, tt)))));
  absent = refl;
  not_lawful = refl;
  no_run = refl;
  committed_first = record { from = omega arith; to = omega arith };
  committed = record { from = omega arith; to = omega arith };
  not_gone = λ h. omega arith;
  gone = omega arith;
  each = record {
    no_load = (refl, (refl, (refl, (refl, (refl, (refl, (refl, tt)))))));
    each = ∣ Permᴰ.swap refl refl ∣₁;
    none_refused = (refl, (refl, tt));
  };
  rows = refl;
  its_rows = ∣ Permᴰ.swap refl refl ∣₁;
  past = refl;
  key = refl;
  region = refl;
  is_full = (refl, refl);
  full = refl;
  live = refl;
  expired_then = refl;
  reused = refl;
}
