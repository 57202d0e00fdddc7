-- Fields of demand 3's statement at computed histories of tables of one slot and of three: what the wrong builds of RULES.md would
-- break, and a wrong tally. They follow from `demand3` too; here they are computed from the definitions alone, so that a wrong build
-- in these makes one of them false (`.ci/wrong-builds`). Assumes nothing.
use Rattle.std.specs.Prelude.{◌≡◌, refl, List, [], ◌∷◌, ℕ, ℤ, pos, Option, Some, None, Ok}
use Rattle.std.proofs.Common.{sym, ap, ◌∙◌, arith}
use Rattle.laws.specs.Tests.{all, any}
use Rattle.laws.specs.First.{first}
use Rattle.laws.specs.Lowest.{lowest, some}
use Rattle.versions.specs.Record.{bad_record}
use Rattle.versions.specs.Sessions.{unborn, expired}
use Rattle.versions_runs.specs.Runs.{begin_refusal, begin_answer, begin_record, commit_refusal, commit_answer, commit_record}
use Rattle.table.specs.Slots.{bad_table, slot_at, put_slot}
use Rattle.table_forms.specs.Operations.{column, live}
use Rattle.table_forms.specs.Totals.{lawful, reported, unlawful}
use Rattle.table_forms.specs.Formed.{all_zeros, totals_lawful, used_well, well_formed, any_broken}
use Rattle.table_keys.specs.Keys.{has_key, key_slot}
use Rattle.table_free.specs.Free.{long_deleted, free, free_slot}
use Rattle.reads.specs.Table1.{shown}
use Rattle.reads.specs.ReadSlot.{read_slot_refusal, read_slot_answer}
use Rattle.reads.specs.ReadKey.{read_key_refusal, read_key_answer}
use Rattle.reads_roll_up.specs.RollUp.{roll_up_refusal, roll_up_answer}
use Rattle.changes_cells.specs.Tables.{changed}
use Rattle.changes.specs.Put.{put_refusal, put_answer, put_words}
use Rattle.changes.specs.Delete.{delete_refusal, delete_answer, delete_words}
use Rattle.changes_roll_back.specs.RollBack.{rolled_back, roll_back_refusal, roll_back_answer, roll_back_words, roll_back_record}
use Rattle.calls.specs.Rows.{Row, Sums}
use Rattle.calls.specs.Calls.{Call, begin, commit, put, delete, roll_back, read_key, roll_up}
use Rattle.calls.specs.Calls as answer
use Rattle.history.specs.Databases.{row, found, rolled_up}
use Rattle.history.specs.Followed.{database_at}
use Rattle.history.specs.Kinds.{World, fresh_world, after, answer_of}
use Rattle.figures.specs.Cases.{unreported}
use Rattle.history.specs.Demand.{IsGone, KeyRead, RegionRead, Full}
use Rattle.history.specs.TwoVersions.{two_versions}

-- run 2 puts the row (1, 14) in, and what comes then
abbrev with_row : List Call → World two_versions
with_row h = after {K = two_versions} h (after {K = two_versions} (begin ∷ put (pos 1) (pos 14) (pos 100) (pos 5) ∷ commit ∷ begin ∷ []) (fresh_world two_versions 1))

-- run 3 corrects it twice
abbrev corrected_twice : World two_versions
corrected_twice = with_row (put (pos 1) (pos 14) (pos 110) (pos 5) ∷ put (pos 1) (pos 14) (pos 120) (pos 5) ∷ [])

-- run 3 deletes it and puts it in again
abbrev deleted_put : World two_versions
deleted_put = with_row (delete (pos 1) (pos 14) ∷ put (pos 1) (pos 14) (pos 130) (pos 5) ∷ [])

-- run 3 corrects it and is rolled back
abbrev corrected_back : World two_versions
corrected_back = with_row (put (pos 1) (pos 14) (pos 110) (pos 5) ∷ roll_back ∷ [])

-- run 3 deletes it, and another key finds no slot
abbrev deleted_another : World two_versions
deleted_another = with_row (delete (pos 1) (pos 14) ∷ put (pos 2) (pos 14) (pos 300) (pos 0) ∷ [])

-- run 2 puts in a row that reports both totals, one that reports total one alone, which is 0, and one that reports none; run 3
-- corrects the first twice
abbrev partly_reported : World two_versions
partly_reported =
    after {K = two_versions}
    (begin ∷ put (pos 1) (pos 14) (pos 100) (pos 5) ∷ put (pos 1) (pos 15) (pos 0) unreported ∷ put (pos 1) (pos 16) unreported unreported ∷ commit
    ∷ begin ∷ put (pos 1) (pos 14) (pos 110) (pos 5) ∷ put (pos 1) (pos 14) (pos 120) (pos 5) ∷ [])
    (fresh_world two_versions 3)

-- run 2 puts a row in and corrects it
abbrev put_corrected : World two_versions
put_corrected =
    after {K = two_versions} (begin ∷ put (pos 1) (pos 14) (pos 100) (pos 5) ∷ put (pos 1) (pos 14) (pos 110) (pos 5) ∷ []) (fresh_world two_versions 1)

-- a field is shown by what both sides of it come to
read_as : (w : World two_versions) (s : ℕ) (key1 key2 : ℤ) (r : Option Row) → (IsGone w s → ⊥) → answer_of (read_key (pos s) key1 key2) w ≡ answer.seen (Ok r)
    → found key1 key2 (database_at w.told s) ≡ r → KeyRead w s key1 key2
read_as w s key1 key2 r open-still got shown = record { gone = λ h. absurd (open-still h); kept = λ still. got ∙ ap (λ x. answer.seen (Ok x)) (sym shown) }

pub record Held : Type 0 where
  -- 1. a session at 2 reads the row as it was before run 3, however often that corrects it
  pub corrected_twice_lem : KeyRead corrected_twice 2 (pos 1) (pos 14)
  -- 2. a session at 1 reads no row of a key that run 2 put in and corrected
  pub put_corrected_lem : KeyRead put_corrected 1 (pos 1) (pos 14)
  -- 3. a session at 2 keeps the row that run 3 deleted and put in again
  pub deleted_put_lem : KeyRead deleted_put 2 (pos 1) (pos 14)
  -- 4. a slot that run 3 deleted is still a session's: there is no room for another key, and the session reads its row
  pub no_room : Full 1 (with_row (delete (pos 1) (pos 14) ∷ [])) (pos 2) (pos 14) (pos 300) (pos 0)
  pub deleted_another_lem : KeyRead deleted_another 2 (pos 1) (pos 14)
  -- 5. once run 3 has begun, version 1 is gone
  pub gone : KeyRead (with_row []) 1 (pos 1) (pos 14)
  -- 9. and stays gone where run 3 is rolled back, after which a session at 2 reads the row as it was
  pub gone_still : KeyRead corrected_back 1 (pos 1) (pos 14)
  pub corrected-back : KeyRead corrected_back 2 (pos 1) (pos 14)
  -- a region's roll-up has its rows, how many of them reported each total, and the sum of each total as they reported it
  pub region : RegionRead partly_reported 2 (pos 1)

-- the roll-up stands apart, so that a build that breaks a read of a key is refused there too
summed : RegionRead partly_reported 2 (pos 1)
unfolding all any first lowest some bad_record unborn expired begin_refusal begin_answer begin_record commit_refusal commit_answer commit_record bad_table slot_at put_slot column live lawful reported unlawful all_zeros totals_lawful used_well well_formed any_broken has_key key_slot long_deleted free free_slot shown read_slot_refusal read_slot_answer roll_up_refusal roll_up_answer changed put_refusal put_answer put_words delete_refusal delete_answer delete_words rolled_back roll_back_refusal roll_back_answer roll_back_words roll_back_record read_key_refusal read_key_answer
summed = record { gone = λ h. absurd (omega arith); kept = λ still. got ∙ ap (λ x. answer.rolled (Ok x)) (sym sums) }
  where
    reported : Sums
    reported = record { rows = 3; reported1 = 2; reported2 = 1; sum1 = pos 100; sum2 = pos 5 }

    got : answer_of {K = two_versions} (roll_up (pos 2) (pos 1)) partly_reported ≡ answer.rolled (Ok reported)
    got = refl

    sums : rolled_up (pos 1) (database_at partly_reported.told 2) ≡ reported
    sums = refl

pub held : Held
unfolding all any first lowest some bad_record unborn expired begin_refusal begin_answer begin_record commit_refusal commit_answer commit_record bad_table slot_at put_slot column live lawful reported unlawful all_zeros totals_lawful used_well well_formed any_broken has_key key_slot long_deleted free free_slot shown read_slot_refusal read_slot_answer roll_up_refusal roll_up_answer changed put_refusal put_answer put_words delete_refusal delete_answer delete_words rolled_back roll_back_refusal roll_back_answer roll_back_words roll_back_record read_key_refusal read_key_answer
held = record {
  corrected_twice_lem = read_as corrected_twice 2 (pos 1) (pos 14) (Some (row (pos 1) (pos 14) (pos 100) (pos 5))) (λ h. omega arith) refl refl;
  put_corrected_lem = read_as put_corrected 1 (pos 1) (pos 14) None (λ h. omega arith) refl refl;
  deleted_put_lem = read_as deleted_put 2 (pos 1) (pos 14) (Some (row (pos 1) (pos 14) (pos 100) (pos 5))) (λ h. omega arith) refl refl;
  no_room = record { full = λ f. refl; room = λ room. absurd (room (refl, refl)) };
  deleted_another_lem = read_as deleted_another 2 (pos 1) (pos 14) (Some (row (pos 1) (pos 14) (pos 100) (pos 5))) (λ h. omega arith) refl refl;
  gone = record { gone = λ h. refl; kept = λ still. absurd (still (omega arith)) };
  gone_still = record { gone = λ h. refl; kept = λ still. absurd (still (omega arith)) };
  corrected-back = read_as corrected_back 2 (pos 1) (pos 14) (Some (row (pos 1) (pos 14) (pos 100) (pos 5))) (λ h. omega arith) refl refl;
  region = summed;
}
