-- The figures hold: performing the calls of every case gives the numbers, the words and the record that it expects. One
-- statement over the one table of cases, which the checker computes. This crate, and no other outside the one that owns it,
-- unfolds a shut definition. Assumes nothing.
use Rattle.std.specs.Prelude.{◌≡◌, refl, List, [], ◌∷◌, map, ℤ}
use Rattle.laws.specs.Tests.{all, any}
use Rattle.laws.specs.First.{first}
use Rattle.laws.specs.Lowest.{lowest, some}
use Rattle.versions.specs.declared.VersionRecord.{VersionRecord}
use Rattle.versions.specs.Record.{bad_record}
use Rattle.versions.specs.Sessions.{unborn, expired}
use Rattle.versions_runs.specs.Runs.{begin_refusal, begin_answer, begin_record, commit_refusal, commit_answer, commit_record}
use Rattle.table.specs.Slots.{bad_table, slot_at, put_slot}
use Rattle.table_forms.specs.Operations.{column, live}
use Rattle.table_forms.specs.Totals.{lawful, reported, unlawful}
use Rattle.table_forms.specs.Formed.{all_zeros, totals_lawful, used_well, well_formed, any_broken}
use Rattle.table_keys.specs.Keys.{has_key, key_slot}
use Rattle.table_free.specs.Free.{long_deleted, free, free_slot}
use Rattle.reads.specs.Table1.{shown}
use Rattle.reads.specs.ReadSlot.{read_slot_refusal, read_slot_answer}
use Rattle.reads.specs.ReadKey.{read_key_refusal, read_key_answer}
use Rattle.reads_roll_up.specs.RollUp.{roll_up_refusal, roll_up_answer}
use Rattle.changes_cells.specs.Tables.{changed}
use Rattle.changes.specs.Put.{put_refusal, put_answer, put_words}
use Rattle.changes.specs.Delete.{delete_refusal, delete_answer, delete_words}
use Rattle.changes_roll_back.specs.RollBack.{rolled_back, roll_back_refusal, roll_back_answer, roll_back_words, roll_back_record}
use Rattle.calls.specs.Calls.{Call}
use Rattle.calls.specs.Numbers.{numbers}
use Rattle.calls.specs.Perform.{State, perform}
use Rattle.figures.specs.Cases.{Case, cases}

-- what a case comes to: the numbers of its calls, and the words and the record after
pub record Outcome : Type 0 where
  pub numbers : List (List ℤ)
  pub words : List ℤ
  pub versions : VersionRecord

abbrev pub expected : Case → Outcome
expected c = record { numbers = c.numbers; words = c.words-after; versions = c.versions_after }

-- the calls, one after the other
abbrev pub perform-all : List Call → State → Outcome
perform-all [] st = record { numbers = []; words = st.words; versions = st.versions }
perform-all (call ∷ calls) st =
    let d = perform call st in
    let o = perform-all calls d.state in
    record { numbers = numbers d.answer ∷ o.numbers; words = o.words; versions = o.versions }

abbrev pub outcome : Case → Outcome
outcome c = perform-all c.calls (record { words = c.words; versions = c.versions; block = [] })

pub figures : map outcome cases ≡ map expected cases
unfolding all any first lowest some bad_record unborn expired begin_refusal begin_answer begin_record commit_refusal commit_answer commit_record bad_table slot_at put_slot column live lawful reported unlawful all_zeros totals_lawful used_well well_formed any_broken has_key key_slot long_deleted free free_slot shown read_slot_refusal read_slot_answer read_key_refusal read_key_answer roll_up_refusal roll_up_answer changed put_refusal put_answer put_words delete_refusal delete_answer delete_words rolled_back roll_back_refusal roll_back_answer roll_back_words roll_back_record
figures = refl
