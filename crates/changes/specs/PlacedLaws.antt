-- How the contracts of put and delete are shown: each is that its change leaves a refusal and the table as it was, or the number
-- of the slot that was written and the table with it. Assumes nothing.
use Rattle.std.specs.Prelude.{List, ℕ, ℤ, Result}
use Rattle.refusals.specs.declared.Refusal.{Refusal}
use Rattle.versions.specs.declared.VersionRecord.{VersionRecord}
use Rattle.versions.specs.Record.{run_number}
use Rattle.table_keys.specs.Keys.{key_slot, keyed}
use Rattle.changes_cells.specs.Tables.{put_over, deleted}
use Rattle.changes_rows.specs.ChangeLeaves.{Leaves}
use Rattle.changes_rows.specs.PutRow.{slot_to_take}
use Rattle.changes.specs.Put.{put_refusal, put_answer, put_words, PutContract}
use Rattle.changes.specs.Delete.{delete_refusal, delete_answer, delete_words, DeleteContract}

pub put_leaves : {t t' : List ℤ} {v : VersionRecord} {key1 key2 total1 total2 : ℤ} {r : Result ℕ Refusal}
    → Leaves (put_refusal t v key1 key2 total1 total2) t (slot_to_take t v key1 key2) (put_over (run_number v) (keyed t key1 key2) key1 key2 total1 total2) r t'
    → PutContract t v key1 key2 total1 total2 r t'
unfolding put_answer put_words
put_leaves w = record { answer = w.answer; words = w.words }

pub delete_leaves : {t t' : List ℤ} {v : VersionRecord} {key1 key2 : ℤ} {r : Result ℕ Refusal}
    → Leaves (delete_refusal t v key1 key2) t (key_slot t key1 key2) (deleted (run_number v) (keyed t key1 key2) key1 key2) r t'
    → DeleteContract t v key1 key2 r t'
unfolding delete_answer delete_words
delete_leaves w = record { answer = w.answer; words = w.words }
