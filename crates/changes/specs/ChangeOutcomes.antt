-- What comes of a change by its refusal: one that is refused answers its refusal and leaves the words; one that is accepted
-- answers its slot, and a run is active. Assumes nothing.
use Rattle.std.specs.Prelude.{◌≡◌, true, List, ℕ, ℤ, Some, None, Result, Ok, Err}
use Rattle.refusals.specs.declared.Refusal.{Refusal}
use Rattle.refusals.specs.declared.Refusal.TheVariants as refusal
use Rattle.laws.specs.TestLaws.{not_no}
use Rattle.laws.specs.FirstLaws.{none}
use Rattle.versions.specs.declared.VersionRecord.{VersionRecord}
use Rattle.table_keys.specs.Keys.{key_slot}
use Rattle.changes.specs.Put.{put_refusal, put_answer, put_words}
use Rattle.changes_rows.specs.PutRow.{slot_to_take}
use Rattle.changes.specs.Delete.{delete_refusal, delete_answer, delete_words}

-- the refusal e of what answers r and leaves the words t' of t
pub record ChangeRefuses (e : Refusal) (t : List ℤ) (r : Result ℕ Refusal) (t' : List ℤ) : Type 0 where
  pub answer : r ≡ Err e
  pub words : t' ≡ t

-- what answers r is accepted, in a run, at slot k
pub record ChangeAccepts (v : VersionRecord) (k : ℕ) (r : Result ℕ Refusal) : Type 0 where
  pub answer : r ≡ Ok k
  pub active : v.active ≡ true

module _ (t : List ℤ) (v : VersionRecord) (key1 key2 total1 total2 : ℤ) where
  pub put_refuses : (e : Refusal) → put_refusal t v key1 key2 total1 total2 ≡ Some e
      → ChangeRefuses e t (put_answer t v key1 key2 total1 total2) (put_words t v key1 key2 total1 total2)
  unfolding put_answer put_words
  put_refuses e h = record { answer = rw h; words = rw h }

  pub put_accepts : put_refusal t v key1 key2 total1 total2 ≡ None → ChangeAccepts v (slot_to_take t v key1 key2) (put_answer t v key1 key2 total1 total2)
  unfolding put_refusal put_answer
  put_accepts h = record { answer = rw h; active = not_no (none _ h refusal.NoRun) }

module _ (t : List ℤ) (v : VersionRecord) (key1 key2 : ℤ) where
  pub delete_refuses : (e : Refusal) → delete_refusal t v key1 key2 ≡ Some e → ChangeRefuses e t (delete_answer t v key1 key2) (delete_words t v key1 key2)
  unfolding delete_answer delete_words
  delete_refuses e h = record { answer = rw h; words = rw h }

  pub delete_accepts : delete_refusal t v key1 key2 ≡ None → ChangeAccepts v (key_slot t key1 key2) (delete_answer t v key1 key2)
  unfolding delete_refusal delete_answer
  delete_accepts h = record { answer = rw h; active = not_no (none _ h refusal.NoRun) }
