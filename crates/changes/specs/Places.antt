-- A change answers the number of a slot that the table has, whatever its words: for a put by refusal 12, for a delete because the
-- key is live. There are at most 1,024 slots. Assumes nothing.
use Rattle.std.specs.Prelude.{◌≡◌, refl, false, List, ℕ, ◌<◌, ℤ, Option, Some, None, Result, Ok}
use Rattle.std.proofs.Common.{arith, ltb-true}
use Rattle.refusals.specs.declared.Refusal.{Refusal}
use Rattle.refusals.specs.declared.Refusal.TheVariants as refused
use Rattle.laws.specs.TestLaws.{not_no}
use Rattle.laws.specs.FirstLaws.{none}
use Rattle.versions.specs.declared.VersionRecord.{VersionRecord}
use Rattle.table.specs.Slots.{most_slots, bad_table, slots}
use Rattle.table.specs.SlotLaws.{lengths}
use Rattle.table_keys.specs.KeyLaws.{live_placed}
use Rattle.changes.specs.Put.{put_refusal, put_answer}
use Rattle.changes.specs.Delete.{delete_refusal, delete_answer}
use Rattle.changes.specs.ChangeOutcomes.{ChangeRefuses, ChangeAccepts, put_refuses, put_accepts, delete_refuses, delete_accepts}
use Rattle.changes_rows.specs.PlacedNumbers.{Numbers, slot, refusal}

pub slot_low : {k : ℕ} → Numbers (Ok k) → k < most_slots
slot_low (slot l) = l

-- what is refused, or is accepted at a slot of the table
numbers : {m : Option Refusal} {k : ℕ} {t t' : List ℤ} {v : VersionRecord} {r : Result ℕ Refusal}
    → ((e : Refusal) → m ≡ Some e → ChangeRefuses e t r t') → (m ≡ None → ChangeAccepts v k r) → (m ≡ None → k < most_slots) → Numbers r
numbers {m = None} refuses accepts low = rw (accepts refl).answer (slot (low refl))
numbers {m = Some e} refuses accepts low = rw (refuses e refl).answer refusal

low : (t : List ℤ) (k : ℕ) → bad_table t ≡ false → k < slots t → k < most_slots
low t k h l = let few = (lengths t h).few in omega arith

pub put_numbers : (t : List ℤ) (v : VersionRecord) (key1 key2 total1 total2 : ℤ) → Numbers (put_answer t v key1 key2 total1 total2)
unfolding put_refusal
put_numbers t v key1 key2 total1 total2 =
    numbers {m = put_refusal t v key1 key2 total1 total2} (put_refuses t v key1 key2 total1 total2) (put_accepts t v key1 key2 total1 total2)
    (λ h. let no = none _ h in low t _ (no refused.BadTable) (ltb-true _ _ (not_no (no refused.TableFull))))

pub delete_numbers : (t : List ℤ) (v : VersionRecord) (key1 key2 : ℤ) → Numbers (delete_answer t v key1 key2)
unfolding delete_refusal
delete_numbers t v key1 key2 =
    numbers {m = delete_refusal t v key1 key2} (delete_refuses t v key1 key2) (delete_accepts t v key1 key2)
    (λ h. let no = none _ h in low t _ (no refused.BadTable) (live_placed t key1 key2 (no refused.BadTable) (not_no (no refused.KeyNotLive))))
