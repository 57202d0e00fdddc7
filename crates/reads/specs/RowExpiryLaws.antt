-- The paper's expiry test of a row (RULES.md, Reads) never applies after 4 and 6: the run number of a slot that is not broken is
-- at most the last run's, and an open session is at least the number before that (`open_reaches`). And by itself it isn't enough:
-- one table of zeros shows it. Assumes nothing.
use Rattle.std.specs.Prelude.{◌≡◌, refl, true, false, List, ℕ, ℤ, pos, Err}
use Rattle.std.proofs.Common.{arith}
use Rattle.std.specs.Int.Signed.{le_z}
use Rattle.refusals.specs.declared.Refusal.TheVariants as refusal
use Rattle.laws.specs.TestLaws.{not_no}
use Rattle.laws.specs.OrderLaws.{from_to_lem, le_z_trans}
use Rattle.versions.specs.declared.VersionRecord.{VersionRecord}
use Rattle.versions.specs.Record.{bad_record, last_run}
use Rattle.versions.specs.RecordLaws.{known, last_low}
use Rattle.versions.specs.Sessions.{unborn, expired}
use Rattle.versions.specs.SessionLaws.{born, expires, open_reaches}
use Rattle.table.specs.declared.Slot.{Slot}
use Rattle.table.specs.Slots.{slot_at, fresh_table}
use Rattle.table.specs.SlotLaws.{fresh_shape, fresh_slot}
use Rattle.table_forms.specs.Formed.{broken}
use Rattle.table_forms.specs.FormedLaws.{formed_cases}
use Rattle.reads.specs.ReadSlot.{read_slot_answer}
use Rattle.reads.specs.ReadOutcomes.{slot-expired}
use Rattle.reads.specs.RowExpiry.{row_expired}

-- ---- it never applies after 4 and 6
run_within : (v : VersionRecord) (x : Slot) → bad_record v ≡ false → broken x v ≡ false → le_z x.run (last_run v) ≡ true
run_within v x k f =
    formed_cases x v (not_no f) (λ e. rw e (le_z_trans (pos 0) (pos 1) (last_run v) refl (last_low v k)))
    (λ u. (from_to_lem (pos 1) (last_run v) x.run u.run).high)

pub never_row_expired : (v : VersionRecord) (s : ℤ) (x : Slot) → bad_record v ≡ false → unborn v s ≡ false → expired v s ≡ false → broken x v ≡ false
    → row_expired s x ≡ false
unfolding row_expired
never_row_expired v s x k b o f = open_reaches v s x.run k b o (run_within v x k f)

-- ---- by itself it isn't enough: a removed row leaves no trace. Session 2, current 3, run 4 active, and one slot that is all
-- zeros, as when run 3 has deleted the row that the session is to read, and run 4 has taken its slot for another key and
-- deleted that row too. Each read of a slot is refused 4, and the test of a row applies to none
pub record Traceless (t : List ℤ) (v : VersionRecord) (s : ℤ) : Type 0 where
  pub refused : (k : ℕ) → read_slot_answer t v s k ≡ Err refusal.Expired
  pub untold : (k : ℕ) → row_expired s (slot_at t k) ≡ false

abbrev pub in_run4 : VersionRecord
in_run4 = record { current = pos 3; active = true; oldest = pos 3 }

pub traceless : Traceless (fresh_table 1) in_run4 (pos 2)
unfolding row_expired
traceless =
    let shape = fresh_shape 1 (omega arith) (omega arith) in
    let sound = known {v = in_run4} (record { low = refl; high = refl; in_run = λ a. refl; first = refl; near = refl; newest = λ a. refl }) in
    let young = born in_run4 3 2 refl (omega arith) (omega arith) in
    record {
      refused = λ k. slot-expired (fresh_table 1) in_run4 (pos 2) shape sound young k (expires in_run4 3 2 refl);
      untold = λ k. rw (fresh_slot 1 k) refl;
    }
