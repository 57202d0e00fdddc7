-- Roll back: what it leaves of a slot, of the table and of the record, its refusals in the order of RULES.md (The order of tests),
-- its answer, and the contract that says so. Assumes nothing.
use Rattle.std.specs.Prelude.{◌≡◌, Bool, false, cond, List, [], ◌∷◌, ◌++◌, ℕ, zero, suc, ℤ, pos, Option, Result}
use Rattle.refusals.specs.declared.Refusal.{Refusal}
use Rattle.refusals.specs.declared.Refusal.TheVariants as refusal
use Rattle.laws.specs.First.{first, unless, kept_or}
use Rattle.laws.specs.Order.{eq_z}
use Rattle.versions.specs.declared.VersionRecord.{VersionRecord}
use Rattle.versions.specs.Record.{run_number}
use Rattle.table.specs.declared.Slot.{Slot}
use Rattle.table.specs.Slots.{empty, slots, slot_at, put_slot}
use Rattle.table_forms.specs.Operations.{insert_operation}
use Rattle.table_forms.specs.Formed.{any_broken}
use Rattle.changes.specs.ChangeTests.{running_tests}

-- a row gets its old totals back as current, old totals 0, operation insert, run number current
abbrev pub as_before : VersionRecord → Slot → Slot
as_before v x = record {
  run = v.current;
  operation = insert_operation;
  key1 = x.key1;
  key2 = x.key2;
  current1 = x.old1;
  current2 = x.old2;
  old1 = pos 0;
  old2 = pos 0;
}

-- rolling back empties a row that the run inserted, and gives one that it updated or deleted its old totals back; a slot that the run
-- did not change stays
unfoldable pub rolled_back : VersionRecord → Slot → Slot
rolled_back v x = cond (eq_z x.run (run_number v)) (cond (eq_z x.operation insert_operation) empty (as_before v x)) x

-- the first n slots of a table, one after another
abbrev pub slots_back : List ℤ → VersionRecord → ℕ → List ℤ
slots_back t v zero = t
slots_back t v (suc n) = put_slot (slots_back t v n) n (rolled_back v (slot_at t n))

-- the run ends and current stays
abbrev pub rolled_back_from : VersionRecord → VersionRecord
rolled_back_from v = record { current = v.current; active = false; oldest = v.oldest }

-- Roll back: 1, 2, 8, 6 (any slot)
abbrev pub roll_back_tests : List ℤ → VersionRecord → List (Bool × Refusal)
roll_back_tests t v = running_tests t v ++ (any_broken t v, refusal.BrokenSlot) ∷ []

unfoldable pub roll_back_refusal : List ℤ → VersionRecord → Option Refusal
roll_back_refusal t v = first (roll_back_tests t v)

-- the answer is current
unfoldable pub roll_back_answer : List ℤ → VersionRecord → Result ℤ Refusal
roll_back_answer t v = unless (roll_back_refusal t v) v.current

unfoldable pub roll_back_words : List ℤ → VersionRecord → List ℤ
roll_back_words t v = kept_or (roll_back_refusal t v) t (slots_back t v (slots t))

unfoldable pub roll_back_record : List ℤ → VersionRecord → VersionRecord
roll_back_record t v = kept_or (roll_back_refusal t v) v (rolled_back_from v)

-- the contract
pub record RollBackContract (t : List ℤ) (v : VersionRecord) (r : Result ℤ Refusal) (t' : List ℤ) (v' : VersionRecord) : Type 0 where
  pub answer : r ≡ roll_back_answer t v
  pub versions : v' ≡ roll_back_record t v
  pub words : t' ≡ roll_back_words t v
