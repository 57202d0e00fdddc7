-- The laws of the roll-up: over well formed slots each count is at most the number of slots and each sum is within 10^15 for each
-- of them, so that both fit, since what says that a total is not reported never enters a sum; by induction on the slots, a row at
-- a time. Assumes nothing.
use Rattle.std.specs.Prelude.{◌≡◌, refl, true, false, List, ℕ, zero, suc, ◌-◌, ◌≤◌, ◌<◌, ℤ, ◌+ℤ◌, Option, Some, None}
use Rattle.std.proofs.Common.{arith, SFits}
use Rattle.std.specs.Int.{w64}
use Rattle.laws.specs.TestLaws.{by_test}
use Rattle.laws.specs.Order.{eq_z}
use Rattle.laws.specs.Sums.{sum_within, small_fits}
use Rattle.versions.specs.declared.VersionRecord.{VersionRecord}
use Rattle.table.specs.declared.Slot.{Slot}
use Rattle.table.specs.Slots.{most_slots, bad_table, slots, slot_at}
use Rattle.table.specs.SlotLaws.{lengths}
use Rattle.table_forms.specs.TotalLaws.{reported_within}
use Rattle.table_forms.specs.Totals.{lawful, reported, Given, largest_total}
use Rattle.table_forms.specs.Formed.{well_formed}
use Rattle.table_forms.specs.FormedLaws.{formed_cases}
use Rattle.reads.specs.declared.Row.{Row}
use Rattle.reads.specs.Table1.{shown}
use Rattle.reads.specs.ShownLaws.{shown-cases, shown_own}
use Rattle.reads.specs.Table1Laws.{shown-empty}
use Rattle.reads_roll_up.specs.declared.Reported.{Reported}
use Rattle.reads_roll_up.specs.declared.Tally.{Tally}
use Rattle.reads_roll_up.specs.RollUpBounds.{LawfulRow, Within, Bounded}
use Rattle.reads_roll_up.specs.RollUp.{with_total, counted, tallied, tally, seen}

pub within_more : {k m : ℕ} {n : Reported} → k ≤ m → Within k n → Within m n
within_more h w = record { rows = omega arith; sum = omega arith }

pub bounded_more : {k m : ℕ} {n : Tally} → k ≤ m → Bounded k n → Bounded m n
bounded_more h b = record { rows = omega arith; total1 = within_more h b.total1; total2 = within_more h b.total2 }

-- the sum of at most 1,024 rows fits
pub sum_fits : {n : Reported} → Within most_slots n → SFits w64 n.sum
sum_fits {n} w = small_fits n.sum (omega arith)

-- a total more: one that is not reported is not added, and any other is within 10^15
pub with_total_within : {k : ℕ} (z : ℤ) (n : Reported) → lawful z ≡ true → Within k n → Within (suc k) (with_total z n)
with_total_within {k} z n l w =
    by_test (reported z)
    (λ y. rw y (record { rows = omega arith; sum = omega (arith, sum_within largest_total k n.sum z w.sum (reported_within z l y)) }))
    (λ m. rw m (within_more (omega arith) w))

-- the sum of fewer fits, and so does the sum with one more that is reported
pub sum_so_far : {n : Reported} → Within (most_slots - 1) n → SFits w64 n.sum
sum_so_far w = sum_fits (within_more (omega arith) w)

pub sum_with : {n : Reported} (z : ℤ) → Within (most_slots - 1) n → lawful z ≡ true → reported z ≡ true → SFits w64 (n.sum +ℤ z)
sum_with {n} z w l y = rw y at (sum_fits (with_total_within z n l w))

-- a row more
counted_bounded : {k : ℕ} {a b : ℤ} (n : Tally) → Given a b → Bounded k n → Bounded (suc k) (counted a b n)
counted_bounded {k} {a} {b} n g h = record {
  rows = omega arith;
  total1 = with_total_within a n.total1 g.total1 h.total1;
  total2 = with_total_within b n.total2 g.total2 h.total2;
}

tallied_bounded : {k : ℕ} (key1 : ℤ) (x : Option Row) (n : Tally) → LawfulRow x → Bounded k n → Bounded (suc k) (tallied key1 x n)
tallied_bounded key1 (Some x) n g h =
    by_test (eq_z x.key1 key1) (λ y. rw y (counted_bounded n g h)) (λ m. rw m (bounded_more (omega arith) h))
tallied_bounded key1 None n g h = bounded_more (omega arith) h

-- ---- what is shown of a slot has the slot's first key word, which alone says whether it counts
pub tallied_other : (s key1 : ℤ) (x : Slot) (n : Tally) → eq_z x.key1 key1 ≡ false → tallied key1 (shown s x) n ≡ n
tallied_other s key1 x n h = shown_own (λ r. tallied key1 r n ≡ n) s x (λ u a b. rw h) refl

pub tallied_own : (s key1 : ℤ) (x : Slot) (n : Tally) {row : Row} → eq_z x.key1 key1 ≡ true → shown s x ≡ Some row
    → tallied key1 (shown s x) n ≡ counted row.total1 row.total2 n
tallied_own s key1 x n {row} h =
    shown_own (λ r. r ≡ Some row → tallied key1 r n ≡ counted row.total1 row.total2 n) s x (λ u c d e. rw h (cc)) (λ e. cc)

-- ---- both pairs of totals of a well formed slot are lawful, and so are those of a row that is shown of it
pub shown-lawful : (s : ℤ) (x : Slot) (v : VersionRecord) → well_formed x v ≡ true → LawfulRow (shown s x)
shown-lawful s x v w =
    formed_cases x v w (λ e. rw (e, shown-empty s) tt)
    (λ u. shown-cases LawfulRow s x (λ n. search) (λ n. search) tt)

-- the first k slots, all well formed
pub tally_bounded : (t : List ℤ) (v : VersionRecord) (s key1 : ℤ) (k : ℕ) → ((j : ℕ) → j < k → well_formed (slot_at t j) v ≡ true)
    → Bounded k (tally key1 (seen t s k))
tally_bounded t v s key1 zero w =
    record { rows = omega arith; total1 = record { rows = omega arith; sum = omega arith }; total2 = record { rows = omega arith; sum = omega arith } }
tally_bounded t v s key1 (suc k) w =
    tallied_bounded key1 (shown s (slot_at t k)) _ (shown-lawful s _ v (w k (omega arith))) (tally_bounded t v s key1 k (λ j h. w j (omega arith)))

-- and so fewer than all: one more of them is counted with no loss
pub tally_more : (t : List ℤ) (v : VersionRecord) (s key1 : ℤ) (k : ℕ) → bad_table t ≡ false → k < slots t
    → ((j : ℕ) → j < k → well_formed (slot_at t j) v ≡ true) → Bounded (most_slots - 1) (tally key1 (seen t s k))
tally_more t v s key1 k shape l w = bounded_more (omega (arith, (lengths t shape).few)) (tally_bounded t v s key1 k w)
