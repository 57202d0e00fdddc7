-- The laws of well formed slots: one is empty, or used as `Used` says, and nothing else is well formed. Assumes nothing.
use Rattle.std.specs.Prelude.{◌≡◌, refl, true, false, not, ◌&&◌, ◌||◌, List, [], ◌∷◌, ℕ, ◌<◌, ℤ, pos, negsuc}
use Rattle.std.proofs.Common.{ap, ap₂, ◌∙◌, arith, leb-true}
use Rattle.std.proofs.Math.Bool.{or-true, or-false, and-true}
use Rattle.std.specs.Int.Signed.{le_z}
use Rattle.std.proofs.lemmas.Bool.{eqb-false}
use Rattle.laws.specs.TestLaws.{all-at, all_no, by_test, clash, not_no, not_yes}
use Rattle.laws.specs.Tests.{all}
use Rattle.laws.specs.OrderLaws.{eq_z_true, from_to_lem, le_z_trans}
use Rattle.laws.specs.Order.{eq_z, from_to}
use Rattle.laws.specs.Lowest.{some}
use Rattle.laws.specs.LowestLaws.{none_passes, all_fail}
use Rattle.versions.specs.declared.VersionRecord.{VersionRecord}
use Rattle.versions.specs.Record.{last_run}
use Rattle.table.specs.declared.Slot.{Slot}
use Rattle.table.specs.Slots.{empty, slots, slot_at}
use Rattle.table.specs.SlotLaws.{slot_path}
use Rattle.table_forms.specs.Operations.{empty_operation, insert_operation, update_operation, delete_operation, live}
use Rattle.table_forms.specs.OperationLaws.{dead_empty, live_insert, live_update}
use Rattle.table_forms.specs.Totals.{lawful}
use Rattle.table_forms.specs.Formed.{all_zeros, totals_lawful, old_zero, used_well, well_formed, broken, any_broken}

-- ---- what a used slot is
pub record Used (x : Slot) (v : VersionRecord) : Type 0 where
  pub operation : from_to insert_operation delete_operation x.operation ≡ true
  pub run : from_to (pos 1) (last_run v) x.run ≡ true
  pub current1 : lawful x.current1 ≡ true
  pub current2 : lawful x.current2 ≡ true
  pub old1 : lawful x.old1 ≡ true
  pub old2 : lawful x.old2 ≡ true
  pub old_of_insert : (not (eq_z x.operation insert_operation) || old_zero x) ≡ true

-- ---- an empty slot is all zeros and well formed, and a used one is well formed
pub empty-zeros : all_zeros empty ≡ true
unfolding all_zeros all
empty-zeros = refl

pub empty_formed : (v : VersionRecord) → well_formed empty v ≡ true
unfolding well_formed all_zeros all
empty_formed v = refl

pub used_formed : {x : Slot} {v : VersionRecord} → Used x v → well_formed x v ≡ true
unfolding well_formed used_well totals_lawful all
used_formed {x} {v} u = simp (u.operation, u.run, u.current1, u.current2, u.old1, u.old2, u.old_of_insert, or-true)

-- ---- and nothing else is
pub zeros-empty : (x : Slot) → all_zeros x ≡ true → x ≡ empty
unfolding all_zeros
zeros-empty x z =
    slot_path (eq_z_true _ _ (all-at _ 0 z)) (eq_z_true _ _ (all-at _ 1 z)) (eq_z_true _ _ (all-at _ 2 z)) (eq_z_true _ _ (all-at _ 3 z))
    (eq_z_true _ _ (all-at _ 4 z)) (eq_z_true _ _ (all-at _ 5 z)) (eq_z_true _ _ (all-at _ 6 z)) (eq_z_true _ _ (all-at _ 7 z))

well_used : {x : Slot} {v : VersionRecord} → used_well x v ≡ true → Used x v
unfolding used_well totals_lawful
well_used u =
    let t = all-at _ 2 u in
    record {
      operation = all-at _ 0 u;
      run = all-at _ 1 u;
      current1 = all-at _ 0 t;
      current2 = all-at _ 1 t;
      old1 = all-at _ 2 t;
      old2 = all-at _ 3 t;
      old_of_insert = all-at _ 3 u;
    }

pub formed_cases : (x : Slot) (v : VersionRecord) → well_formed x v ≡ true → {P : Type 0} → (x ≡ empty → P) → (Used x v → P) → P
unfolding well_formed
formed_cases x v w f g = by_test (all_zeros x) (λ z. f (zeros-empty x z)) (λ n. g (well_used (rw n at w)))

-- ---- a slot whose operation is 1 to 3 is well formed if it is used well, and another if it is all zeros
pub formed_used : (x : Slot) (v : VersionRecord) → from_to insert_operation delete_operation x.operation ≡ true → well_formed x v ≡ used_well x v
unfolding well_formed all_zeros
formed_used x v r = ap (λ b. b || used_well x v) (all_no _ 1 (by_test (eq_z x.operation empty_operation) (λ y. clash r (ap (from_to insert_operation delete_operation) (eq_z_true x.operation empty_operation y))) (λ n. n)))

pub formed_unused : (x : Slot) (v : VersionRecord) → from_to insert_operation delete_operation x.operation ≡ false → well_formed x v ≡ all_zeros x
unfolding well_formed used_well
formed_unused x v n = ap (λ b. all_zeros x || b) (all_no _ 0 n) ∙ or-false _

-- ---- and one whose operation is 1 to 3, test by test: its run, its old totals, and where it passes both its totals are left to be asked
module _ (x : Slot) (v : VersionRecord) where
  pub used_no_run : from_to (pos 1) (last_run v) x.run ≡ false → used_well x v ≡ false
  unfolding used_well
  used_no_run n = all_no _ 1 n

  pub used_with_old : (not (eq_z x.operation insert_operation) || old_zero x) ≡ false → used_well x v ≡ false
  unfolding used_well
  used_with_old n = all_no _ 3 n

  pub used_totals : from_to insert_operation delete_operation x.operation ≡ true → from_to (pos 1) (last_run v) x.run ≡ true
      → (not (eq_z x.operation insert_operation) || old_zero x) ≡ true
      → used_well x v ≡ all (lawful x.current1 ∷ lawful x.current2 ∷ lawful x.old1 ∷ lawful x.old2 ∷ [])
  unfolding used_well totals_lawful all
  used_totals o r n = simp (o, r, n) (and-true _)

-- ---- a live slot that is well formed is used
pub live_used : (x : Slot) (v : VersionRecord) → live x ≡ true → well_formed x v ≡ true → Used x v
live_used x v l w = formed_cases x v w (λ e. clash l (rw e dead_empty)) (λ u. u)

-- ---- some slot is broken
pub any_broken_is : (t : List ℤ) (v : VersionRecord) → any_broken t v ≡ some (λ k. broken (slot_at t k) v) (slots t)
unfolding any_broken
any_broken_is t v = refl

-- ---- where no slot is broken, each is well formed
pub none-broken : (t : List ℤ) (v : VersionRecord) → any_broken t v ≡ false → (k : ℕ) → k < slots t → well_formed (slot_at t k) v ≡ true
unfolding any_broken
none-broken t v h k l = not_no (none_passes (λ j. broken (slot_at t j) v) (slots t) h k l)

-- and where one is broken, some is
pub one_broken : (t : List ℤ) (v : VersionRecord) (k : ℕ) → k < slots t → broken (slot_at t k) v ≡ true → any_broken t v ≡ true
one_broken t v k l b = by_test (any_broken t v) (λ y. y) (λ n. clash (none-broken t v n k l) (not_yes b))

-- ---- a used slot that is not live was deleted
three : (z : ℤ) → from_to insert_operation delete_operation z ≡ true → eq_z z insert_operation ≡ false → eq_z z update_operation ≡ false → z ≡ delete_operation
three (pos n) r a b =
    let f = from_to_lem insert_operation delete_operation (pos n) r in
    ap pos (omega (arith, leb-true 1 n f.low, leb-true n 3 f.high, eqb-false n 1 a, eqb-false n 2 b))
three (negsuc n) r a b = clash r refl

pub dead_deleted : (x : Slot) (v : VersionRecord) → Used x v → live x ≡ false → x.operation ≡ delete_operation
dead_deleted x v u d =
    three x.operation u.operation
    (by_test (eq_z x.operation insert_operation) (λ y. clash (live_insert x (eq_z_true _ _ y)) d) (λ n. n))
    (by_test (eq_z x.operation update_operation) (λ y. clash (live_update x (eq_z_true _ _ y)) d) (λ n. n))

-- ---- a slot that is well formed stays so where the last run is no lower
pub formed_later : (x : Slot) (v w : VersionRecord) → le_z (last_run v) (last_run w) ≡ true → well_formed x v ≡ true → well_formed x w ≡ true
formed_later x v w l h =
    formed_cases x v h (λ e. rw e (empty_formed w))
    (λ u. let r = from_to_lem (pos 1) (last_run v) x.run u.run in
    used_formed (search (ap₂ ◌&&◌ r.low (le_z_trans x.run (last_run v) (last_run w) r.high l))))

-- ---- where each slot is well formed, none is broken
pub each_formed : (t : List ℤ) (v : VersionRecord) → ((k : ℕ) → k < slots t → well_formed (slot_at t k) v ≡ true) → any_broken t v ≡ false
unfolding any_broken
each_formed t v f = all_fail _ (slots t) (λ k l. ap not (f k l))

pub all_formed : (t : List ℤ) (v : VersionRecord) → ((k : ℕ) → well_formed (slot_at t k) v ≡ true) → any_broken t v ≡ false
all_formed t v f = each_formed t v (λ k l. f k)
