-- The laws of the operation word: its column and live go by it alone, and what they are at each operation. Assumes nothing.
use Rattle.std.specs.Prelude.{◌≡◌, refl, true, false}
use Rattle.laws.specs.TestLaws.{by_test, clash}
use Rattle.laws.specs.OrderLaws.{eq_z_true}
use Rattle.laws.specs.Order.{eq_z}
use Rattle.table.specs.declared.Slot.{Slot}
use Rattle.table.specs.Slots.{empty}
use Rattle.table_forms.specs.declared.Operation.TheVariants.{Empty, Insert, Update, Delete}
use Rattle.table_forms.specs.Operations.{empty_operation, insert_operation, update_operation, delete_operation, column, live, live_word}

pub live_same : (x y : Slot) → x.operation ≡ y.operation → live x ≡ live y
unfolding live
live_same x y e = rw e refl

pub live-word : (x : Slot) → live x ≡ live_word x.operation
unfolding live
live-word x = refl

-- at each operation
pub column_insert : (x : Slot) → x.operation ≡ insert_operation → column x ≡ Insert
unfolding column
column_insert x e = rw e refl

pub column_update : (x : Slot) → x.operation ≡ update_operation → column x ≡ Update
unfolding column
column_update x e = rw e refl

pub column_delete : (x : Slot) → x.operation ≡ delete_operation → column x ≡ Delete
unfolding column
column_delete x e = rw e refl

pub column_other : (x : Slot) → eq_z x.operation insert_operation ≡ false → eq_z x.operation update_operation ≡ false → eq_z x.operation delete_operation ≡ false → column x ≡ Empty
unfolding column
column_other x a b d = rw (a, b, d) refl

pub column-empty : (x : Slot) → x.operation ≡ empty_operation → column x ≡ Empty
column-empty x e = column_other x (rw e refl) (rw e refl) (rw e refl)

pub live_insert : (x : Slot) → x.operation ≡ insert_operation → live x ≡ true
unfolding live
live_insert x e = rw e refl

pub live_update : (x : Slot) → x.operation ≡ update_operation → live x ≡ true
unfolding live
live_update x e = rw e refl

pub dead_delete : (x : Slot) → x.operation ≡ delete_operation → live x ≡ false
unfolding live
dead_delete x e = rw e refl

pub dead_empty : live empty ≡ false
unfolding live
dead_empty = refl

-- a live slot is an insert or an update
pub live-cases : (x : Slot) → live x ≡ true → {P : Type 0} → (x.operation ≡ insert_operation → P) → (x.operation ≡ update_operation → P) → P
unfolding live
live-cases x l f g =
    by_test (eq_z x.operation insert_operation) (λ y. f (eq_z_true _ _ y))
    (λ n. by_test (eq_z x.operation update_operation) (λ y. g (eq_z_true _ _ y)) (λ m. clash l (rw (n, m) refl)))
