-- The laws of Table 1, one for each sentence of RULES.md (The decision tables): each is one cell. Assumes nothing.
use Rattle.std.specs.Prelude.{◌≡◌, refl, true, false, cond, ◌||◌, ℤ, Some, None}
use Rattle.std.specs.Int.Signed.{le_z}
use Rattle.std.proofs.Common.{◌∙◌}
use Rattle.laws.specs.TestLaws.{by_test, clash}
use Rattle.laws.specs.OrderLaws.{eq_z_true}
use Rattle.laws.specs.Order.{eq_z}
use Rattle.table.specs.declared.Slot.{Slot}
use Rattle.table.specs.Slots.{empty}
use Rattle.table_forms.specs.Operations.{insert_operation, update_operation, delete_operation, live, live_word}
use Rattle.table_forms.specs.OperationLaws.{live-cases, live_insert, live_update, column_insert, column_update, column_delete, column_other}
use Rattle.reads.specs.Table1.{current_row, old_row, shown}
use Rattle.reads.specs.ShownLaws.{none_read, shown_own}

-- ---- run number ≤ session: current totals, or no row if deleted
pub shown-current : (s : ℤ) (x : Slot) → le_z x.run s ≡ true → live x ≡ true → shown s x ≡ Some (current_row x)
unfolding shown
shown-current s x h l =
    live-cases x l (λ e. rw (h, column_insert x e) refl) (λ e. rw (h, column_update x e) refl)

pub shown-deleted : (s : ℤ) (x : Slot) → le_z x.run s ≡ true → x.operation ≡ delete_operation → shown s x ≡ None
unfolding shown
shown-deleted s x h e = rw (h, column_delete x e) refl

-- ---- otherwise: old totals, or no row if inserted
pub shown_updated : (s : ℤ) (x : Slot) → le_z x.run s ≡ false → x.operation ≡ update_operation → shown s x ≡ Some (old_row x)
unfolding shown
shown_updated s x h e = rw (h, column_update x e) refl

pub shown-removed : (s : ℤ) (x : Slot) → le_z x.run s ≡ false → x.operation ≡ delete_operation → shown s x ≡ Some (old_row x)
unfolding shown
shown-removed s x h e = rw (h, column_delete x e) refl

pub shown_inserted : (s : ℤ) (x : Slot) → le_z x.run s ≡ false → x.operation ≡ insert_operation → shown s x ≡ None
unfolding shown
shown_inserted s x h e = rw (h, column_insert x e) refl

-- ---- an empty slot is no row
pub shown-empty : (s : ℤ) → shown s empty ≡ None
shown-empty s = shown_own (λ r. r ≡ None) s empty (λ u a b. clash refl u) refl

-- ---- any other operation word is no row
pub shown_other : (s : ℤ) (x : Slot) → eq_z x.operation insert_operation ≡ false → eq_z x.operation update_operation ≡ false
    → eq_z x.operation delete_operation ≡ false → shown s x ≡ None
unfolding shown
shown_other s x a b d = rw (column_other x a b d) (none_read x (le_z x.run s))

-- ---- by comparison: from the slot's run on, the current row of a live slot; before it, the old row of one that was updated or
-- deleted; and no row else
pub by_comparison : (s : ℤ) (x : Slot) → shown s x
    ≡ cond (le_z x.run s) (cond (live_word x.operation) (Some (current_row x)) None) (cond (eq_z x.operation update_operation || eq_z x.operation delete_operation) (Some (old_row x)) None)
by_comparison s x = by_test (le_z x.run s) (λ h. rw h (reached h)) (λ h. rw h (ahead h))
  where
    reached : le_z x.run s ≡ true → shown s x ≡ cond (live_word x.operation) (Some (current_row x)) None
    reached h =
        by_test (eq_z x.operation insert_operation)
        (λ y. let e = eq_z_true _ _ y in shown-current s x h (live_insert x e) ∙ rw e refl)
        (λ a. by_test (eq_z x.operation update_operation)
        (λ y. let e = eq_z_true _ _ y in shown-current s x h (live_update x e) ∙ rw e refl)
        (λ b. by_test (eq_z x.operation delete_operation)
        (λ y. let e = eq_z_true _ _ y in shown-deleted s x h e ∙ rw e refl)
        (λ d. shown_other s x a b d ∙ rw (a, b) refl)))

    ahead : le_z x.run s ≡ false → shown s x ≡ cond (eq_z x.operation update_operation || eq_z x.operation delete_operation) (Some (old_row x)) None
    ahead h =
        by_test (eq_z x.operation insert_operation)
        (λ y. let e = eq_z_true _ _ y in shown_inserted s x h e ∙ rw e refl)
        (λ a. by_test (eq_z x.operation update_operation)
        (λ y. let e = eq_z_true _ _ y in shown_updated s x h e ∙ rw e refl)
        (λ b. by_test (eq_z x.operation delete_operation)
        (λ y. let e = eq_z_true _ _ y in shown-removed s x h e ∙ rw e refl)
        (λ d. shown_other s x a b d ∙ rw (b, d) refl)))
