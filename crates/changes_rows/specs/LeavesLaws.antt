-- What a change leaves, from its tests: at the one that holds, a refusal and the table as it was; past those that failed, what the
-- tests after them leave. Assumes nothing.
use Rattle.std.specs.Prelude.{◌≡◌, refl, List, ℕ, ℤ, Option, Some, Result, Err}
use Rattle.std.proofs.Common.{sym, subst}
use Rattle.refusals.specs.declared.Refusal.{Refusal}
use Rattle.laws.specs.FirstLaws.{unless_refused, kept_refused}
use Rattle.table.specs.declared.Slot.{Slot}
use Rattle.table.specs.Slots.{put_slot}
use Rattle.changes_rows.specs.ChangeLeaves.{Leaves}

pub refused : {m : Option Refusal} {e : Refusal} {k : ℕ} {t : List ℤ} {y : Slot} → m ≡ Some e → Leaves m t k y (Err e) t
refused {k} {t} {y} h = record { answer = unless_refused k h; words = kept_refused (put_slot t k y) h refl }

pub passed : {m n : Option Refusal} {k : ℕ} {t t' : List ℤ} {y : Slot} {r : Result ℕ Refusal} → m ≡ n → Leaves n t k y r t' → Leaves m t k y r t'
passed {k} {t} {t'} {y} {r} e w = subst (λ i. Leaves i t k y r t') (sym e) w
