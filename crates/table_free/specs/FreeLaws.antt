-- The laws of free slots: the lowest is taken; a free slot is empty, or was deleted by an older run; and one that is not free
-- is neither. Assumes nothing.
use Rattle.std.specs.Prelude.{◌≡◌, refl, true, false, List, ℕ, ◌+◌, ◌*◌, ℤ}
use Rattle.std.specs.Int.Signed.{lt_z}
use Rattle.std.specs.Int.{w64}
use Rattle.std.proofs.Common.{ap, ◌∙◌, SFits, to_z, of_z}
use Rattle.laws.specs.TestLaws.{all-at, all_yes, by_test, clash}
use Rattle.laws.specs.OrderLaws.{eq_z_true, eq_z_same}
use Rattle.laws.specs.Bits.{plain}
use Rattle.laws.specs.LowestLaws.{lowest_is, below_four}
use Rattle.laws.specs.Lowest.{Lowest, EachOfFour}
use Rattle.versions.specs.declared.VersionRecord.{VersionRecord}
use Rattle.versions.specs.Record.{run_number}
use Rattle.table.specs.declared.Slot.{Slot}
use Rattle.table.specs.Slots.{slot_words, operation_place, empty, word, slots, slot_at}
use Rattle.table.specs.SlotLaws.{operation_at}
use Rattle.table_forms.specs.Operations.{delete_operation, live, live_word}
use Rattle.table_forms.specs.OperationLaws.{dead_empty, dead_delete, live-word}
use Rattle.table_forms.specs.Formed.{all_zeros, well_formed}
use Rattle.table_forms.specs.FormedLaws.{Used, zeros-empty, empty-zeros, formed_cases}
use Rattle.table_free.specs.Free.{long_deleted, free, free_slot}
use Rattle.table_free.specs.FreeSearch.{Taken, Alive}

pub free_slot_is : (t : List ℤ) (v : VersionRecord) → Lowest (λ k. free (slot_at t k) v) (slots t) (free_slot t v)
unfolding free_slot
free_slot_is t v = lowest_is _ _

-- a free slot is empty, or was deleted by an older run
pub record LongDeleted (x : Slot) (v : VersionRecord) : Type 0 where
  pub operation : x.operation ≡ delete_operation
  pub older : lt_z x.run (run_number v) ≡ true
  pub formed : well_formed x v ≡ true

pub free-cases : (x : Slot) (v : VersionRecord) → free x v ≡ true → {P : Type 0} → (x ≡ empty → P) → (LongDeleted x v → P) → P
unfolding free long_deleted
free-cases x v h f g =
    by_test (all_zeros x) (λ z. f (zeros-empty x z))
    (λ n. let d = rw n at h in
    g (record { operation = eq_z_true _ _ (all-at _ 0 d); older = all-at _ 1 d; formed = all-at _ 2 d }))

-- ---- a live slot is not free
pub live_kept : (x : Slot) (v : VersionRecord) → live x ≡ true → free x v ≡ false
live_kept x v l =
    by_test (free x v) (λ y. free-cases x v y (λ e. clash l (rw e dead_empty)) (λ d. clash l (dead_delete x d.operation))) (λ n. n)

pub past_live : (t : List ℤ) {k : ℕ} (v : VersionRecord) → EachOfFour (Alive t) k → Taken t v k → Taken t v (k + 4)
past_live t v f b = below_four (λ j. live_kept _ v) f b

-- the slot at a place lives by its operation word, as bits
pub lives : (t : List ℤ) (k : ℕ) → SFits w64 (word t (k * slot_words + operation_place))
    → live (slot_at t k) ≡ live_word (to_z w64 (of_z w64 (word t (k * slot_words + operation_place))))
lives t k f = live-word (slot_at t k) ∙ rw (plain _ f) (ap live_word (operation_at t k))

-- ---- a well formed slot that is not free is used, and if it is deleted then not by an older run
pub record Busy (x : Slot) (v : VersionRecord) : Type 0 where
  pub used : Used x v
  pub not_older : x.operation ≡ delete_operation → lt_z x.run (run_number v) ≡ false

pub busy : (x : Slot) (v : VersionRecord) → well_formed x v ≡ true → free x v ≡ false → Busy x v
unfolding free long_deleted
busy x v w f =
    formed_cases x v w
    (λ e. clash (rw (e, empty-zeros) refl) f)
    (λ u. record {
      used = u;
      not_older = λ d. by_test (lt_z x.run (run_number v))
          (λ y. by_test (all_zeros x)
          (λ z. clash (rw z refl) f)
          (λ n. clash (all_yes _ (eq_z_same d, (y, (w, tt)))) (rw n at f)))
          (λ n. n);
    })
