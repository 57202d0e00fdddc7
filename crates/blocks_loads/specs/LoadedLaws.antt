-- The table that the slots of a block were written to: its length is kept, and so its blocks are; each slot of the table that
-- the block holds is the block's, and every other slot is as before. By recursion on how many are written, each by the laws
-- of a slot that was put. Assumes nothing.
use Rattle.std.specs.Prelude.{◌≡◌, false, List, ltb, ℤ, length}
use Rattle.std.proofs.Math.Path.{refl}
use Rattle.std.proofs.Common.{◌∙◌, ⊎_elim, eq-or-lt_of_le, le_of_suc-le-suc, arith, lt-ltb}
use Prim.Native.Nat.{ℕ, zero, suc, ◌+◌, ◌<◌}
use Rattle.std.proofs.Math.Numerals.{add-one}
use Rattle.laws.specs.TestLaws.{by_test}
use Rattle.table.specs.Slots.{bad_table, slots, slot_at}
use Rattle.table.specs.SlotLaws.{put_length, put_same, put_other, same_length}
use Rattle.blocks_words.specs.Longs.{block_slot}
use Rattle.blocks_loads.specs.LoadedSlots.{first_slot, Within, loaded_to, slot_loaded}

module _ (t : List ℤ) (k : ℕ) (block : List ℕ) where
  -- the length is kept
  pub loaded_length : (n : ℕ) → length (loaded_to t k block n) ≡ length t
  unfolding loaded_to
  loaded_length zero = refl
  loaded_length (suc n) =
      by_test (ltb (first_slot k + n) (slots t))
      (λ y. rw (y, put_length) (loaded_length n))
      (λ m. rw m (loaded_length n))

  -- one more slot
  pub loaded_more : (n : ℕ) {u u' : List ℤ} → u ≡ loaded_to t k block n → u' ≡ slot_loaded u k block n → u' ≡ loaded_to t k block (n + 1)
  unfolding loaded_to
  loaded_more n e h = rw add-one (h ∙ rw (e, loaded_length n))

  -- it leaves the others as they were
  step_other : (n j : ℕ) → (j ≡ first_slot k + n → ⊥) → slot_at (loaded_to t k block (suc n)) j ≡ slot_at (loaded_to t k block n) j
  unfolding loaded_to
  step_other n j ne =
      by_test (ltb (first_slot k + n) (slots t))
      (λ y. rw y (put_other _ _ j _ ne))
      (λ m. rw m refl)

  -- and is itself the block's
  step_same : bad_table t ≡ false → (n : ℕ) → first_slot k + n < slots t → slot_at (loaded_to t k block (suc n)) (first_slot k + n) ≡ block_slot block n
  unfolding loaded_to
  step_same sound n h =
      rw (lt-ltb (first_slot k + n) (slots t) h)
      (put_same _ _ _ (same_length t _ (loaded_length n) ∙ sound) (rw (loaded_length n) h))

  -- a slot that is none of the written is as before
  pub loaded_other : (n j : ℕ) → ((i : ℕ) → i < n → j ≡ first_slot k + i → ⊥) → slot_at (loaded_to t k block n) j ≡ slot_at t j
  unfolding loaded_to
  loaded_other zero j out = refl
  loaded_other (suc n) j out = step_other n j (out n (omega arith)) ∙ loaded_other n j (λ i l. out i (omega arith))

  -- a written slot is the block's
  pub loaded_same : bad_table t ≡ false → (n i : ℕ) → i < n → first_slot k + i < slots t → slot_at (loaded_to t k block n) (first_slot k + i) ≡ block_slot block i
  loaded_same sound zero i l h = absurd (omega arith)
  loaded_same sound (suc n) i l h =
      ⊎_elim
      (λ e. rw e (step_same sound n (rw e at h)))
      (λ b. step_other n (first_slot k + i) (omega arith) ∙ loaded_same sound n i b h)
      (eq-or-lt_of_le (le_of_suc-le-suc l))

-- a table of the same length has the same blocks
pub within_same : (t u : List ℤ) (k : ℕ) → length u ≡ length t → Within t k → Within u k
within_same t u k e w = record { sound = same_length t u e ∙ w.sound; low = w.low; high = rw e w.high }
