-- Words of a list in groups of one width: a group stored at its place, and what stands at each index after. All is over the
-- width, the list and the group; a slot of a table is the case of eight. Assumes nothing.
use Rattle.std.specs.Prelude.{◌≡◌, refl, List, [], ◌∷◌, ℕ, zero, suc, ◌+◌, ◌*◌, ◌/◌, ◌%◌, ◌≤◌, ◌<◌, length, get_or, set}
use Rattle.std.proofs.Common.{◌∙◌, add-suc, add-zero, suc-add, div-add-mod', mod-lt, arith, length-set, get_or-set_same, get_or-set_other, ext_get_or}
use Rattle.std.proofs.lemmas.List.Edits.{sets}

module _ {A : Type 0} (d : A) where
  -- before the stored group
  pub sets_before : (l : List A) (i : ℕ) (vs : List A) (j : ℕ) → j < i → get_or (sets l i vs) j d ≡ get_or l j d
  sets_before l i [] j h = refl
  sets_before l i (v ∷ vs) j h = sets_before (set l i v) (suc i) vs j (omega arith) ∙ get_or-set_other l i j v d (omega arith)

  -- past it
  pub sets-past : (l : List A) (i : ℕ) (vs : List A) (j : ℕ) → i + length vs ≤ j → get_or (sets l i vs) j d ≡ get_or l j d
  sets-past l i [] j h = refl
  sets-past l i (v ∷ vs) j h = sets-past (set l i v) (suc i) vs j (omega arith) ∙ get_or-set_other l i j v d (omega arith)

  -- within it
  pub sets_within : (l : List A) (i : ℕ) (vs : List A) (k : ℕ) → k < length vs → i + length vs ≤ length l → get_or (sets l i vs) (i + k) d ≡ get_or vs k d
  sets_within l i [] k h f = absurd (omega arith)
  sets_within l i (v ∷ vs) zero h f =
      rw add-zero (sets_before (set l i v) (suc i) vs i (omega arith) ∙ get_or-set_same l i v d (omega arith))
  sets_within l i (v ∷ vs) (suc k) h f =
      rw (add-suc, ← suc-add) (sets_within (set l i v) (suc i) vs k (omega arith) (omega (arith, length-set l i v)))

  -- two lists that agree at each word of each group are one
  pub by_groups : (w : ℕ) → 0 < w → (l m : List A) → length l ≡ length m
      → ((k n : ℕ) → n < w → get_or l (k * w + n) d ≡ get_or m (k * w + n) d) → l ≡ m
  by_groups w h l m e same =
      ext_get_or d l m e (λ i b. rw (div-add-mod' i w) at (same (i / w) (i % w) (mod-lt i h)))
