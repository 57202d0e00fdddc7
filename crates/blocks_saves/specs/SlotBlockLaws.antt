-- How a block of slots is made: slot after slot behind its number, unless one is broken. A slot is sixteen halves and a word is two
-- of them, so each half has its place. Assumes nothing.
use Rattle.std.specs.Prelude.{◌≡◌, true, false, ℕ, zero, suc, ◌+◌, ◌*◌, ◌<◌, List, [], ◌∷◌, ◌++◌, ℤ, pos, length, get_or, Some, None, refl}
use Rattle.std.proofs.Common.{ap, ◌∙◌, add-zero, add-suc, suc-add, add-one, arith, of_z}
use Rattle.std.specs.List.{flat_map}
use Rattle.std.specs.Int.{w64}
use Rattle.refusals.specs.declared.Refusal.TheVariants as refusal
use Rattle.laws.specs.FirstLaws.{hit, skip, done}
use Rattle.laws.specs.First.{first}
use Rattle.laws.specs.LowestLaws.{some_yes, all_fail, none_passes}
use Rattle.laws.specs.DigitLaws.{EachBelow, digits-below}
use Rattle.versions.specs.declared.VersionRecord.{VersionRecord}
use Rattle.table.specs.declared.Slot.{Slot}
use Rattle.table.specs.Slots.{slot_words, words_of, slot_at, empty}
use Rattle.table_forms.specs.Formed.{broken}
use Rattle.blocks_words.specs.Words.{word_base, block_of}
use Rattle.blocks_words.specs.Groups.{groups_length, groups_at, groups_below}
use Rattle.blocks_words.specs.declared.drafts.Draft.{Draft}
use Rattle.blocks_words.specs.Follows.{FollowedBy, Follow, Finished}
use Rattle.blocks_words.specs.Longs.{block_slots, slot_halves, halves, halves_of}
use Rattle.blocks_loads.specs.LoadedSlots.{first_slot, slot_filler_words}
use Rattle.blocks_saves.specs.SlotBlocks.{slots_from, slot_block_words, block_broken, slot_tests}

-- ---- halves in their groups: two to a word, sixteen to a slot
slot_in_halves : Slot → List ℕ
slot_in_halves x = flat_map halves (words_of x)

slot_in_halves_length : (x : Slot) → length (slot_in_halves x) ≡ slot_halves
unfolding slot_in_halves
slot_in_halves_length x = refl

slot_in_halves_below : (x : Slot) → EachBelow word_base (slot_in_halves x)
unfolding slot_in_halves
slot_in_halves_below x = groups_below halves word_base (omega arith) (λ z. digits-below word_base 2 (of_z w64 z) (omega arith)) (words_of x)

-- so many slots from a place
slots_at : List ℤ → ℕ → ℕ → List Slot
slots_at t from zero = []
slots_at t from (suc n) = slot_at t from ∷ slots_at t (suc from) n

slots_at_length : (t : List ℤ) (from n : ℕ) → length (slots_at t from n) ≡ n
unfolding slots_at
slots_at_length t from zero = refl
slots_at_length t from (suc n) = ap suc (slots_at_length t (suc from) n)

slots_at_at : (t : List ℤ) (from n j : ℕ) → j < n → get_or (slots_at t from n) j empty ≡ slot_at t (from + j)
unfolding slots_at
slots_at_at t from zero j h = absurd (omega arith)
slots_at_at t from (suc n) zero h = rw add-zero
slots_at_at t from (suc n) (suc j) h = rw (add-suc, ← suc-add) (slots_at_at t (suc from) n j (omega arith))

slots_from_groups : (t : List ℤ) (from n : ℕ) → slots_from t from n ≡ flat_map slot_in_halves (slots_at t from n)
unfolding slots_at slot_in_halves
slots_from_groups t from zero = refl
slots_from_groups t from (suc n) = rw (slots_from_groups t (suc from) n)

pub slots_from-below : (t : List ℤ) (from n : ℕ) → EachBelow word_base (slots_from t from n)
slots_from-below t from n = rw (slots_from_groups t from n) (groups_below slot_in_halves word_base (omega arith) slot_in_halves_below (slots_at t from n))

-- sixteen halves to a slot
slots_from-length : (t : List ℤ) (from n : ℕ) → length (slots_from t from n) ≡ n * slot_halves
slots_from-length t from n =
    rw (slots_from_groups t from n) (groups_length slot_in_halves slot_halves slot_in_halves_length (slots_at t from n) ∙ ap (λ m. m * slot_halves) (slots_at_length t from n))

-- one slot more
slots_from_more : (t : List ℤ) (from n : ℕ) → slots_from t from (suc n) ≡ slots_from t from n ++ halves_of (words_of (slot_at t (from + n)))
slots_from_more t from zero = rw add-zero
slots_from_more t from (suc n) = rw (slots_from_more t (suc from) n, suc-add, add-suc)

-- a half of a word of a slot stands at its place
pub half_at : (t : List ℤ) (from m j n h : ℕ) → j < m → n < slot_words → h < 2
    → get_or (slots_from t from m) (j * slot_halves + (n * 2 + h)) 0 ≡ get_or (halves (get_or (words_of (slot_at t (from + j))) n (pos 0))) h 0
unfolding slot_in_halves
half_at t from m j n h a b c =
    rw (
      slots_from_groups t from m,
      groups_at slot_in_halves slot_halves slot_in_halves_length (slots_at t from m) j (n * 2 + h) empty 0 (rw slots_at_length a) (omega arith),
      slots_at_at t from m j a,
    )
    (groups_at halves 2 (λ z. refl) (words_of (slot_at t (from + j))) n h (pos 0) 0 b c)

-- ---- a block while its slots are written: its number, and so many of them
abbrev pub numbered : List ℤ → ℕ → ℕ → List ℕ
numbered t k n = k ∷ slots_from t (first_slot k) n

module _ (t : List ℤ) (k n : ℕ) {draft : Draft} (w : FollowedBy (numbered t k n) draft) where
  -- one slot more
  pub slot-written : {draft' : Draft} → Follow (n * slot_halves + 1) draft (halves_of (words_of (slot_at t (first_slot k + n)))) draft' → FollowedBy (numbered t k (n + 1)) draft'
  slot-written f =
      rw (add-one, slots_from_more t (first_slot k) n) (f.after (numbered t k n) (omega (arith, slots_from-length t (first_slot k) n)) w)

  -- all seven, and the check
  pub slots_whole : {block : List ℕ} → n ≡ block_slots → Finished draft block → block ≡ block_of (slot_block_words t k)
  unfolding slot_block_words
  slots_whole e f = f.whole (numbered t k block_slots) slot_filler_words refl (rw e at w)

-- and refusal 6: a broken one is enough, and where none is it is not given
module _ (t : List ℤ) (v : VersionRecord) (k : ℕ) where
  pub slot-broken : (j : ℕ) → j < block_slots → broken (slot_at t (first_slot k + j)) v ≡ true → first (slot_tests t v k) ≡ Some refusal.BrokenSlot
  unfolding block_broken
  slot-broken j h b = hit [] (some_yes _ block_slots j h b)

  pub none-broken : ((j : ℕ) → j < block_slots → broken (slot_at t (first_slot k + j)) v ≡ false) → first (slot_tests t v k) ≡ None
  unfolding block_broken
  none-broken f = skip refusal.BrokenSlot [] (all_fail _ block_slots f) ∙ done

  pub block_formed : block_broken t v k ≡ false → (j : ℕ) → j < block_slots → broken (slot_at t (first_slot k + j)) v ≡ false
  unfolding block_broken
  block_formed h = none_passes (λ i. broken (slot_at t (first_slot k + i)) v) block_slots h
