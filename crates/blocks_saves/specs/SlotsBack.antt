-- The slots of a block come back: slot j of a block of a table's slots is slot j from the block's first of the table. Its words are
-- 127 that fit; each half is read off its place, two are put together, and the word reads back as itself. Assumes nothing.
use Rattle.std.specs.Prelude.{◌≡◌, false, List, ◌∷◌, ◌++◌, ℤ, pos}
use Rattle.std.proofs.Math.Path.{refl, ap}
use Rattle.std.proofs.Common.{◌∙◌, arith, SFits, of_z}
use Prim.Native.Nat.{ℕ, zero, suc, ◌+◌, ◌*◌, ◌<◌}
use Rattle.std.proofs.Math.ListN.{get_or, replicate, get_or-append}
use Rattle.std.specs.Int.{w64}
use mir.ValLaws.{of_z_fits}
use Rattle.laws.specs.Bits.{plain}
use Rattle.laws.specs.DigitLaws.{EachBelow, number_digits}
use Rattle.table.specs.Slots.{slot_words, words_of, word, slot_at}
use Rattle.table.specs.SlotLaws.{word-at}
use Rattle.blocks_words.specs.Words.{number_place, word_base, block_of, word_at, nonzero}
use Rattle.blocks_words.specs.Groups.{append-below, zeros-below}
use Rattle.blocks_words.specs.WordLaws.{BlockWords, block_word, filler_zero}
use Rattle.blocks_words.specs.LongLaws.{slot_of_words}
use Rattle.blocks_words.specs.Longs.{block_slots, slot_halves, halves, long_at, block_slot}
use Rattle.blocks_loads.specs.LoadedSlots.{first_slot, slot_filler_place, slot_filler_words}
use Rattle.blocks_saves.specs.SlotBlocks.{slots_from, slot_block_words}
use Rattle.blocks_saves.specs.SlotBlockLaws.{slots_from-below, half_at}

-- the words of a table are machine words
abbrev pub Fitting : List ℤ → Type 0
Fitting t = (i : ℕ) → SFits w64 (word t i)

-- ---- a block whose number is a word
module _ (t : List ℤ) (k : ℕ) (small : k < word_base) where
  -- its words are 127, each below 2^32
  pub slot-words : BlockWords (slot_block_words t k)
  unfolding slot_block_words
  slot-words = record { size = refl; below = below }
    where
      below : EachBelow word_base (k ∷ slots_from t (first_slot k) block_slots ++ replicate slot_filler_words 0)
      below zero = small
      below (suc i) =
          append-below word_base (slots_from t (first_slot k) block_slots) (replicate slot_filler_words 0) (slots_from-below t (first_slot k) block_slots)
          (zeros-below word_base (omega arith) slot_filler_words) i

  -- its number and its filler are where they go
  pub number-back : word_at (block_of (slot_block_words t k)) number_place ≡ k
  unfolding slot_block_words
  number-back = block_word _ slot-words number_place (omega arith)

  pub filler_back : nonzero (block_of (slot_block_words t k)) slot_filler_place slot_filler_words ≡ false
  unfolding slot_block_words
  filler_back = filler_zero _ slot-words (k ∷ slots_from t (first_slot k) block_slots) slot_filler_words refl

  -- each half is read off its place
  half_back : (j n h p : ℕ) → j < block_slots → n < slot_words → h < 2 → p ≡ suc (j * slot_halves + (n * 2 + h))
      → word_at (block_of (slot_block_words t k)) p ≡ get_or (halves (get_or (words_of (slot_at t (first_slot k + j))) n (pos 0))) h 0
  unfolding slot_block_words
  half_back j n h p a b c e =
      block_word (slot_block_words t k) slot-words p (omega arith)
      ∙ ap (λ i. get_or (slot_block_words t k) i 0) e
      ∙ get_or-append (slots_from t (first_slot k) block_slots) (replicate slot_filler_words 0) 0 (j * slot_halves + (n * 2 + h)) (omega arith)
      ∙ half_at t (first_slot k) block_slots j n h a b c

  module _ (fitting : Fitting t) where
    -- a word of a slot, from its two halves
    long_back : (j n : ℕ) → j < block_slots → n < slot_words
        → long_at (block_of (slot_block_words t k)) (j * slot_halves + (n * 2 + 1)) ≡ get_or (words_of (slot_at t (first_slot k + j))) n (pos 0)
    long_back j n a b =
        let z : ℤ = get_or (words_of (slot_at t (first_slot k + j))) n (pos 0) in
        let f : SFits w64 z = rw (word-at t (first_slot k + j) n b) (fitting _) in
        rw (
          half_back j n 0 (j * slot_halves + (n * 2 + 1)) a b (omega arith) (omega arith),
          half_back j n 1 (j * slot_halves + (n * 2 + 1) + 1) a b (omega arith) (omega arith),
          number_digits word_base 2 (of_z w64 z) (omega arith) (of_z_fits w64 z f).fits,
        )
        (plain z f)

    -- slot j of the block
    pub slot-back : (j : ℕ) → j < block_slots → block_slot (block_of (slot_block_words t k)) j ≡ slot_at t (first_slot k + j)
    slot-back j a = slot_of_words (block_of (slot_block_words t k)) j (slot_at t (first_slot k + j)) (λ n b. long_back j n a b)
