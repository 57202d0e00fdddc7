-- A signed 64-bit word in a block, as two halves, and a slot, as sixteen: how each is written and read. RULES.md, Blocks. Assumes
-- nothing.
use Rattle.std.specs.Prelude.{ℕ, ◌+◌, ◌*◌, List, [], ◌∷◌, ℤ}
use Rattle.std.specs.List.{flat_map}
use Rattle.std.specs.Int.{w64}
use Rattle.std.proofs.Common.{of_z, to_z}
use Rattle.laws.specs.Digits.{digits, number}
use Rattle.table.specs.declared.Slot.{Slot}
use Rattle.blocks_words.specs.Words.{word_base, word_at}

-- seven slots to a block
abbrev pub block_slots : ℕ
block_slots = 7

-- sixteen halves to a slot
abbrev pub slot_halves : ℕ
slot_halves = 16

-- from word 1 on
abbrev pub first_slot_place : ℕ
first_slot_place = 1

-- ---- to words
-- each 64-bit word as two's complement, low half first
abbrev pub halves : ℤ → List ℕ
halves z = digits word_base 2 (of_z w64 z)

abbrev pub halves_of : List ℤ → List ℕ
halves_of zs = flat_map halves zs

-- ---- from words
-- the 64-bit word of the halves at a place
abbrev pub long_at : List ℕ → ℕ → ℤ
long_at block i = to_z w64 (number word_base (word_at block i ∷ word_at block (i + 1) ∷ []))

-- slot j of a block, from 0: sixteen halves from word 1 + 16 × j
unfoldable pub block_slot : List ℕ → ℕ → Slot
block_slot block j = record {
  run = long_at block (j * slot_halves + 1);
  operation = long_at block (j * slot_halves + 3);
  key1 = long_at block (j * slot_halves + 5);
  key2 = long_at block (j * slot_halves + 7);
  current1 = long_at block (j * slot_halves + 9);
  current2 = long_at block (j * slot_halves + 11);
  old1 = long_at block (j * slot_halves + 13);
  old2 = long_at block (j * slot_halves + 15);
}
