-- A slot of a block, by its eight words. Assumes nothing.
use Rattle.std.specs.Prelude.{◌≡◌, ℕ, ◌+◌, ◌*◌, ◌<◌, List, pos, slice_index_or}
use Rattle.std.proofs.Common.{arith}
use Rattle.table.specs.declared.Slot.{Slot}
use Rattle.table.specs.Slots.{slot_words, words_of}
use Rattle.table.specs.SlotLaws.{slot_path}
use Rattle.blocks_words.specs.Longs.{slot_halves, long_at, block_slot}

-- ---- a slot of a block is the one whose words stand there
pub slot_of_words : (block : List ℕ) (j : ℕ) (x : Slot) → ((n : ℕ) → n < slot_words → long_at block (j * slot_halves + (n * 2 + 1)) ≡ slice_index_or (words_of x) n (pos 0)) → block_slot block j ≡ x
unfolding block_slot
slot_of_words block j x at =
    slot_path (at 0 (omega arith)) (at 1 (omega arith)) (at 2 (omega arith)) (at 3 (omega arith)) (at 4 (omega arith)) (at 5 (omega arith)) (at 6 (omega arith))
    (at 7 (omega arith))
