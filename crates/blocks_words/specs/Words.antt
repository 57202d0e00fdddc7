-- A block as 128 unsigned 32-bit words, little-endian, the last of them the check; and as 512 bytes. RULES.md, Blocks. Assumes
-- nothing.
use Rattle.std.specs.Prelude.{ℕ, zero, suc, ◌+◌, ◌*◌, ◌%◌, Bool, not, List, [], ◌∷◌, ◌++◌, length, sum, replicate, ◌==◌, slice_index}
use Rattle.std.specs.List.{flat_map}
use Rattle.laws.specs.Digits.{digits, number}
use Rattle.laws.specs.Lowest.{some}

-- 512 bytes
abbrev pub block_bytes : ℕ
block_bytes = 512

-- word 0 is the number of the block
abbrev pub number_place : ℕ
number_place = 0

-- word 127 is the check
abbrev pub check_place : ℕ
check_place = 127

-- a word is four bytes
abbrev pub byte_base : ℕ
byte_base = 256

abbrev pub word_bytes : ℕ
word_bytes = 4

-- 2^32
abbrev pub word_base : ℕ
word_base = 4294967296

-- ---- words to bytes
-- the bytes of words, low byte first
unfoldable pub bytes_of : List ℕ → List ℕ
bytes_of ws = flat_map (digits byte_base word_bytes) ws

-- a block of the words 0 to 126: the check is their total, wrapping at 2^32
unfoldable pub block_of : List ℕ → List ℕ
block_of ws = bytes_of (ws ++ (sum ws % word_base ∷ []))

-- what a refused save hands out
abbrev pub zero_block : List ℕ
zero_block = replicate block_bytes 0

-- ---- bytes to words
-- the word at a place of a block
unfoldable pub word_at : List ℕ → ℕ → ℕ
word_at block i =
    number byte_base (slice_index block (i * word_bytes)
    ∷ slice_index block (i * word_bytes + 1)
    ∷ slice_index block (i * word_bytes + 2)
    ∷ slice_index block (i * word_bytes + 3)
    ∷ [])

-- the total of the first words of a block
abbrev pub total_to : List ℕ → ℕ → ℕ
total_to block zero = 0
total_to block (suc n) = total_to block n + word_at block n

-- 14: block is not 512 bytes
abbrev pub not_block : List ℕ → Bool
not_block block = not (length block == block_bytes)

-- 15: block's check is wrong
unfoldable pub check_wrong : List ℕ → Bool
check_wrong block = not (word_at block check_place == total_to block check_place % word_base)

-- some word of so many from a place is not zero
abbrev pub nonzero : List ℕ → ℕ → ℕ → Bool
nonzero block from count = some (λ i. not (word_at block (from + i) == 0)) count
