-- The words of a block come back from its bytes, by the digits of each: of the 127 words that it was made of each is at its
-- place, the check stands after them, and it is right. Assumes nothing.
use Rattle.std.specs.Prelude.{◌≡◌, ℕ, zero, suc, ◌+◌, ◌*◌, ◌%◌, ◌<◌, ◌≤◌, false, not, List, [], ◌∷◌, ◌++◌, length, sum, take, replicate, slice_index, refl}
use Rattle.std.specs.List.{fold, range_with_len}
use Rattle.std.proofs.Common.{ap, ◌∙◌, add-zero, arith, take-suc, get_or-append-add, eq-eqb}
use Rattle.std.proofs.Math.ListN.{length-append, get_or-append}
use Rattle.std.proofs.lemmas.List.{length-replicate, get_or-replicate, get_or_at}
use Rattle.std.proofs.lemmas.List.Sums.{sum_by-append}
use Rattle.std.proofs.Math.Seq.{take_all}
use Rattle.laws.specs.DigitLaws.{EachBelow, digits-length, digits-below, number_digits}
use Rattle.laws.specs.Digits.{digits}
use Rattle.laws.specs.LowestLaws.{all_fail}
use Rattle.blocks_words.specs.Words.{block_bytes, check_place, byte_base, word_bytes, word_base, bytes_of, block_of, word_at, total_to, not_block, check_wrong, nonzero}
use Rattle.blocks_words.specs.Groups.{groups_length, groups_at, groups_below, append-below}

-- what a block is made of: its words 0 to 126, each below 2^32
pub record BlockWords (ws : List ℕ) : Type 0 where
  pub size : length ws ≡ check_place
  pub below : EachBelow word_base ws

-- ---- bytes and words
-- four bytes to a word
pub bytes_length : (ws : List ℕ) → length (bytes_of ws) ≡ length ws * word_bytes
unfolding bytes_of
bytes_length ws = groups_length (digits byte_base word_bytes) word_bytes (digits-length byte_base word_bytes) ws

-- each byte is below 256
pub bytes_below : (ws : List ℕ) → EachBelow byte_base (bytes_of ws)
unfolding bytes_of
bytes_below ws = groups_below (digits byte_base word_bytes) byte_base (omega arith) (λ w. digits-below byte_base word_bytes w (omega arith)) ws

-- a word comes back from its bytes
pub word_back : (ws : List ℕ) → EachBelow word_base ws → (i : ℕ) → i < length ws → word_at (bytes_of ws) i ≡ slice_index ws i
unfolding word_at bytes_of
word_back ws b i h =
    rw (rw add-zero at (byte 0 (omega arith)), byte 1 (omega arith), byte 2 (omega arith), byte 3 (omega arith))
    (number_digits byte_base word_bytes (slice_index ws i) (omega arith) (b i))
  where
    byte : (j : ℕ) → j < word_bytes → slice_index (bytes_of ws) (i * word_bytes + j) ≡ slice_index (digits byte_base word_bytes (slice_index ws i)) j
    byte j k = groups_at (digits byte_base word_bytes) word_bytes (digits-length byte_base word_bytes) ws i j 0 0 h k

-- ---- the total of the first words of a block is that of the words that stand there
total-words : (block ws : List ℕ) (n : ℕ) → n ≤ length ws → ((i : ℕ) → i < n → word_at block i ≡ slice_index ws i) → total_to block n ≡ sum (take n ws)
total-words block ws zero h same = refl
total-words block ws (suc n) h same =
    rw (take-suc ws n 0 h, sum_by-append (λ (w : ℕ). w), total-words block ws n (omega arith) (λ i l. same i (omega arith)), same n (omega arith)) (omega arith)

-- and the wrapping total of words from a place on, as a fold adds them
pub folded_total : (block : List ℕ) (from n : ℕ)
    → fold (λ sum i. (sum + word_at block i) % word_base) (total_to block from % word_base) (range_with_len from n) ≡ total_to block (from + n) % word_base
folded_total block from zero = rw add-zero
folded_total block from (suc n) =
    let wraps : (total_to block from % word_base + word_at block from) % word_base ≡ total_to block (suc from) % word_base = omega arith in
    let more = folded_total block (suc from) n in
    let next : from + 1 ≡ suc from = omega arith in
    let end : from + suc n ≡ suc from + n = omega arith in
    rw (next, wraps, end) more

-- ---- 512 bytes are a block
pub whole_block : (block : List ℕ) → length block ≡ block_bytes → not_block block ≡ false
whole_block block e = ap not (eq-eqb (length block) block_bytes e)

-- ---- a block made of its words 0 to 126
module _ (ws : List ℕ) (made : BlockWords ws) where
  -- it is 512 bytes
  pub block_length : length (block_of ws) ≡ block_bytes
  unfolding block_of
  block_length = rw (bytes_length, length-append, made.size)

  -- each below 256
  pub block_below : EachBelow byte_base (block_of ws)
  unfolding block_of
  block_below = bytes_below (ws ++ (sum ws % word_base ∷ []))

  -- with the check it has words 0 to 127, the check being one digit of the total
  stands : (i : ℕ) → i ≤ check_place → word_at (block_of ws) i ≡ slice_index (ws ++ (sum ws % word_base ∷ [])) i
  unfolding block_of
  stands i h =
      word_back (ws ++ (sum ws % word_base ∷ [])) (append-below word_base ws _ made.below (digits-below word_base 1 (sum ws) (omega arith))) i
      (rw (length-append, made.size) (omega arith))

  -- word i is the one that it was made of
  pub block_word : (i : ℕ) → i < check_place → word_at (block_of ws) i ≡ slice_index ws i
  block_word i h = stands i (omega arith) ∙ get_or-append ws _ 0 i (omega arith)

  -- word 127 is their total, wrapping at 2^32
  pub block_check : word_at (block_of ws) check_place ≡ sum ws % word_base
  block_check = stands check_place (omega arith) ∙ get_or_at ws _ [] 0 check_place made.size

  -- so the check is right
  pub check_right : check_wrong (block_of ws) ≡ false
  unfolding check_wrong
  check_right =
      rw (block_check, total-words (block_of ws) ws check_place (omega arith) block_word, take_all check_place ws (omega arith)) (ap not (eq-eqb (sum ws % word_base) _ refl))

  -- where it was made of some words and zeros, no filler is nonzero
  pub filler_zero : (front : List ℕ) (count : ℕ) → ws ≡ front ++ replicate count 0 → nonzero (block_of ws) (length front) count ≡ false
  filler_zero front count e = all_fail _ count (λ i h. ap not (eq-eqb _ _ (zero-at i h)))
    where
      counted : length front + count ≡ check_place
      counted = rw (e, length-append, length-replicate) at made.size

      zero-at : (i : ℕ) → i < count → word_at (block_of ws) (length front + i) ≡ 0
      zero-at i h = block_word (length front + i) (omega (arith, counted)) ∙ rw (e, get_or-append-add) (get_or-replicate count i 0 0 h)
