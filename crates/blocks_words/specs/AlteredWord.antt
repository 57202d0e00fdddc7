-- A block in which one word was changed has a wrong check. The check is the total of the other words modulo 2^32, so a
-- changed check no longer is that total, and a changed word moves the total by less than 2^32 and not by 0. Assumes nothing.
use Rattle.std.specs.Prelude.{◌≡◌, ℕ, zero, suc, ◌+◌, ◌*◌, ◌%◌, ◌<◌, ◌≤◌, true, not, List, length, ◌≢◌, refl}
use Rattle.std.proofs.Common.{ap, ⊎_elim, eq-or-lt_of_le, le_of_suc-le-suc, arith, ne_eqb, eqb-true}
use Rattle.laws.specs.TestLaws.{not_no}
use Rattle.laws.specs.DigitLaws.{EachBelow}
use Rattle.blocks_words.specs.Words.{block_bytes, check_place, byte_base, word_bytes, word_base, block_of, word_at, total_to, check_wrong}
use Rattle.blocks_words.specs.WordLaws.{BlockWords, block_below, check_right}

-- 512 bytes that are a block but for one of its 128 words
pub record OneWordChanged (block changed : List ℕ) : Type 0 where
  pub size : length changed ≡ block_bytes
  pub bytes : EachBelow byte_base changed
  pub place : ℕ
  pub within : place ≤ check_place
  pub differs : word_at changed place ≡ word_at block place → ⊥
  pub others : (j : ℕ) → j ≤ check_place → (j ≢ place) → word_at changed j ≡ word_at block j

-- a word of bytes is below 2^32
word_below : (block : List ℕ) → EachBelow byte_base block → (i : ℕ) → word_at block i < word_base
unfolding word_at
word_below block b i = omega (arith, b (i * word_bytes), b (i * word_bytes + 1), b (i * word_bytes + 2), b (i * word_bytes + 3))

-- ---- the totals of two blocks
module _ (b c : List ℕ) where
  -- with the same words they are the same
  total_same : (n : ℕ) → ((j : ℕ) → j < n → word_at c j ≡ word_at b j) → total_to c n ≡ total_to b n
  total_same zero same = refl
  total_same (suc n) same = rw (total_same n (λ j l. same j (omega arith)), same n (omega arith))

  -- with the same words but one they differ as that one does
  total-differs : (i n : ℕ) → i < n → ((j : ℕ) → j < n → (j ≢ i) → word_at c j ≡ word_at b j) → total_to c n + word_at b i ≡ total_to b n + word_at c i
  total-differs i zero h same = absurd (omega arith)
  total-differs i (suc n) h same =
      ⊎_elim
      (λ e. rw e (omega (arith, total_same n (λ j k. same j (omega arith) (omega arith)))))
      (λ l. omega (arith, total-differs i n l (λ j k. same j (omega arith)), same n (omega arith) (omega arith)))
      (eq-or-lt_of_le (le_of_suc-le-suc h))

  -- so both cannot be followed by their check
  no_check : EachBelow byte_base b → EachBelow byte_base c → (i n : ℕ) → i ≤ n → (word_at c i ≢ word_at b i)
      → ((j : ℕ) → j ≤ n → (j ≢ i) → word_at c j ≡ word_at b j)
      → word_at b n ≡ total_to b n % word_base → word_at c n ≢ total_to c n % word_base
  no_check p q i n h differs same x y =
      ⊎_elim
      (λ e. differs (rw e (omega (arith, total_same n (λ j k. same j (omega arith) (omega arith))))))
      (λ l. omega (arith, total-differs i n l (λ j k. same j (omega arith)), same n (omega arith) (omega arith), word_below b p i, word_below c q i))
      (eq-or-lt_of_le h)

-- ---- a block with one word changed has a wrong check
pub check_wrong_lem : (ws changed : List ℕ) → BlockWords ws → OneWordChanged (block_of ws) changed → check_wrong changed ≡ true
unfolding check_wrong
check_wrong_lem ws changed made one =
    ap not (ne_eqb _ _ (no_check (block_of ws) changed (block_below ws made) one.bytes one.place check_place one.within one.differs one.others
    (eqb-true _ _ (not_no (check_right ws made)))))
