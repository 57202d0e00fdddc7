-- The laws of slots: the lengths of a table, the slot at a place past the end, a slot that was put, and that two tables which
-- agree slot by slot are one. Each goes by the eight words. Assumes nothing.
use Rattle.std.specs.Prelude.{◌≡◌, refl, false, List, ℕ, zero, suc, ◌+◌, ◌*◌, ◌%◌, ◌≤◌, ◌<◌, ltb, ℤ, pos, length, get_or, replicate}
use Rattle.std.proofs.Common.{sym, ap, ◌∙◌, arith, eqb-true, ltb-false, ltb-true, eq-eqb, ne_eqb, le-ltb}
use Rattle.std.proofs.lemmas.List.{get_or-replicate, length-replicate}
use Rattle.std.proofs.Math.ListN.{get_or-eq_default}
use Rattle.std.proofs.lemmas.List.Edits.{sets}
use Rattle.std.proofs.Math.Seq.{length-sets}
use Rattle.std.proofs.lemmas.Bool.{eqb-false}
use Rattle.laws.specs.TestLaws.{none-at, not_no, by_test, by_place}
use Rattle.laws.specs.Tests.{any}
use Rattle.laws.specs.Stores.{sets_before, sets-past, sets_within, by_groups}
use Rattle.table.specs.declared.Slot.{Slot}
use Rattle.table.specs.Slots.{slot_words, most_slots, slots, bad_table, words_of, empty, word, operation_place, key1_place, key2_place, slot_from, slot_at, put_slot, fresh_table}

-- ---- the lengths of a table that is not refused
pub record Lengths (t : List ℤ) : Type 0 where
  pub whole : length t ≡ slots t * slot_words
  pub some : 0 < slots t
  pub few : slots t ≤ most_slots

pub lengths : (t : List ℤ) → bad_table t ≡ false → Lengths t
unfolding bad_table
lengths t h =
    let z : length t ≡ 0 → ⊥ = eqb-false _ _ (none-at _ 0 h) in
    let m : length t % slot_words ≡ 0 = eqb-true _ _ (not_no (none-at _ 1 h)) in
    let l : length t ≤ most_slots * slot_words = ltb-false _ _ (none-at _ 2 h) in
    record { whole = omega arith; some = omega arith; few = omega arith }

-- ---- two slots are one where their eight words are
pub slot_path : {x y : Slot} → x.run ≡ y.run → x.operation ≡ y.operation → x.key1 ≡ y.key1 → x.key2 ≡ y.key2
    → x.current1 ≡ y.current1 → x.current2 ≡ y.current2 → x.old1 ≡ y.old1 → x.old2 ≡ y.old2 → x ≡ y
slot_path a b c d e f g h i =
    record { run = a i; operation = b i; key1 = c i; key2 = d i; current1 = e i; current2 = f i; old1 = g i; old2 = h i }

-- where one rule gives each word
pub by_words : {x y : Slot} → ((n : ℕ) → n < slot_words → get_or (words_of x) n (pos 0) ≡ get_or (words_of y) n (pos 0)) → x ≡ y
by_words w = slot_path (w 0 (omega arith)) (w 1 (omega arith)) (w 2 (omega arith)) (w 3 (omega arith)) (w 4 (omega arith)) (w 5 (omega arith)) (w 6 (omega arith)) (w 7 (omega arith))

-- a word of the slot at a place is a word of the table
pub word-at : (t : List ℤ) (k n : ℕ) → n < slot_words → get_or (words_of (slot_at t k)) n (pos 0) ≡ word t (k * slot_words + n)
unfolding slot_at
word-at t k zero h = refl
word-at t k (suc zero) h = refl
word-at t k (suc (suc zero)) h = refl
word-at t k (suc (suc (suc zero))) h = refl
word-at t k (suc (suc (suc (suc zero)))) h = refl
word-at t k (suc (suc (suc (suc (suc zero))))) h = refl
word-at t k (suc (suc (suc (suc (suc (suc zero)))))) h = refl
word-at t k (suc (suc (suc (suc (suc (suc (suc zero))))))) h = refl
word-at t k (suc (suc (suc (suc (suc (suc (suc (suc n)))))))) h = absurd (omega arith)

-- the slot at a place by its words, where a pass over the table reads them
pub slot_from_lem : (t : List ℤ) (k : ℕ) → slot_at t k ≡ slot_from t (k * slot_words)
unfolding slot_at
slot_from_lem t k = refl

-- and by the words that the searches read
pub operation_at : (t : List ℤ) (k : ℕ) → (slot_at t k).operation ≡ word t (k * slot_words + operation_place)
operation_at t k = ap (λ x. x.operation) (slot_from_lem t k)

pub key1_at : (t : List ℤ) (k : ℕ) → (slot_at t k).key1 ≡ word t (k * slot_words + key1_place)
key1_at t k = ap (λ x. x.key1) (slot_from_lem t k)

pub key2_at : (t : List ℤ) (k : ℕ) → (slot_at t k).key2 ≡ word t (k * slot_words + key2_place)
key2_at t k = ap (λ x. x.key2) (slot_from_lem t k)

-- a word of a slot further on
pub word_on : (t : List ℤ) (k i n : ℕ) → word t ((k + i) * slot_words + n) ≡ word t (k * slot_words + i * slot_words + n)
word_on t k i n = ap (word t) (omega arith)

-- ---- a slot past the end is empty
pub slot_at-past : (t : List ℤ) (k : ℕ) → bad_table t ≡ false → slots t ≤ k → slot_at t k ≡ empty
slot_at-past t k h l = by_words (λ n b. word-at t k n b ∙ past n ∙ sym (get_or-replicate slot_words n (pos 0) (pos 0) b))
  where
    past : (n : ℕ) → word t (k * slot_words + n) ≡ pos 0
    past n = get_or-eq_default t (pos 0) (omega (arith, (lengths t h).whole))

-- ---- a slot that was put
pub put_length : (t : List ℤ) (k : ℕ) (x : Slot) → length (put_slot t k x) ≡ length t
unfolding put_slot
put_length t k x = length-sets t (k * slot_words) (words_of x)

-- tables of one length are refused alike
pub same_length : (t u : List ℤ) → length u ≡ length t → bad_table u ≡ bad_table t
unfolding bad_table
same_length t u e = rw e

pub put_sound : (t : List ℤ) (k : ℕ) (x : Slot) → bad_table (put_slot t k x) ≡ bad_table t
put_sound t k x = same_length t _ (put_length t k x)

pub put_same : (t : List ℤ) (k : ℕ) (x : Slot) → bad_table t ≡ false → k < slots t → slot_at (put_slot t k x) k ≡ x
unfolding put_slot
put_same t k x h l =
    by_words (λ n b. word-at (put_slot t k x) k n b ∙ sets_within (pos 0) t (k * slot_words) (words_of x) n b (omega (arith, (lengths t h).whole)))

pub put_other : (t : List ℤ) (k j : ℕ) (x : Slot) → (j ≡ k → ⊥) → slot_at (put_slot t k x) j ≡ slot_at t j
unfolding put_slot
put_other t k j x ne = by_words (λ n b. word-at (put_slot t k x) j n b ∙ old n b ∙ sym (word-at t j n b))
  where
    old : (n : ℕ) → n < slot_words → word (sets t (k * slot_words) (words_of x)) (j * slot_words + n) ≡ word t (j * slot_words + n)
    old n f =
        by_test (ltb j k)
        (λ y. sets_before (pos 0) t (k * slot_words) (words_of x) (j * slot_words + n) (omega (arith, ltb-true j k y)))
        (λ m. sets-past (pos 0) t (k * slot_words) (words_of x) (j * slot_words + n) (omega (arith, ltb-false j k m, ne)))

-- ---- two tables that agree slot by slot are one
pub by_slots : (t u : List ℤ) → length t ≡ length u → ((k : ℕ) → slot_at t k ≡ slot_at u k) → t ≡ u
by_slots t u e same =
    by_groups (pos 0) slot_words (omega arith) t u e
    (λ k n b. sym (word-at t k n b) ∙ ap (λ x. get_or (words_of x) n (pos 0)) (same k) ∙ word-at u k n b)

-- a slot put where it stands leaves the table
pub put_standing : (t : List ℤ) (k : ℕ) → bad_table t ≡ false → k < slots t → put_slot t k (slot_at t k) ≡ t
put_standing t k shape l =
    by_slots _ t (put_length t k _)
    (λ j. by_place j k (λ e. rw e (put_same t k _ shape l)) (λ ne. put_other t k j _ ne))

-- ---- a fresh table of 1 to 1,024 slots is not refused, has as many, and each is empty
pub fresh_length : (n : ℕ) → length (fresh_table n) ≡ n * slot_words
fresh_length n = length-replicate (n * slot_words) (pos 0)

pub fresh_slots : (n : ℕ) → slots (fresh_table n) ≡ n
fresh_slots n = rw (fresh_length n) (omega arith)

pub fresh_shape : (n : ℕ) → 1 ≤ n → n ≤ most_slots → bad_table (fresh_table n) ≡ false
unfolding bad_table any
fresh_shape n l h =
    rw (fresh_length n)
    (simp (ne_eqb (n * slot_words) 0 (omega arith), eq-eqb (n * slot_words % slot_words) 0 (omega arith), le-ltb (most_slots * slot_words) (n * slot_words) (omega arith)))

zero_word : (n i : ℕ) → word (replicate n (pos 0)) i ≡ pos 0
zero_word n i =
    by_test (ltb i n) (λ y. get_or-replicate n i (pos 0) (pos 0) (ltb-true i n y))
    (λ m. get_or-eq_default (replicate n (pos 0)) (pos 0) (omega (arith, length-replicate n (pos 0), ltb-false i n m)))

pub fresh_slot : (n k : ℕ) → slot_at (fresh_table n) k ≡ empty
fresh_slot n k = by_words (λ i b. word-at (fresh_table n) k i b ∙ zero_word (n * slot_words) (k * slot_words + i) ∙ sym (get_or-replicate slot_words i (pos 0) (pos 0) b))
