-- The laws of a key's slot: it is the lowest that has the key; an absent key shows the empty slot; a live key has a slot.
-- Assumes nothing.
use Rattle.std.specs.Prelude.{◌≡◌, refl, true, false, not, List, [], ◌∷◌, ℕ, ◌+◌, ◌*◌, ◌≤◌, ◌<◌, ltb, ℤ}
use Rattle.std.proofs.Common.{ap, inl, inr, lt_of_lt_of_le, ltb-true, ltb-false}
use Rattle.laws.specs.TestLaws.{all-at, by_test, clash, not_yes, all_yes, all_no}
use Rattle.laws.specs.Tests.{all}
use Rattle.laws.specs.OrderLaws.{eq_z_true, eq_z_same}
use Rattle.laws.specs.Order.{eq_z}
use Rattle.laws.specs.LowestLaws.{lowest_is, below_four}
use Rattle.laws.specs.Lowest.{Lowest, EachOfFour}
use Rattle.table.specs.declared.Slot.{Slot}
use Rattle.table.specs.Slots.{slot_words, operation_place, key1_place, key2_place, bad_table, slots, slot_at, empty, word}
use Rattle.table.specs.SlotLaws.{slot_at-past, slot_from_lem, key1_at, key2_at}
use Rattle.table_forms.specs.Operations.{empty_operation}
use Rattle.table_forms.specs.OperationLaws.{dead_empty}
use Rattle.table_keys.specs.declared.KeyWord.{KeyWord}
use Rattle.table_keys.specs.Keys.{has_key, key_slot, keyed, key_live}
use Rattle.table_keys.specs.KeySearch.{Keyless, IsKeyWord, Apart}

pub key_slot_is : (t : List ℤ) (key1 key2 : ℤ) → Lowest (λ k. has_key (slot_at t k) key1 key2) (slots t) (key_slot t key1 key2)
unfolding key_slot
key_slot_is t key1 key2 = lowest_is _ _

-- a slot that has a key: its operation and its two key words
pub record Keyed (x : Slot) (p q : ℤ) : Type 0 where
  pub used : eq_z x.operation empty_operation ≡ false
  pub key1 : x.key1 ≡ p
  pub key2 : x.key2 ≡ q

pub has_key_lem : (x : Slot) (key1 key2 : ℤ) → has_key x key1 key2 ≡ true → Keyed x key1 key2
unfolding has_key
has_key_lem x key1 key2 h =
    record { used = not_yes (all-at _ 0 h); key1 = eq_z_true _ _ (all-at _ 1 h); key2 = eq_z_true _ _ (all-at _ 2 h) }

pub keyed_has : {x : Slot} {key1 key2 : ℤ} → Keyed x key1 key2 → has_key x key1 key2 ≡ true
unfolding has_key
keyed_has k = all_yes _ (ap not k.used, (eq_z_same k.key1, (eq_z_same k.key2, tt)))

-- and the key of the slot at a place by the words that are asked
pub has_key_words : (t : List ℤ) (k : ℕ) (key1 key2 : ℤ) → has_key (slot_at t k) key1 key2
    ≡ all (not (eq_z (word t (k * slot_words + operation_place)) empty_operation) ∷ eq_z (word t (k * slot_words + key1_place)) key1 ∷ eq_z (word t (k * slot_words + key2_place)) key2 ∷ [])
unfolding has_key
has_key_words t k key1 key2 = rw (slot_from_lem t k) refl

-- a slot whose compared word is another has not the key
apart_keyless : (t : List ℤ) {c : KeyWord} {key1 key2 : ℤ} → IsKeyWord c key1 key2 → (k : ℕ) → Apart t k c → has_key (slot_at t k) key1 key2 ≡ false
unfolding has_key
apart_keyless t (inl second) k h = all_no _ 2 (rw (key2_at t k) (rw second at h))
apart_keyless t (inr first) k h = all_no _ 1 (rw (key1_at t k) (rw first at h))

pub past_four : (t : List ℤ) {k : ℕ} {c : KeyWord} {key1 key2 : ℤ} → IsKeyWord c key1 key2 → EachOfFour (λ j. Apart t j c) k
    → Keyless t key1 key2 k → Keyless t key1 key2 (k + 4)
past_four t w f b = below_four (λ j. apart_keyless t w j) f b

-- the empty slot has no key
pub empty_keyless : (key1 key2 : ℤ) → has_key empty key1 key2 ≡ false
unfolding has_key
empty_keyless key1 key2 = all_no _ 0 refl

-- a key without a slot has none anywhere, and shows the empty one
pub absent_nowhere : (t : List ℤ) (key1 key2 : ℤ) → bad_table t ≡ false → slots t ≤ key_slot t key1 key2 → (j : ℕ) → has_key (slot_at t j) key1 key2 ≡ false
absent_nowhere t key1 key2 b l j =
    by_test (ltb j (slots t))
    (λ y. (key_slot_is t key1 key2).below j (lt_of_lt_of_le (ltb-true _ _ y) l))
    (λ n. rw (slot_at-past t j b (ltb-false _ _ n)) (empty_keyless key1 key2))

pub absent_empty : (t : List ℤ) (key1 key2 : ℤ) → bad_table t ≡ false → slots t ≤ key_slot t key1 key2 → keyed t key1 key2 ≡ empty
absent_empty t key1 key2 b l = slot_at-past t (key_slot t key1 key2) b l

-- a live key has a slot
pub live_placed : (t : List ℤ) (key1 key2 : ℤ) → bad_table t ≡ false → key_live t key1 key2 ≡ true → key_slot t key1 key2 < slots t
live_placed t key1 key2 b l =
    by_test (ltb (key_slot t key1 key2) (slots t)) (ltb-true _ _)
    (λ n. clash l (rw (absent_empty t key1 key2 b (ltb-false _ _ n)) dead_empty))
