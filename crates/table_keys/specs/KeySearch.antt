-- What the search for a key has passed, slots of which none has the key, and the word that it passes them by. Assumes nothing.
use Rattle.std.specs.Prelude.{◌≡◌, false, ◌⊎◌, List, ℕ, ◌+◌, ◌*◌, ℤ}
use Rattle.laws.specs.Order.{eq_z}
use Rattle.laws.specs.Lowest.{NoneBelow}
use Rattle.table.specs.Slots.{slot_words, key1_place, key2_place, word, slot_at}
use Rattle.table_keys.specs.declared.KeyWord.{KeyWord}
use Rattle.table_keys.specs.Keys.{has_key}

-- ---- a search has passed the slots below a place: none of them has the key
abbrev pub Keyless : List ℤ → ℤ → ℤ → ℕ → Type 0
Keyless t key1 key2 = NoneBelow (λ j. has_key (slot_at t j) key1 key2)

-- ---- it compares a word of each slot: the second key word, or the first
abbrev pub comparing : ℕ → ℤ → KeyWord
comparing place number = record { place = place; number = number }

abbrev pub IsKeyWord : KeyWord → ℤ → ℤ → Type 0
IsKeyWord c key1 key2 = (c ≡ comparing key2_place key2) ⊎ (c ≡ comparing key1_place key1)

-- a slot has another word there
abbrev pub Apart : List ℤ → ℕ → KeyWord → Type 0
Apart t k c = eq_z (word t (k * slot_words + c.place)) c.number ≡ false
