-- A key's slot, and live keys. Only this crate unfolds `has_key` and `key_slot`; how the search goes is nobody else's. RULES.md,
-- The table and its slots. Assumes nothing.
use Rattle.std.specs.Prelude.{Bool, not, List, [], ◌∷◌, ℕ, ℤ}
use Rattle.laws.specs.Tests.{all}
use Rattle.laws.specs.Order.{eq_z}
use Rattle.laws.specs.Lowest.{lowest}
use Rattle.table.specs.declared.Slot.{Slot}
use Rattle.table.specs.Slots.{slots, slot_at}
use Rattle.table_forms.specs.Operations.{empty_operation, live}

-- its operation word isn't 0 and its two key words match
unfoldable pub has_key : Slot → ℤ → ℤ → Bool
has_key x key1 key2 = all (not (eq_z x.operation empty_operation) ∷ eq_z x.key1 key1 ∷ eq_z x.key2 key2 ∷ [])

-- a key's slot is the lowest such slot: its number, or the number of slots where the key has none
unfoldable pub key_slot : List ℤ → ℤ → ℤ → ℕ
key_slot t key1 key2 = lowest (λ k. has_key (slot_at t k) key1 key2) (slots t)

-- the slot itself; the empty slot where the key has none
abbrev pub keyed : List ℤ → ℤ → ℤ → Slot
keyed t key1 key2 = slot_at t (key_slot t key1 key2)

-- a key is live if that slot's operation is 1 or 2
abbrev pub key_live : List ℤ → ℤ → ℤ → Bool
key_live t key1 key2 = live (keyed t key1 key2)
