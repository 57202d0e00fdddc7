-- Block k from 1: the slots of the table that it holds, which of its words a load does not allow, and the table that its slots
-- are written to. Only this crate unfolds them. RULES.md, Blocks. Assumes nothing.
use Rattle.std.specs.Prelude.{◌≡◌, Bool, false, cond, not, List, [], ◌∷◌, ℕ, zero, suc, ◌+◌, ◌*◌, ◌-◌, ◌/◌, ◌≤◌, eqb, ltb, ℤ}
use Rattle.laws.specs.Tests.{any}
use Rattle.laws.specs.Lowest.{some}
use Rattle.versions.specs.declared.VersionRecord.{VersionRecord}
use Rattle.table.specs.Slots.{bad_table, slots, put_slot}
use Rattle.table_forms.specs.Formed.{all_zeros, broken}
use Rattle.blocks_words.specs.Words.{number_place, word_at, nonzero}
use Rattle.blocks_words.specs.Longs.{block_slots, block_slot}

-- slots / 7 rounded up
abbrev pub blocks : List ℤ → ℕ
blocks t = (slots t + (block_slots - 1)) / block_slots

-- block k holds seven slots, from slot 7 × (k − 1)
abbrev pub first_slot : ℕ → ℕ
first_slot k = block_slots * (k - 1)

-- words 113 to 126 are zero
abbrev pub slot_filler_place : ℕ
slot_filler_place = 113

abbrev pub slot_filler_words : ℕ
slot_filler_words = 14

-- a block of a table: what code below the tests requires
pub record Within (t : List ℤ) (k : ℕ) : Type 0 where
  pub sound : bad_table t ≡ false
  pub low : 1 ≤ k
  pub high : k ≤ blocks t

-- a slot of the table is not well formed; one beyond it is not zero
abbrev pub slot_wrong : List ℤ → VersionRecord → ℕ → List ℕ → ℕ → Bool
slot_wrong t v k block j =
    cond (ltb (first_slot k + j) (slots t)) (broken (block_slot block j) v) (not (all_zeros (block_slot block j)))

-- 16: wrong word 0, a nonzero filler, a slot not well formed
unfoldable pub slot_block_wrong : List ℤ → VersionRecord → ℕ → List ℕ → Bool
slot_block_wrong t v k block =
    any (not (eqb (word_at block number_place) k)
    ∷ nonzero block slot_filler_place slot_filler_words
    ∷ some (slot_wrong t v k block) block_slots
    ∷ [])

-- the table with the first n slots of a block written; those beyond the table are not
unfoldable pub loaded_to : List ℤ → ℕ → List ℕ → ℕ → List ℤ
loaded_to t k block zero = t
loaded_to t k block (suc n) =
    cond (ltb (first_slot k + n) (slots t))
    (put_slot (loaded_to t k block n) (first_slot k + n) (block_slot block n))
    (loaded_to t k block n)

-- a table with one slot of a block written, if it is not beyond the table
abbrev pub slot_loaded : List ℤ → ℕ → List ℕ → ℕ → List ℤ
slot_loaded u k block n = cond (ltb (first_slot k + n) (slots u)) (put_slot u (first_slot k + n) (block_slot block n)) u
