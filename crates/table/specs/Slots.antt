-- The table as slots: how many there are, refusal 1, the slot at a place, and a slot put at a place. Only this crate unfolds
-- `bad_table`, `slot_at` and `put_slot`. RULES.md, The table and its slots. Assumes nothing.
use Rattle.std.specs.Prelude.{Bool, not, List, [], ◌∷◌, ℕ, ◌+◌, ◌*◌, ◌/◌, ◌%◌, ltb, eqb, ℤ, pos, length, get_or, replicate}
use Rattle.std.proofs.lemmas.List.Edits.{sets}
use Rattle.laws.specs.Tests.{any}
use Rattle.table.specs.declared.Slot.{Slot}

-- eight words to a slot
abbrev pub slot_words : ℕ
slot_words = 8

-- at most 1,024 slots
abbrev pub most_slots : ℕ
most_slots = 1024

-- the number of slots
abbrev pub slots : List ℤ → ℕ
slots t = length t / slot_words

-- 1: table length is 0, not a multiple of 8, or above 8,192 words
unfoldable pub bad_table : List ℤ → Bool
bad_table t =
    any (eqb (length t) 0
    ∷ not (eqb (length t % slot_words) 0)
    ∷ ltb (most_slots * slot_words) (length t)
    ∷ [])

-- a fresh table is all zeros
abbrev pub fresh_table : ℕ → List ℤ
fresh_table n = replicate (n * slot_words) (pos 0)

-- the words of a slot: run number, operation, key one, key two, current total one and two, old total one and two
abbrev pub words_of : Slot → List ℤ
words_of x = x.run ∷ x.operation ∷ x.key1 ∷ x.key2 ∷ x.current1 ∷ x.current2 ∷ x.old1 ∷ x.old2 ∷ []

-- all zeros
abbrev pub empty : Slot
empty = record { run = pos 0; operation = pos 0; key1 = pos 0; key2 = pos 0; current1 = pos 0; current2 = pos 0; old1 = pos 0; old2 = pos 0 }

-- the word at a place, 0 past the end
abbrev pub word : List ℤ → ℕ → ℤ
word t i = get_or t i (pos 0)

-- the places of the words in a slot
abbrev pub run_place : ℕ
run_place = 0

abbrev pub operation_place : ℕ
operation_place = 1

abbrev pub key1_place : ℕ
key1_place = 2

abbrev pub key2_place : ℕ
key2_place = 3

abbrev pub current1_place : ℕ
current1_place = 4

abbrev pub current2_place : ℕ
current2_place = 5

abbrev pub old1_place : ℕ
old1_place = 6

abbrev pub old2_place : ℕ
old2_place = 7

-- the slot whose words begin at a word
abbrev pub slot_from : List ℤ → ℕ → Slot
slot_from t i = record {
  run = word t (i + run_place);
  operation = word t (i + operation_place);
  key1 = word t (i + key1_place);
  key2 = word t (i + key2_place);
  current1 = word t (i + current1_place);
  current2 = word t (i + current2_place);
  old1 = word t (i + old1_place);
  old2 = word t (i + old2_place);
}

-- the slot at a place, empty past the end
unfoldable pub slot_at : List ℤ → ℕ → Slot
slot_at t k = slot_from t (k * slot_words)

-- a table with another slot at a place
unfoldable pub put_slot : List ℤ → ℕ → Slot → List ℤ
put_slot t k x = sets t (k * slot_words) (words_of x)
