-- The numbers of each answer, after the 0 that says that nothing was refused. Assumes nothing.
use Rattle.std.specs.Prelude.{List, [], ◌∷◌, ℕ, ◌<◌, ℤ, pos, Option, Some, None, Result, Ok, Err}
use Rattle.refusals.specs.declared.Refusal.{Refusal}
use Rattle.refusals.specs.Refusals.{number}
use Rattle.table.specs.Slots.{most_slots}
use Rattle.reads.specs.declared.Row.{Row}
use Rattle.reads_roll_up.specs.declared.Sums.{Sums}
use Rattle.blocks.specs.declared.Header.{Header}

abbrev pub version_numbers : ℤ → List ℤ
version_numbers n = n ∷ []

abbrev pub slot_numbers : ℕ → List ℤ
slot_numbers k = pos k ∷ []

abbrev pub row_numbers : Option Row → List ℤ
row_numbers (Some x) = pos 1 ∷ x.key1 ∷ x.key2 ∷ x.total1 ∷ x.total2 ∷ []
row_numbers None = []

abbrev pub sums_numbers : Sums → List ℤ
sums_numbers x = pos x.rows ∷ pos x.reported1 ∷ pos x.reported2 ∷ x.sum1 ∷ x.sum2 ∷ []

abbrev pub header_numbers : Header → List ℤ
header_numbers x = pos x.slots ∷ x.current ∷ x.oldest ∷ []

abbrev pub no_numbers : Unit {0} → List ℤ
no_numbers x = []

-- an answer: 0 and its numbers, or the refusal's
abbrev pub answered : {A : Type 0} → (A → List ℤ) → Result A Refusal → List ℤ
answered numbers (Ok x) = pos 0 ∷ numbers x
answered numbers (Err e) = pos (number e) ∷ []

-- what an answer has to be for its numbers to be words: of a slot, one that a table can have
abbrev pub Always : {A : Type 0} → A → Type 0
Always x = Unit {0}

abbrev pub IsSlot : ℕ → Type 0
IsSlot k = k < most_slots

abbrev pub Fits : {A : Type 0} → (A → Type 0) → Result A Refusal → Type 0
Fits fits (Ok x) = fits x
Fits fits (Err e) = Unit {0}
