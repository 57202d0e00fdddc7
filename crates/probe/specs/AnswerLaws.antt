-- An answer's numbers among eight are those of RULES.md: a refusal's zeros stand whether they are counted or filled up. Assumes nothing.
use Rattle.std.specs.Prelude.{◌≡◌, refl, ℕ, ℤ, Option, Some, None, Result, Ok, Err}
use Rattle.refusals.specs.declared.Refusal.{Refusal}
use Rattle.reads.specs.declared.Row.{Row}
use Rattle.reads_roll_up.specs.declared.Sums.{Sums}
use Rattle.blocks.specs.declared.Header.{Header}
use Rattle.changes_rows.specs.PlacedNumbers.{Numbers, slot, refusal}
use Rattle.calls.specs.Numbers.{of_numbered, of_seen, of_rolled, of_placed, of_header, of_done}
use Rattle.probe.specs.Probed.{padded}
use Rattle.probe.specs.Answers.{Fits, IsSlot, answered, version_numbers, slot_numbers, row_numbers, sums_numbers, header_numbers, no_numbers}

pub numbered_padded : (r : Result ℤ Refusal) → padded (answered version_numbers r) ≡ padded (of_numbered r)
numbered_padded (Ok n) = refl
numbered_padded (Err e) = refl

pub seen_padded : (r : Result (Option Row) Refusal) → padded (answered row_numbers r) ≡ padded (of_seen r)
seen_padded (Ok (Some x)) = refl
seen_padded (Ok None) = refl
seen_padded (Err e) = refl

pub rolled_padded : (r : Result Sums Refusal) → padded (answered sums_numbers r) ≡ padded (of_rolled r)
rolled_padded (Ok x) = refl
rolled_padded (Err e) = refl

pub placed_padded : (r : Result ℕ Refusal) → padded (answered slot_numbers r) ≡ padded (of_placed r)
placed_padded (Ok k) = refl
placed_padded (Err e) = refl

pub header_padded : (r : Result Header Refusal) → padded (answered header_numbers r) ≡ padded (of_header r)
header_padded (Ok x) = refl
header_padded (Err e) = refl

pub done_padded : (r : Result (Unit {0}) Refusal) → padded (answered no_numbers r) ≡ padded (of_done r)
done_padded (Ok x) = refl
done_padded (Err e) = refl

-- what a change answers is the number of a slot that a table can have, or a refusal
pub numbers_fit : {r : Result ℕ Refusal} → Numbers r → Fits IsSlot r
numbers_fit (slot l) = l
numbers_fit refusal = tt
