-- Roll-up: its refusals in the order of RULES.md (The order of tests), its answer, and the contract that says so. What is counted
-- and summed of a list of rows is `tally`, which knows no table. Assumes nothing.
use Rattle.std.specs.Prelude.{◌≡◌, Bool, cond, List, [], ◌∷◌, ◌++◌, ℕ, zero, suc, ℤ, pos, ◌+ℤ◌, Option, Some, None, Result}
use Rattle.std.proofs.Common.{sym, ◌∙◌}
use Rattle.refusals.specs.declared.Refusal.{Refusal}
use Rattle.refusals.specs.declared.Refusal.TheVariants as refusal
use Rattle.laws.specs.First.{first, unless}
use Rattle.laws.specs.Order.{eq_z}
use Rattle.versions.specs.declared.VersionRecord.{VersionRecord}
use Rattle.table.specs.Slots.{slots, slot_at}
use Rattle.table_forms.specs.Totals.{reported}
use Rattle.table_forms.specs.Formed.{any_broken}
use Rattle.reads.specs.declared.Row.{Row}
use Rattle.reads_roll_up.specs.declared.Sums.{Sums}
use Rattle.reads_roll_up.specs.declared.Reported.{Reported}
use Rattle.reads_roll_up.specs.declared.Tally.{Tally}
use Rattle.reads.specs.Table1.{shown}
use Rattle.reads.specs.SessionTests.{session_tests}

-- of a total, how many rows reported it and the sum of what they reported: a total more counts and is added if it is reported
abbrev pub with_total : ℤ → Reported → Reported
with_total z n = cond (reported z) (record { rows = suc n.rows; sum = n.sum +ℤ z }) n

-- no row so far: of each total none reported, and the sum 0
abbrev pub nothing : Tally
nothing = record { rows = 0; total1 = record { rows = 0; sum = pos 0 }; total2 = record { rows = 0; sum = pos 0 } }

-- a row more: it counts, whether it reported or not
abbrev pub counted : ℤ → ℤ → Tally → Tally
counted a b n = record { rows = suc n.rows; total1 = with_total a n.total1; total2 = with_total b n.total2 }

-- a row with that first key word counts, and nothing else does
abbrev pub tallied : ℤ → Option Row → Tally → Tally
tallied key1 (Some x) n = cond (eq_z x.key1 key1) (counted x.total1 x.total2 n) n
tallied key1 None n = n

-- what the rows of a list come to
abbrev pub tally : ℤ → List (Option Row) → Tally
tally key1 [] = nothing
tally key1 (x ∷ l) = tallied key1 x (tally key1 l)

-- what a session sees of the first n slots, the last of them first
abbrev pub seen : List ℤ → ℤ → ℕ → List (Option Row)
seen t s zero = []
seen t s (suc n) = shown s (slot_at t n) ∷ seen t s n

-- Roll-up: 1, 2, 3, 4, 6 (any slot)
abbrev pub roll_up_tests : List ℤ → VersionRecord → ℤ → List (Bool × Refusal)
roll_up_tests t v s = session_tests t v s ++ (any_broken t v, refusal.BrokenSlot) ∷ []

unfoldable pub roll_up_refusal : List ℤ → VersionRecord → ℤ → Option Refusal
roll_up_refusal t v s = first (roll_up_tests t v s)

-- the count of visible rows with that word, how many of them reported each total, and the exact sums of what they reported
abbrev pub sums : Tally → Sums
sums n = record { rows = n.rows; reported1 = n.total1.rows; reported2 = n.total2.rows; sum1 = n.total1.sum; sum2 = n.total2.sum }

unfoldable pub roll_up_answer : List ℤ → VersionRecord → ℤ → ℤ → Result Sums Refusal
roll_up_answer t v s key1 = unless (roll_up_refusal t v s) (sums (tally key1 (seen t s (slots t))))

-- the contract, and that it allows one outcome
pub record RollUpContract (t : List ℤ) (v : VersionRecord) (s key1 : ℤ) (r : Result Sums Refusal) : Type 0 where
  pub answer : r ≡ roll_up_answer t v s key1

pub one_outcome : {t : List ℤ} {v : VersionRecord} {s key1 : ℤ} {r r' : Result Sums Refusal} → RollUpContract t v s key1 r → RollUpContract t v s key1 r' → r ≡ r'
one_outcome a b = a.answer ∙ sym b.answer
