-- Read a slot: its refusals in the order of RULES.md (The order of tests), its answer, and the contract that says so. Assumes
-- nothing.
use Rattle.std.specs.Prelude.{◌≡◌, Bool, not, List, [], ◌∷◌, ◌++◌, ℕ, ltb, ℤ, Option, Result}
use Rattle.std.proofs.Common.{sym, ◌∙◌}
use Rattle.refusals.specs.declared.Refusal.{Refusal}
use Rattle.refusals.specs.declared.Refusal.TheVariants as refusal
use Rattle.laws.specs.First.{first, unless}
use Rattle.versions.specs.declared.VersionRecord.{VersionRecord}
use Rattle.table.specs.Slots.{slots, slot_at}
use Rattle.table_forms.specs.Formed.{broken}
use Rattle.reads.specs.declared.Row.{Row}
use Rattle.reads.specs.Table1.{shown}
use Rattle.reads.specs.SessionTests.{session_tests}

-- 5: slot number not below the slots
abbrev pub no_such_slot : List ℤ → ℕ → Bool
no_such_slot t k = not (ltb k (slots t))

-- Read a slot: 1, 2, 3, 4, 5, 6
abbrev pub read_slot_tests : List ℤ → VersionRecord → ℤ → ℕ → List (Bool × Refusal)
read_slot_tests t v s k = session_tests t v s ++ (no_such_slot t k, refusal.NoSuchPlace) ∷ (broken (slot_at t k) v, refusal.BrokenSlot) ∷ []

unfoldable pub read_slot_refusal : List ℤ → VersionRecord → ℤ → ℕ → Option Refusal
read_slot_refusal t v s k = first (read_slot_tests t v s k)

-- what the session sees of the slot
unfoldable pub read_slot_answer : List ℤ → VersionRecord → ℤ → ℕ → Result (Option Row) Refusal
read_slot_answer t v s k = unless (read_slot_refusal t v s k) (shown s (slot_at t k))

-- the contract, and that it allows one outcome
pub record ReadSlotContract (t : List ℤ) (v : VersionRecord) (s : ℤ) (k : ℕ) (r : Result (Option Row) Refusal) : Type 0 where
  pub answer : r ≡ read_slot_answer t v s k

pub one_outcome : {t : List ℤ} {v : VersionRecord} {s : ℤ} {k : ℕ} {r r' : Result (Option Row) Refusal} → ReadSlotContract t v s k r → ReadSlotContract t v s k r' → r ≡ r'
one_outcome a b = a.answer ∙ sym b.answer
