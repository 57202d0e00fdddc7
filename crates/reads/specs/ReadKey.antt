-- Read a key: its refusals in the order of RULES.md (The order of tests), its answer, and the contract that says so. Assumes
-- nothing.
use Rattle.std.specs.Prelude.{◌≡◌, Bool, List, [], ◌∷◌, ◌++◌, ℤ, Option, Result}
use Rattle.std.proofs.Common.{sym, ◌∙◌}
use Rattle.refusals.specs.declared.Refusal.{Refusal}
use Rattle.refusals.specs.declared.Refusal.TheVariants as refusal
use Rattle.laws.specs.First.{first, unless}
use Rattle.versions.specs.declared.VersionRecord.{VersionRecord}
use Rattle.table_forms.specs.Formed.{broken}
use Rattle.table_keys.specs.Keys.{keyed}
use Rattle.reads.specs.declared.Row.{Row}
use Rattle.reads.specs.Table1.{shown}
use Rattle.reads.specs.SessionTests.{session_tests}

-- Read a key: 1, 2, 3, 4, 6. For a key read refusal 6 looks at the key's slot only
abbrev pub read_key_tests : List ℤ → VersionRecord → ℤ → ℤ → ℤ → List (Bool × Refusal)
read_key_tests t v s key1 key2 = session_tests t v s ++ (broken (keyed t key1 key2) v, refusal.BrokenSlot) ∷ []

unfoldable pub read_key_refusal : List ℤ → VersionRecord → ℤ → ℤ → ℤ → Option Refusal
read_key_refusal t v s key1 key2 = first (read_key_tests t v s key1 key2)

-- what the session sees of the key's slot; an absent key's is the empty slot, and is no row
unfoldable pub read_key_answer : List ℤ → VersionRecord → ℤ → ℤ → ℤ → Result (Option Row) Refusal
read_key_answer t v s key1 key2 = unless (read_key_refusal t v s key1 key2) (shown s (keyed t key1 key2))

-- the contract, and that it allows one outcome
pub record ReadKeyContract (t : List ℤ) (v : VersionRecord) (s key1 key2 : ℤ) (r : Result (Option Row) Refusal) : Type 0 where
  pub answer : r ≡ read_key_answer t v s key1 key2

pub one_outcome : {t : List ℤ} {v : VersionRecord} {s key1 key2 : ℤ} {r r' : Result (Option Row) Refusal} → ReadKeyContract t v s key1 key2 r → ReadKeyContract t v s key1 key2 r' → r ≡ r'
one_outcome a b = a.answer ∙ sym b.answer
