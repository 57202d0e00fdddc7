-- Load header: its refusals in the order of RULES.md (The order of tests), its answer, and the contract that says so. Assumes
-- nothing.
use Rattle.std.specs.Prelude.{◌≡◌, Bool, List, ℕ, pos, Option, Result}
use Rattle.std.proofs.Common.{sym, ◌∙◌}
use Rattle.refusals.specs.declared.Refusal.{Refusal}
use Rattle.laws.specs.First.{first, unless}
use Rattle.blocks_words.specs.Words.{word_at}
use Rattle.blocks_headers.specs.HeaderFields.{slots_place, current_place, oldest_place, oldest_of, header_wrong}
use Rattle.blocks.specs.declared.Header.{Header}
use Rattle.blocks.specs.BlockTests.{end_tests}

-- Load header: 14, 15, 16
abbrev pub load_header_tests : List ℕ → List (Bool × Refusal)
load_header_tests block = end_tests block (header_wrong block)

unfoldable pub load_header_refusal : List ℕ → Option Refusal
load_header_refusal block = first (load_header_tests block)

-- slots, current and oldest, of a header's words
unfoldable pub header_of : List ℕ → Header
header_of block =
    let current = pos (word_at block current_place) in
    record { slots = word_at block slots_place; current = current; oldest = oldest_of current (pos (word_at block oldest_place)) }

-- load header answers slots, current and oldest
unfoldable pub load_header_answer : List ℕ → Result Header Refusal
load_header_answer block = unless (load_header_refusal block) (header_of block)

-- the contract, and that it allows one outcome
pub record LoadHeaderContract (block : List ℕ) (r : Result Header Refusal) : Type 0 where
  pub answer : r ≡ load_header_answer block

pub one_outcome : {block : List ℕ} {r r' : Result Header Refusal} → LoadHeaderContract block r → LoadHeaderContract block r' → r ≡ r'
one_outcome a b = a.answer ∙ sym b.answer
