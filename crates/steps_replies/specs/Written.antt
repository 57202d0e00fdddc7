-- A line written into a lent buffer: it stands there from a place on, if there is room for the longest line, and every other
-- byte stays. Assumes nothing.
use Rattle.std.specs.Prelude.{◌≡◌, Bool, cond, List, ℕ, ◌+◌, ◌≤◌, leb, length}
use Rattle.std.proofs.Common.{sym, ◌∙◌}
use Rattle.std.proofs.lemmas.List.Edits.{sets}

-- row, and two numbers of 20 bytes, a space before each, and a newline
abbrev pub longest_line : ℕ
longest_line = 46

-- so many bytes of lines wait at most in the program
abbrev pub reply_bytes : ℕ
reply_bytes = 65536

abbrev pub has_room : List ℕ → ℕ → Bool
has_room buffer place = leb (place + longest_line) (length buffer)

-- without room nothing is written
unfoldable pub buffer_after : List ℕ → ℕ → List ℕ → List ℕ
buffer_after buffer place line = cond (has_room buffer place) (sets buffer place line) buffer

-- and the place itself is answered, else the place after the line
unfoldable pub place_after : List ℕ → ℕ → List ℕ → ℕ
place_after buffer place line = cond (has_room buffer place) (place + length line) place

-- the contract, and that it allows one outcome
pub record Written (buffer : List ℕ) (place : ℕ) (line : List ℕ) (r : ℕ) (buffer' : List ℕ) : Type 0 where
  pub answer : r ≡ place_after buffer place line
  pub bytes : buffer' ≡ buffer_after buffer place line
  -- a place in the buffer is followed by one
  pub within : place ≤ length buffer → r ≤ length buffer

pub one_outcome : {buffer : List ℕ} {place : ℕ} {line : List ℕ} {r r' : ℕ} {b b' : List ℕ}
    → Written buffer place line r b → Written buffer place line r' b' → (r ≡ r') × (b ≡ b')
one_outcome x y = (x.answer ∙ sym y.answer, x.bytes ∙ sym y.bytes)
