-- A line written behind those that wait in a text of any size, where there is room for the longest; what waits then is one text.
-- Assumes nothing.
use Rattle.std.specs.Prelude.{◌≡◌, Bool, cond, List, ◌++◌, ℕ, ◌+◌, leb, length}
use Rattle.std.proofs.Common.{sym, ◌∙◌}
use Rattle.steps_replies.specs.Written.{longest_line}

-- a text of so many bytes has room
abbrev pub has_room : ℕ → List ℕ → Bool
has_room bytes text = leb (length text + longest_line) bytes

-- without room nothing is written
unfoldable pub written : ℕ → List ℕ → List ℕ → List ℕ
written bytes text line = cond (has_room bytes text) (text ++ line) text

-- the contract is an equation with it, so it allows one outcome
pub one_outcome : (bytes : ℕ) (text line : List ℕ) {out out' : List ℕ} → out ≡ written bytes text line → out' ≡ written bytes text line → out ≡ out'
one_outcome bytes text line x y = x ∙ sym y
