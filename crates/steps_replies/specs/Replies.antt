-- The line that answers a line: a word and its numbers, a space before each, and a newline. RULES.md, The program steps. Assumes
-- nothing.
use Rattle.std.specs.Prelude.{List, [], ◌∷◌, ◌++◌, ℕ, ℤ, pos, Option, Some, None, Result, Ok, Err, codes, flat_map}
use Rattle.std.specs.Fmt.{signed_decimal}
use Rattle.refusals.specs.declared.Refusal.{Refusal}
use Rattle.refusals.specs.Refusals.{number}
use Rattle.reads.specs.declared.Row.{Row}
use Rattle.steps_commands.specs.Commands.{space_byte}

abbrev pub newline_byte : ℕ
newline_byte = 10

-- numbers by how each is written
abbrev pub line_by : {A : Type 0} → (A → List ℕ) → List ℕ → List A → List ℕ
line_by text word numbers = word ++ flat_map (λ n. space_byte ∷ text n) numbers ++ (newline_byte ∷ [])

-- a number is written in decimal digits, a minus before them if it is below 0
abbrev pub line_of : List ℕ → List ℤ → List ℕ
line_of word numbers = line_by signed_decimal word numbers

-- B and C print version and the number
abbrev pub version_line : ℤ → List ℕ
version_line n = line_of (codes "version") (n ∷ [])

-- P and D print slot and its number
abbrev pub slot_line : ℕ → List ℕ
slot_line k = line_of (codes "slot") (pos k ∷ [])

-- R prints row and two totals, or none
abbrev pub row_line : Option Row → List ℕ
row_line (Some row) = line_of (codes "row") (row.total1 ∷ row.total2 ∷ [])
row_line None = line_of (codes "none") []

-- a refusal prints refused and its number
abbrev pub refused_line : Refusal → List ℕ
refused_line refusal = line_of (codes "refused") (pos (number refusal) ∷ [])

abbrev pub answer_line : {A : Type 0} → (A → List ℕ) → Result A Refusal → List ℕ
answer_line line (Ok answer) = line answer
answer_line line (Err refusal) = refused_line refusal

-- anything else prints bad line
abbrev pub bad_line : List ℕ
bad_line = line_of (codes "bad line") []
