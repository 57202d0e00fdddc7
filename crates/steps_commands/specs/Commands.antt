-- What a line asks: a letter and its numbers, fields parted by one space. Anything else is a bad line, which asks nothing.
-- RULES.md, The program steps. Assumes nothing.
use Rattle.std.specs.Prelude.{Bool, false, cond, List, [], ◌∷◌, ℕ, zero, suc, eqb, ℤ, pos, get_or, Option, Some, None, option_map, option_and_then}
use Rattle.std.specs.List.{slice_split}
use Rattle.steps_commands.specs.declared.Command.{Command}
use Rattle.steps_commands.specs.declared.Command.TheVariants.{Begin, Commit, Put, Delete, Read}
use Rattle.steps_commands.specs.Numerals.{number_of}

-- the byte ' '
abbrev pub space_byte : ℕ
space_byte = 32

-- the fields of a line: what stands before, between and after its spaces
unfoldable pub fields : List ℕ → List (List ℕ)
fields line = slice_split (λ b. eqb b space_byte) line

-- the numbers of so many fields and no more, where each is a number
unfoldable pub numbers_of : ℕ → List (List ℕ) → Option (List ℤ)
numbers_of zero [] = Some []
numbers_of zero (f ∷ fs) = None
numbers_of (suc count) [] = None
numbers_of (suc count) (f ∷ fs) = option_and_then (λ z. option_map (λ zs. z ∷ zs) (numbers_of count fs)) (number_of f)

-- the first field is one letter
abbrev pub is_letter : ℕ → List ℕ → Bool
is_letter letter [] = false
is_letter letter (b ∷ []) = eqb b letter
is_letter letter (b ∷ c ∷ bs) = false

abbrev pub number : List ℤ → ℕ → ℤ
number numbers k = get_or numbers k (pos 0)

-- the letter, and so many numbers after it: B begin; C commit; P, two keys and two totals; D, two keys; R, session and two keys
abbrev pub command_of : List (List ℕ) → Option Command
command_of [] = None
command_of (f ∷ fs) =
    cond (is_letter 66 f) (option_map (λ n. Begin) (numbers_of 0 fs))
    (cond (is_letter 67 f) (option_map (λ n. Commit) (numbers_of 0 fs))
    (cond (is_letter 80 f) (option_map (λ n. Put (number n 0) (number n 1) (number n 2) (number n 3)) (numbers_of 4 fs))
    (cond (is_letter 68 f) (option_map (λ n. Delete (number n 0) (number n 1)) (numbers_of 2 fs))
    (cond (is_letter 82 f) (option_map (λ n. Read (number n 0) (number n 1) (number n 2)) (numbers_of 3 fs))
    None))))

unfoldable pub asked : List ℕ → Option Command
asked line = command_of (fields line)
