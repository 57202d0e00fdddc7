-- A line past the longest command asks nothing, so its first 86 bytes tell what it asks. A field past 20 bytes is no number, so
-- a number with its space is at most 21 bytes. Assumes nothing.
use Rattle.std.specs.Prelude.{◌≡◌, refl, List, [], ◌∷◌, ℕ, zero, suc, ◌+◌, ◌*◌, ◌≤◌, ◌<◌, eqb, leb, ℤ, length, get_or, take, drop, Option, Some, None, option_map, option_and_then}
use Rattle.std.proofs.Common.{sym, ◌∙◌, arith, length-drop, length-take-le, take_all, leb-true, leb-false, ne_eqb}
use Rattle.std.proofs.lemmas.Bool.{lt-leb}
use Rattle.std.proofs.lemmas.Int.{to_z-of_z}
use Rattle.std.proofs.Math.Bool.{and-false}
use Rattle.std.specs.List.{slice_split, onto_first}
use Rattle.laws.specs.TestLaws.{by_test, by_place}
use Rattle.steps_commands.specs.Numerals.{most_digits, digits_of, number_of}
use Rattle.steps_commands.specs.Commands.{space_byte, fields, numbers_of, command_of, asked}
use Rattle.steps_commands.specs.CommandLaws.{same, numbered, empty_line, begin_line, commit_line, other_letter, no_letter, no_space, put_line, delete_line, read_line, not_numbered}
use Rattle.steps_commands.specs.Longest.{longest_command, longest_number}

-- ---- a number
many_digits : (bs : List ℕ) → most_digits < length bs → digits_of bs ≡ None
unfolding digits_of
many_digits bs l = simp (lt-leb (length bs) most_digits l, and-false)

pub long_number : (bs : List ℕ) → longest_number < length bs → number_of bs ≡ None
unfolding number_of
long_number [] l = absurd (omega (arith, l))
long_number (b ∷ bs) l = simp (many_digits bs (omega (arith, l)), many_digits (b ∷ bs) (omega (arith, l)), same)

-- ---- so many numbers, each with the space that follows it or the end
abbrev spaced : List (List ℕ) → ℕ
spaced [] = 0
spaced (f ∷ fs) = length f + 1 + spaced fs

fields_spaced : (line : List ℕ) → spaced (fields line) ≡ length line + 1
unfolding fields
fields_spaced [] = refl
fields_spaced (b ∷ bs) =
    let more = fields_spaced bs in
    by_test (eqb b space_byte) (λ y. rw y (omega arith)) (λ n. rw n (joined (slice_split (λ c. eqb c space_byte) bs) more))
  where
    joined : (fs : List (List ℕ)) → spaced fs ≡ length bs + 1 → spaced (onto_first b fs) ≡ suc (length bs) + 1
    joined [] e = absurd (omega (arith, e))
    joined (f ∷ fs) e = omega (arith, e)

long_numbers : (count : ℕ) (fs : List (List ℕ)) → count * (longest_number + 1) < spaced fs → numbers_of count fs ≡ None
unfolding numbers_of
long_numbers zero [] l = absurd (omega (arith, l))
long_numbers zero (f ∷ fs) l = refl
long_numbers (suc count) [] l = refl
long_numbers (suc count) (f ∷ fs) l =
    by_test (leb (length f) longest_number)
    (λ y. rw (long_numbers count fs (omega (arith, l, leb-true (length f) longest_number y))) (none (number_of f)))
    (λ n. rw (long_number f (leb-false (length f) longest_number n)) refl)
  where
    none : (x : Option ℤ) → option_and_then (λ z. option_map (λ zs. z ∷ zs) None) x ≡ None
    none None = refl
    none (Some z) = refl

too_long : (count : ℕ) (line : List ℕ) → count * (longest_number + 1) ≤ length line → numbers_of count (fields line) ≡ None
too_long count line l = long_numbers count (fields line) (omega (arith, fields_spaced line))

-- ---- a line
pub long_line : (line : List ℕ) → longest_command < length line → asked line ≡ None
long_line line l =
    by_place (get_or line 1 0) space_byte
    (λ s. by_place (get_or line 0 0) space_byte
    (λ e. no_letter line (omega arith) e)
    (λ n. numbered line (get_or line 0 0) refl s (ne_eqb _ space_byte n) ∙ nothing (get_or line 0 0) (drop 2 line) (omega (arith, length-drop 2 line))))
    (λ n. no_space line (omega arith) n)
  where
    nothing : (letter : ℕ) (rest : List ℕ) → 84 ≤ length rest → command_of ((letter ∷ []) ∷ fields rest) ≡ None
    nothing letter rest l = simp (too_long 0 rest (omega arith), too_long 2 rest (omega arith), too_long 3 rest (omega arith), too_long 4 rest (omega arith), same)

-- a program may keep so many bytes of a line and one more, and no others
pub kept : (line : List ℕ) → asked (take (longest_command + 1) line) ≡ asked line
kept line =
    by_test (leb (length line) (longest_command + 1))
    (λ y. rw (take_all (longest_command + 1) line (leb-true _ _ y)) refl)
    (λ n. let l = leb-false (length line) (longest_command + 1) n in
    long_line (take (longest_command + 1) line) (omega (arith, length-take-le (longest_command + 1) line (omega arith))) ∙ sym (long_line line (omega arith)))

-- a line as the code tells it, by its length, its letter and the space after that
pub ruleset told_by = (to_z-of_z, long_line, empty_line, begin_line, commit_line, other_letter, no_space, put_line, delete_line, read_line, not_numbered)
