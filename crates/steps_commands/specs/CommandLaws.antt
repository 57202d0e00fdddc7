-- What a line asks, by its first two bytes: the letter, and a space before its numbers. Assumes nothing.
use Rattle.std.specs.Prelude.{◌≡◌, refl, Bool, true, false, cond, List, [], ◌∷◌, ℕ, ◌≤◌, ◌<◌, eqb, length, get_or, drop, None, Some, option_map}
use Rattle.std.proofs.Common.{◌∙◌, arith, ne_eqb}
use Rattle.std.specs.List.{slice_split, onto_first}
use Rattle.laws.specs.TestLaws.{by_test, by_place}
use Rattle.steps_commands.specs.declared.Command.TheVariants.{Begin, Commit, Put, Delete, Read}
use Rattle.steps_commands.specs.Commands.{space_byte, fields, numbers_of, number, command_of, asked}

-- a letter alone
bare : (line : List ℕ) (b : ℕ) → length line ≡ 1 → get_or line 0 0 ≡ b → eqb b space_byte ≡ false → asked line ≡ command_of ((b ∷ []) ∷ [])
unfolding asked fields
bare [] b n e h = absurd (omega (arith, n))
bare (x ∷ []) b n e h = rw (e, h) refl
bare (x ∷ y ∷ xs) b n e h = absurd (omega (arith, n))

pub begin_line : (line : List ℕ) → length line ≡ 1 → get_or line 0 0 ≡ 66 → asked line ≡ Some Begin
unfolding numbers_of
begin_line line n e = bare line 66 n e refl

pub commit_line : (line : List ℕ) → length line ≡ 1 → get_or line 0 0 ≡ 67 → asked line ≡ Some Commit
unfolding numbers_of
commit_line line n e = bare line 67 n e refl

-- a letter, and what follows the space after it
pub numbered : (line : List ℕ) (b : ℕ) → get_or line 0 0 ≡ b → get_or line 1 0 ≡ space_byte → eqb b space_byte ≡ false
    → asked line ≡ command_of ((b ∷ []) ∷ fields (drop 2 line))
unfolding asked fields
numbered [] b e s h = absurd (omega (arith, s))
numbered (x ∷ []) b e s h = absurd (omega (arith, s))
numbered (x ∷ y ∷ xs) b e s h = rw (e, s, h) refl

pub put_line : (line : List ℕ) → get_or line 0 0 ≡ 80 → get_or line 1 0 ≡ space_byte
    → asked line ≡ option_map (λ n. Put (number n 0) (number n 1) (number n 2) (number n 3)) (numbers_of 4 (fields (drop 2 line)))
put_line line e s = numbered line 80 e s refl

pub delete_line : (line : List ℕ) → get_or line 0 0 ≡ 68 → get_or line 1 0 ≡ space_byte
    → asked line ≡ option_map (λ n. Delete (number n 0) (number n 1)) (numbers_of 2 (fields (drop 2 line)))
delete_line line e s = numbered line 68 e s refl

pub read_line : (line : List ℕ) → get_or line 0 0 ≡ 82 → get_or line 1 0 ≡ space_byte
    → asked line ≡ option_map (λ n. Read (number n 0) (number n 1) (number n 2)) (numbers_of 3 (fields (drop 2 line)))
read_line line e s = numbered line 82 e s refl

-- ---- anything else
pub same : {A : Type 0} (t : Bool) (x : A) → cond t x x ≡ x
same true x = refl
same false x = refl

pub empty_line : (line : List ℕ) → length line < 1 → asked line ≡ None
unfolding asked fields
empty_line [] l = refl
empty_line (b ∷ bs) l = absurd (omega (arith, l))

pub other_letter : (line : List ℕ) → length line < 2 → (get_or line 0 0 ≡ 66 → ⊥) → (get_or line 0 0 ≡ 67 → ⊥) → asked line ≡ None
unfolding asked fields numbers_of
other_letter [] l b c = refl
other_letter (x ∷ []) l b c = by_test (eqb x space_byte) (λ y. rw y refl) (λ n. simp (n, ne_eqb x 66 b, ne_eqb x 67 c, same))
other_letter (x ∷ y ∷ xs) l b c = absurd (omega (arith, l))

-- there is a field after a space
after_space : (line : List ℕ) → numbers_of 0 (fields line) ≡ None
unfolding fields numbers_of
after_space [] = refl
after_space (b ∷ bs) = by_test (eqb b space_byte) (λ y. rw y refl) (λ n. rw n (joined (slice_split (λ c. eqb c space_byte) bs)))
  where
    joined : (fs : List (List ℕ)) → numbers_of 0 (onto_first b fs) ≡ None
    joined [] = refl
    joined (f ∷ fs) = refl

-- there is none before the space
pub no_letter : (line : List ℕ) → 2 ≤ length line → get_or line 0 0 ≡ space_byte → asked line ≡ None
unfolding asked fields
no_letter [] l e = refl
no_letter (x ∷ xs) l e = rw e refl

-- the letter is longer
pub no_space : (line : List ℕ) → 2 ≤ length line → (get_or line 1 0 ≡ space_byte → ⊥) → asked line ≡ None
unfolding asked fields
no_space [] l s = refl
no_space (x ∷ []) l s = absurd (omega (arith, l))
no_space (x ∷ y ∷ xs) l s = by_test (eqb x space_byte) (λ e. rw e refl) (λ n. rw (n, ne_eqb y space_byte s) (longer (slice_split (λ c. eqb c space_byte) xs)))
  where
    longer : (fs : List (List ℕ)) → command_of (onto_first x (onto_first y fs)) ≡ None
    longer [] = refl
    longer (f ∷ fs) = refl

-- the letter is not one that has numbers
pub not_numbered : (line : List ℕ) → 2 ≤ length line → (get_or line 0 0 ≡ 80 → ⊥) → (get_or line 0 0 ≡ 68 → ⊥) → (get_or line 0 0 ≡ 82 → ⊥)
    → asked line ≡ None
not_numbered line l p d r =
    by_place (get_or line 1 0) space_byte
    (λ s. by_place (get_or line 0 0) space_byte (λ e. no_letter line l e)
    (λ n. numbered line _ refl s (ne_eqb _ space_byte n)
    ∙ simp (after_space (drop 2 line), ne_eqb (get_or line 0 0) 80 p, ne_eqb (get_or line 0 0) 68 d, ne_eqb (get_or line 0 0) 82 r, same)))
    (λ n. no_space line l n)
