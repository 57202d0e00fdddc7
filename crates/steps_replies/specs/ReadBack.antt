-- A number that is written is read back: for every z of 64 signed bits its decimal digits, with a minus if it is below 0, are the
-- number z. Assumes nothing.
use Rattle.std.specs.Prelude.{◌≡◌, refl, true, List, [], ◌∷◌, ◌++◌, ℕ, suc, ◌+◌, ◌*◌, ◌-◌, ◌<◌, ◌^◌, ℤ, pos, negsuc, get_or, Some}
use Rattle.std.proofs.Common.{ap, ◌∙◌, arith, rules, lt-ltb, le-leb, SFits}
use Rattle.std.proofs.lemmas.Fmt.{digits_decimal, digits_value-decimal, decimal_nonempty, length-decimal-le, decimal_is_IsNumeral}
use Rattle.std.proofs.lemmas.List.Sums.{fold-append}
use Rattle.std.proofs.lemmas.Str.Parse.{IsNumeralModel, numerals_by_fold, digit_at}
use Rattle.std.specs.Fmt.{decimal, signed_decimal}
use Rattle.std.specs.Int.{w64}
use Rattle.steps_commands.specs.Numerals.{minus_byte, zero_byte, signed_limit, all_digits, decimal_from, digits_of, number_of}
use Rattle.steps_commands.specs.NumeralLaws.{digits_make, minus_field, plain_field}

-- a digit more at the end: ten times the number, and the digit
pub last_number : (n : ℕ) (bs : List ℕ) (b : ℕ) → decimal_from n (bs ++ (b ∷ [])) ≡ decimal_from n bs * 10 + (b - zero_byte)
last_number n bs b = fold-append _ n bs (b ∷ [])

own : IsNumeralModel (λ bs. all_digits bs ≡ true) (decimal_from 0)
own = numerals_by_fold _ (search rules) decimal_from (search rules)

-- the digits of a number make it
digits_made : (n : ℕ) → n < 10 ^ 19 → digits_of (decimal n) ≡ Some n
digits_made n l =
    digits_make (decimal n) (decimal_nonempty n (omega arith)) (length-decimal-le 19 n (omega arith) l (omega arith)) (digits_decimal own n (omega arith))
    ∙ ap Some (digits_value-decimal own n (omega arith))

no_minus : (n : ℕ) → n < 10 ^ 19 → get_or (decimal n) 0 0 ≡ minus_byte → ⊥
no_minus n l e =
    let d = (decimal_is_IsNumeral n (omega arith)).0 in
    omega (arith, e, digit_at (decimal n) 0 d.1 d.0)

pub read_back : (z : ℤ) → SFits w64 z → number_of (signed_decimal z) ≡ Some z
read_back (pos n) f =
    let l : n < 10 ^ 19 = omega (arith, f.sfits) in
    plain_field (decimal n) (no_minus n l) ∙ simp (digits_made n l, lt-ltb n signed_limit f.sfits)
read_back (negsuc n) f =
    let l : suc n < 10 ^ 19 = omega (arith, f.sfits) in
    minus_field (signed_decimal (negsuc n)) refl ∙ simp (digits_made (suc n) l, le-leb (suc n) signed_limit f.sfits)
