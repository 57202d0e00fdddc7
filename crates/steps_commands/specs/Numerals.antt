-- A number in a line: an optional minus and 1 to 19 decimal digits, within signed 64 bits. RULES.md, The program steps. Assumes
-- nothing.
use Rattle.std.specs.Prelude.{Bool, cond, ◌&&◌, List, [], ◌∷◌, ℕ, ◌+◌, ◌*◌, ◌-◌, eqb, ltb, leb, pos, neg_ℤ, ℤ, length, Option, Some, None, option_and_then, fold}
use Rattle.std.specs.List.{list_all}
use Rattle.std.specs.Char.{is_ascii_digit}

-- the bytes '-' and '0'
abbrev pub minus_byte : ℕ
minus_byte = 45

abbrev pub zero_byte : ℕ
zero_byte = 48

-- 19 decimal digits at most
abbrev pub most_digits : ℕ
most_digits = 19

-- 2^63
abbrev pub signed_limit : ℕ
signed_limit = 9223372036854775808

abbrev pub all_digits : List ℕ → Bool
all_digits bs = list_all is_ascii_digit bs

-- the number that digits make after those that made n
abbrev pub decimal_from : ℕ → List ℕ → ℕ
decimal_from n bs = fold (λ m b. m * 10 + (b - zero_byte)) n bs

-- 1 to 19 decimal digits, and the number that they make
abbrev pub few_digits : List ℕ → Bool
few_digits bs = leb 1 (length bs) && leb (length bs) most_digits && all_digits bs

unfoldable pub digits_of : List ℕ → Option ℕ
digits_of bs = cond (few_digits bs) (Some (decimal_from 0 bs)) None

-- within signed 64 bits: below 2^63, and with a minus at most 2^63
abbrev pub unsigned_of : List ℕ → Option ℤ
unsigned_of bs = option_and_then (λ n. cond (ltb n signed_limit) (Some (pos n)) None) (digits_of bs)

abbrev pub minus_of : List ℕ → Option ℤ
minus_of bs = option_and_then (λ n. cond (leb n signed_limit) (Some (neg_ℤ (pos n))) None) (digits_of bs)

-- an optional minus, and those; nothing else is a number
unfoldable pub number_of : List ℕ → Option ℤ
number_of [] = None
number_of (b ∷ bs) = cond (eqb b minus_byte) (minus_of bs) (unsigned_of (b ∷ bs))
