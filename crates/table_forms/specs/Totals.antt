-- Which totals are lawful, which are reported, and refusal 13. Only this crate unfolds the three; what is above uses the laws.
-- RULES.md, The table and its slots. Assumes nothing.
use Rattle.std.specs.Prelude.{Bool, not, ◌&&◌, ◌||◌, true, ℤ, pos, negsuc, ◌≡◌, ℕ}
use Rattle.laws.specs.Order.{eq_z, from_to}

-- a total is from −10^15 to 10^15,
abbrev pub lowest_total : ℤ
lowest_total = negsuc 999999999999999

abbrev pub highest_total : ℤ
highest_total = pos 1000000000000000

-- or −10^15 − 1, which says that it is not reported
abbrev pub not_reported : ℤ
not_reported = negsuc 1000000000000000

unfoldable pub lawful : ℤ → Bool
lawful z = from_to lowest_total highest_total z || eq_z z not_reported

-- any other total is reported
unfoldable pub reported : ℤ → Bool
reported z = not (eq_z z not_reported)

-- 13: a given total is not lawful
unfoldable pub unlawful : ℤ → ℤ → Bool
unlawful a b = not (lawful a && lawful b)

-- ---- what was not refused is lawful
pub record Given (a b : ℤ) : Type 0 where
  pub total1 : lawful a ≡ true
  pub total2 : lawful b ≡ true

-- no lawful total that is reported is further from 0 than this: a sum of 1,024 of them fits a word
abbrev pub largest_total : ℕ
largest_total = 1000000000000000
