-- Block 0, the header, as save and load both have it: its words, which of them a load does not allow, and what word 3 is read as.
-- Only this crate unfolds `header_words`, `header_wrong` and `oldest_of`. RULES.md, Blocks. Assumes nothing.
use Rattle.std.specs.Prelude.{Bool, cond, not, List, [], ◌∷◌, ℕ, eqb, ℤ, pos, ◌-ℤ◌, replicate}
use Rattle.laws.specs.Tests.{any}
use Rattle.laws.specs.Order.{eq_z, from_to}
use Rattle.versions.specs.Record.{largest_version}
use Rattle.table.specs.Slots.{most_slots}
use Rattle.blocks_words.specs.Words.{number_place, word_at, nonzero}

-- word 1 is slots
abbrev pub slots_place : ℕ
slots_place = 1

-- word 2 is current
abbrev pub current_place : ℕ
current_place = 2

-- word 3 is the oldest open version
abbrev pub oldest_place : ℕ
oldest_place = 3

-- words 4 to 126 are zero
abbrev pub header_filler_place : ℕ
header_filler_place = 4

abbrev pub header_filler_words : ℕ
header_filler_words = 123

-- word 0 is 0, word 1 slots, word 2 current, word 3 oldest, then zeros
unfoldable pub header_words : ℕ → ℕ → ℕ → List ℕ
header_words slots current oldest = 0 ∷ slots ∷ current ∷ oldest ∷ replicate header_filler_words 0

-- word 3 is allowed as 0, current − 1 or current
abbrev pub oldest_allowed : ℤ → ℤ → Bool
oldest_allowed current word = any (eq_z word (pos 0) ∷ eq_z word (current -ℤ pos 1) ∷ eq_z word current ∷ [])

-- a 0 there is read as current − 1, or as 1 if current is 1; any other is read as it stands
unfoldable pub oldest_of : ℤ → ℤ → ℤ
oldest_of current word = cond (eq_z word (pos 0)) (cond (eq_z current (pos 1)) (pos 1) (current -ℤ pos 1)) word

-- 16: wrong word 0, slots not in 1 to 1,024, current out of range, any other word 3, a nonzero filler
unfoldable pub header_wrong : List ℕ → Bool
header_wrong block =
    any (not (eqb (word_at block number_place) 0)
    ∷ not (from_to (pos 1) (pos most_slots) (pos (word_at block slots_place)))
    ∷ not (from_to (pos 1) largest_version (pos (word_at block current_place)))
    ∷ not (oldest_allowed (pos (word_at block current_place)) (pos (word_at block oldest_place)))
    ∷ nonzero block header_filler_place header_filler_words
    ∷ [])
