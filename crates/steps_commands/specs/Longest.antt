-- The longest line that asks anything, and the longest number. Assumes nothing.
use Rattle.std.specs.Prelude.{ℕ}

-- a letter, and four numbers of 20 bytes with a space before each
abbrev pub longest_command : ℕ
longest_command = 85

-- a minus and 19 digits
abbrev pub longest_number : ℕ
longest_number = 20
