-- How a session stands in memory: the lent table's words, the record, the line as far as its bytes tell what it asks, and what was
-- answered, in the lent buffer. Assumes nothing.
use Rattle.std.specs.Prelude.{◌≡◌, List, ℕ, ◌+◌, ℤ, take}
use Rattle.steps_commands.specs.Longest.{longest_command}
use Rattle.steps_lines.specs.declared.Progress.{Progress}
use Rattle.steps_lines.specs.LineSessions.{LineSession}

-- a line past the longest command is bad, whatever follows
abbrev pub line_bytes : ℕ
line_bytes = longest_command + 1

-- s stands in a table t, a buffer b and what is kept beside them
pub record StandsFor (s : LineSession) (t : List ℤ) (b : List ℕ) (p : Progress) : Type 0 where
  pub words : t ≡ s.words
  pub versions : p.versions ≡ s.versions
  pub line : p.line.items ≡ take line_bytes s.line
  pub output : take p.place b ≡ s.output
