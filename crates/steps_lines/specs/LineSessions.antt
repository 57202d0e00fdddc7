-- The program `steps` over bytes: they are taken in turn, a newline ends a line, and each line is answered by a line.
-- Assumes nothing.
use Rattle.std.specs.Prelude.{cond, List, [], ◌∷◌, ◌++◌, ℕ, eqb, ℤ, length}
use Rattle.versions.specs.declared.VersionRecord.{VersionRecord}
use Rattle.versions.specs.Record.{fresh_record}
use Rattle.steps_commands.specs.Commands.{asked}
use Rattle.steps_replies.specs.Replies.{newline_byte}
use Rattle.steps_answers.specs.Answers.{reply, words_after, record_after}

-- what stands between two bytes: the table's words, the record, the line so far, and all that was answered
pub record LineSession : Type 0 where
  pub words : List ℤ
  pub versions : VersionRecord
  pub line : List ℕ
  pub output : List ℕ

-- it starts fresh: on a table as it is, with the fresh record, no line and nothing answered
abbrev pub fresh_session : List ℤ → LineSession
fresh_session t = record { words = t; versions = fresh_record; line = []; output = [] }

-- what was answered has been written out: the same session, with nothing answered since
abbrev pub written_out : LineSession → LineSession
written_out s = record { words = s.words; versions = s.versions; line = s.line; output = [] }

-- the same session, with its replies behind those that were written before
abbrev pub behind : List ℕ → LineSession → LineSession
behind before s = record { words = s.words; versions = s.versions; line = s.line; output = before ++ s.output }

-- a line that ends is answered, and the next begins
unfoldable pub ended : LineSession → LineSession
ended s = record {
  words = words_after (asked s.line) s.words s.versions;
  versions = record_after (asked s.line) s.words s.versions;
  line = [];
  output = s.output ++ reply (asked s.line) s.words s.versions;
}

-- any other byte belongs to it
abbrev pub longer : LineSession → ℕ → LineSession
longer s b = record { words = s.words; versions = s.versions; line = s.line ++ (b ∷ []); output = s.output }

unfoldable pub after_byte : LineSession → ℕ → LineSession
after_byte s b = cond (eqb b newline_byte) (ended s) (longer s b)

unfoldable pub after_bytes : LineSession → List ℕ → LineSession
after_bytes s [] = s
after_bytes s (b ∷ bs) = after_bytes (after_byte s b) bs

-- a last line needs no newline
unfoldable pub finished : LineSession → LineSession
finished s = cond (eqb (length s.line) 0) s (ended s)
