-- What the program does with a line: what it asks is a call of the library, which says what is left of the table and of the
-- record; and the line that it answers goes by the call's answer. A line that asks nothing leaves all as it was. Assumes nothing.
use Rattle.std.specs.Prelude.{◌≡◌, List, [], ℕ, ℤ, Option, Some, None}
use Rattle.versions.specs.declared.VersionRecord.{VersionRecord}
use Rattle.calls.specs.Calls.{Call, begin, commit, put, delete, read_key, Answer}
use Rattle.calls.specs.Calls as answer
use Rattle.calls.specs.Perform.{State, perform}
use Rattle.steps_commands.specs.declared.Command.{Command}
use Rattle.steps_commands.specs.declared.Command.TheVariants.{Begin, Commit, Put, Delete, Read}
use Rattle.steps_commands.specs.Commands.{asked}
use Rattle.steps_replies.specs.Replies.{version_line, slot_line, row_line, answer_line, bad_line}
use Rattle.steps_replies.specs.Written.{Written}

-- B begin, C commit, P put, D delete, R read a key
abbrev pub call_of : Command → Call
call_of Begin = begin
call_of Commit = commit
call_of (Put key1 key2 total1 total2) = put key1 key2 total1 total2
call_of (Delete key1 key2) = delete key1 key2
call_of (Read s key1 key2) = read_key s key1 key2

-- the line of an answer: the program makes no other calls than these
abbrev pub line_of : Answer → List ℕ
line_of (answer.numbered r) = answer_line version_line r
line_of (answer.seen r) = answer_line row_line r
line_of (answer.rolled r) = bad_line
line_of (answer.placed r) = answer_line slot_line r
line_of (answer.saved r) = bad_line
line_of (answer.header r) = bad_line
line_of (answer.loaded r) = bad_line

-- ---- what is lent, what a line leaves of it, and what is replied; anything else is a bad line
abbrev pub lent : List ℤ → VersionRecord → State
lent t v = record { words = t; versions = v; block = [] }

abbrev pub left_by : Option Command → State → State
left_by (Some command) st = (perform (call_of command) st).state
left_by None st = st

abbrev pub replied_to : Option Command → State → List ℕ
replied_to (Some command) st = line_of (perform (call_of command) st).answer
replied_to None st = bad_line

abbrev pub reply : Option Command → List ℤ → VersionRecord → List ℕ
reply command t v = replied_to command (lent t v)

abbrev pub words_after : Option Command → List ℤ → VersionRecord → List ℤ
words_after command t v = (left_by command (lent t v)).words

abbrev pub record_after : Option Command → List ℤ → VersionRecord → VersionRecord
record_after command t v = (left_by command (lent t v)).versions

-- a line answered: what it asks is done, and the reply stands in the buffer
pub record Answered (t : List ℤ) (v : VersionRecord) (line buffer : List ℕ) (place r : ℕ) (t' : List ℤ) (v' : VersionRecord) (buffer' : List ℕ) : Type 0 where
  pub words : t' ≡ words_after (asked line) t v
  pub versions : v' ≡ record_after (asked line) t v
  pub replied : Written buffer place (reply (asked line) t v) r buffer'
