-- Every reply is text, UTF-8: each answer of the library is answered by a line that is, and a bad line is one. So replies that wait in
-- a lent buffer as text are text still when a line is answered. Assumes nothing.
use Rattle.std.specs.Prelude.{List, ℕ, ℤ, Option, Some, None, take, IsUtf8}
use Rattle.versions.specs.declared.VersionRecord.{VersionRecord}
use Rattle.calls.specs.Calls.{Answer}
use Rattle.calls.specs.Calls as answer
use Rattle.calls.specs.Perform.{perform}
use Rattle.steps_commands.specs.declared.Command.{Command}
use Rattle.steps_commands.specs.Commands.{asked}
use Rattle.steps_replies.specs.Replies.{version_line, slot_line, row_line}
use Rattle.steps_replies.specs.TextLaws.{version_is_text, slot_is_text, row_is_text, answer_is_text, bad_is_text, text_after}
use Rattle.steps_answers.specs.Answers.{call_of, line_of, lent, reply, Answered}

pub answered_is_text : (a : Answer) → IsUtf8 (line_of a)
answered_is_text (answer.numbered r) = answer_is_text version_line version_is_text r
answered_is_text (answer.seen r) = answer_is_text row_line row_is_text r
answered_is_text (answer.rolled r) = bad_is_text
answered_is_text (answer.placed r) = answer_is_text slot_line slot_is_text r
answered_is_text (answer.saved r) = bad_is_text
answered_is_text (answer.header r) = bad_is_text
answered_is_text (answer.loaded r) = bad_is_text

pub reply_is_text : (command : Option Command) (t : List ℤ) (v : VersionRecord) → IsUtf8 (reply command t v)
reply_is_text (Some command) t v = answered_is_text (perform (call_of command) (lent t v)).answer
reply_is_text None t v = bad_is_text

pub text_answered : {t t' : List ℤ} {v v' : VersionRecord} {line buffer buffer' : List ℕ} {place r : ℕ}
    → Answered t v line buffer place r t' v' buffer' → IsUtf8 (take place buffer) → IsUtf8 (take r buffer')
text_answered {t} {v = v} {line = line} a before = text_after a.replied (reply_is_text (asked line) t v) before
