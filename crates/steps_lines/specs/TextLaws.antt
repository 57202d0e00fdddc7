-- The replies are text, UTF-8: if those to what came before are, so are those after a byte, after bytes in turn and after the last
-- line, since every reply is. What stands in memory is a session, so the replies that wait in a lent buffer stay text. Assumes nothing.
use Rattle.std.specs.Prelude.{refl, List, [], ◌∷◌, ℕ, ◌≤◌, ℤ, eqb, length, take, IsUtf8}
use Rattle.std.proofs.Common.{sym, subst, take_all}
use Rattle.std.proofs.lemmas.Str.{IsUtf8-append}
use Rattle.laws.specs.TestLaws.{by_test}
use Rattle.steps_commands.specs.Commands.{asked}
use Rattle.steps_replies.specs.Replies.{newline_byte}
use Rattle.steps_answers.specs.Answers.{reply}
use Rattle.steps_answers.specs.AnswerLaws.{reply_is_text}
use Rattle.steps_lines.specs.declared.Progress.{Progress}
use Rattle.steps_lines.specs.LineSessions.{LineSession, ended, after_byte, after_bytes, finished}
use Rattle.steps_lines.specs.LineSessionLaws.{at_newline, at_other}
use Rattle.steps_lines.specs.Standing.{line_bytes, StandsFor}

-- ---- of a session
ended_is_text : (s : LineSession) → IsUtf8 s.output → IsUtf8 (ended s).output
unfolding ended
ended_is_text s before = IsUtf8-append s.output (reply (asked s.line) s.words s.versions) before (reply_is_text (asked s.line) s.words s.versions)

byte_is_text : (s : LineSession) (b : ℕ) → IsUtf8 s.output → IsUtf8 (after_byte s b).output
byte_is_text s b before =
    by_test (eqb b newline_byte)
    (λ y. subst (λ u. IsUtf8 u.output) (sym (at_newline s b y)) (ended_is_text s before))
    (λ n. subst (λ u. IsUtf8 u.output) (sym (at_other s b n)) before)

pub bytes_are_text : (s : LineSession) (bs : List ℕ) → IsUtf8 s.output → IsUtf8 (after_bytes s bs).output
unfolding after_bytes
bytes_are_text s [] before = before
bytes_are_text s (b ∷ bs) before = bytes_are_text (after_byte s b) bs (byte_is_text s b before)

pub last_is_text : (s : LineSession) → IsUtf8 s.output → IsUtf8 (finished s).output
unfolding finished
last_is_text s before = by_test (eqb (length s.line) 0) (λ y. rw y before) (λ n. rw n (ended_is_text s before))

-- ---- of what stands in memory
pub stands_itself : {t : List ℤ} {b : List ℕ} {p : Progress} → length p.line.items ≤ line_bytes
    → StandsFor (record { words = t; versions = p.versions; line = p.line.items; output = take p.place b }) t b p
stands_itself {p = p} fits = record { words = refl; versions = refl; line = sym (take_all line_bytes p.line.items fits); output = refl }

pub text_waits : {t t' : List ℤ} {b b' : List ℕ} {p p' : Progress} (led : LineSession → LineSession)
    → ((s : LineSession) → IsUtf8 s.output → IsUtf8 (led s).output) → ((s : LineSession) → StandsFor s t b p → StandsFor (led s) t' b' p')
    → length p.line.items ≤ line_bytes → IsUtf8 (take p.place b) → IsUtf8 (take p'.place b')
text_waits led text stands fits before = subst IsUtf8 (sym (stands _ (stands_itself fits)).output) (text _ before)
