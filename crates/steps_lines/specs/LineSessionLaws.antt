-- The laws of a session: a byte is a newline or belongs to the line, bytes in turn are those but the last, and the last, and at
-- the end a line is answered unless it has no byte. What was written out before changes nothing but that the replies stand behind it.
-- Assumes nothing.
use Rattle.std.specs.Prelude.{◌≡◌, refl, true, false, List, [], ◌∷◌, ◌++◌, ℕ, ◌<◌, eqb, length}
use Rattle.std.proofs.Common.{sym, ap, ◌∙◌, append_assoc, append-nil, arith, ne_eqb}
use Rattle.laws.specs.TestLaws.{by_test}
use Rattle.steps_replies.specs.Replies.{newline_byte}
use Rattle.steps_lines.specs.LineSessions.{LineSession, written_out, behind, ended, longer, after_byte, after_bytes, finished}

pub at_newline : (s : LineSession) (b : ℕ) → eqb b newline_byte ≡ true → after_byte s b ≡ ended s
unfolding after_byte
at_newline s b h = rw h refl

pub at_other : (s : LineSession) (b : ℕ) → eqb b newline_byte ≡ false → after_byte s b ≡ longer s b
unfolding after_byte
at_other s b h = rw h refl

pub no_bytes : (s : LineSession) → after_bytes s [] ≡ s
unfolding after_bytes
no_bytes s = refl

pub and_last : (s : LineSession) (bs : List ℕ) (b : ℕ) → after_bytes s (bs ++ (b ∷ [])) ≡ after_byte (after_bytes s bs) b
unfolding after_bytes
and_last s [] b = refl
and_last s (c ∷ bs) b = and_last (after_byte s c) bs b

pub no_last : (s : LineSession) → length s.line ≡ 0 → finished s ≡ s
unfolding finished
no_last s h = rw h refl

pub a_last : (s : LineSession) → 0 < length s.line → finished s ≡ ended s
unfolding finished
a_last s h = rw (ne_eqb (length s.line) 0 (λ e. omega (arith, e))) refl

-- ---- bytes after bytes
pub in_turn : (s : LineSession) (front rest : List ℕ) → after_bytes s (front ++ rest) ≡ after_bytes (after_bytes s front) rest
unfolding after_bytes
in_turn s [] rest = refl
in_turn s (b ∷ front) rest = in_turn (after_byte s b) front rest

-- ---- replies that were written out before
ended-behind : (before : List ℕ) (s : LineSession) → ended (behind before s) ≡ behind before (ended s)
unfolding ended
ended-behind before s = simp append_assoc

byte_behind : (before : List ℕ) (s : LineSession) (b : ℕ) → after_byte (behind before s) b ≡ behind before (after_byte s b)
byte_behind before s b =
    by_test (eqb b newline_byte)
    (λ y. at_newline (behind before s) b y ∙ ended-behind before s ∙ ap (behind before) (sym (at_newline s b y)))
    (λ n. at_other (behind before s) b n ∙ ap (behind before) (sym (at_other s b n)))

bytes_behind : (before : List ℕ) (s : LineSession) (bs : List ℕ) → after_bytes (behind before s) bs ≡ behind before (after_bytes s bs)
unfolding after_bytes
bytes_behind before s [] = refl
bytes_behind before s (b ∷ bs) = ap (λ w. after_bytes w bs) (byte_behind before s b) ∙ bytes_behind before (after_byte s b) bs

-- bytes lead a session where they lead it with its replies written out, and what they add stands behind those
pub since_written : (s : LineSession) (bs : List ℕ) → after_bytes s bs ≡ behind s.output (after_bytes (written_out s) bs)
since_written s bs = ap (λ w. after_bytes w bs) (simp append-nil) ∙ bytes_behind s.output (written_out s) bs

-- so to write the replies out between two runs of bytes, or after both, leaves the same
pub written_between : (s : LineSession) (front rest : List ℕ)
    → written_out (after_bytes (written_out (after_bytes s front)) rest) ≡ written_out (after_bytes s (front ++ rest))
written_between s front rest = ap written_out (sym (since_written (after_bytes s front) rest)) ∙ ap written_out (sym (in_turn s front rest))

-- and at the end
pub written_last : (s : LineSession) → written_out (finished (written_out s)) ≡ written_out (finished s)
unfolding finished ended
written_last s = by_test (eqb (length s.line) 0) (λ y. rw y refl) (λ n. rw n refl)

pub since_written_last : (s : LineSession) → finished s ≡ behind s.output (finished (written_out s))
unfolding finished
since_written_last s =
    by_test (eqb (length s.line) 0) (λ y. rw y (simp append-nil)) (λ n. rw n (ap ended (simp append-nil) ∙ ended-behind s.output (written_out s)))
