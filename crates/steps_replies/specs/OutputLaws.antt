-- A line written where there is room for the longest: the bytes up to the answered place are those up to the place, and the line;
-- without room the buffer and the place stay. Each answered line is at most as long as the longest: a word of at most 8 bytes, a
-- newline, and a space and 20 bytes for each number of 64 bits; two numbers follow only the word row. Assumes nothing.
use Rattle.std.specs.Prelude.{◌≡◌, refl, List, [], ◌∷◌, ◌++◌, ℕ, ◌+◌, ◌≤◌, ◌<◌, ℤ, pos, negsuc, suc, Some, None, codes, length, take}
use Rattle.std.proofs.Common.{◌∙◌, arith, le-leb, length-append, SFits}
use Rattle.std.proofs.lemmas.Bool.{lt-leb}
use Rattle.std.proofs.lemmas.Fmt.{length-decimal-le}
use Rattle.std.specs.Fmt.{signed_decimal}
use Rattle.std.specs.Int.{w64}
use Rattle.refusals.specs.declared.Refusal.{Refusal}
use Rattle.refusals.specs.declared.Refusal.TheVariants.{BadTable}
use Rattle.refusals.specs.Refusals.{number}
use Rattle.reads.specs.declared.Row.{Row}
use Rattle.steps_replies.specs.Replies.{line_of, version_line, slot_line, row_line, refused_line, bad_line}
use Rattle.steps_replies.specs.Written.{longest_line, reply_bytes, buffer_after, place_after, Written}
use Rattle.steps_replies.specs.WrittenLaws.{put_front}

-- ---- the bytes up to the answered place
pub up_to : {buffer buffer' line : List ℕ} {place r : ℕ} → place + longest_line ≤ length buffer → Written buffer place line r buffer'
    → take r buffer' ≡ take place buffer ++ line
unfolding buffer_after place_after
up_to {buffer} {buffer'} {line} {place} {r} room w =
    let h = le-leb (place + longest_line) (length buffer) room in
    let answer : r ≡ place + length line = w.answer ∙ rw h refl in
    put_front (rw answer at (w.within (omega arith))) (record { answer = answer; stored = w.bytes ∙ rw h refl })

-- without room the buffer and the place stay
pub no_room : {buffer buffer' line : List ℕ} {place r : ℕ} → length buffer < place + longest_line → Written buffer place line r buffer'
    → (r ≡ place) × (buffer' ≡ buffer)
unfolding buffer_after place_after
no_room {buffer} {place = place} full w =
    let h = lt-leb (place + longest_line) (length buffer) full in
    (w.answer ∙ rw h refl, w.bytes ∙ rw h refl)

-- nothing is ever written into a buffer that is shorter than the longest line
pub never_room : {buffer buffer' line : List ℕ} {place r : ℕ} → length buffer < longest_line → Written buffer place line r buffer'
    → (r ≡ place) × (buffer' ≡ buffer)
never_room small w = no_room (omega (arith, small)) w

-- the buffer of the program has room before the first line
pub room_at_first : longest_line ≤ reply_bytes
room_at_first = omega arith

-- ---- the length of a line, by its word and its numbers
pub one_fitting : (word : List ℕ) (z : ℤ) → length word ≤ 8 → length (signed_decimal z) ≤ 20 → length (line_of word (z ∷ [])) ≤ longest_line
one_fitting word z w d = simp (length-append) (omega (arith, w, d))

pub two_fitting : (word : List ℕ) (one two : ℤ) → length word ≤ 3 → length (signed_decimal one) ≤ 20 → length (signed_decimal two) ≤ 20
    → length (line_of word (one ∷ two ∷ [])) ≤ longest_line
two_fitting word one two w d e = simp (length-append) (omega (arith, w, d, e))

-- ---- of each answer
pub natural_bytes : (n : ℕ) → n < 18446744073709551616 → length (signed_decimal (pos n)) ≤ 20
natural_bytes n l = length-decimal-le 20 n (omega arith) (omega (arith, l)) (omega (arith, l))

pub signed_bytes : (z : ℤ) → SFits w64 z → length (signed_decimal z) ≤ 20
signed_bytes (pos n) f = natural_bytes n (omega (arith, f.sfits))
signed_bytes (negsuc n) f = omega (arith, length-decimal-le 19 (suc n) (omega arith) (omega (arith, f.sfits)) (omega (arith, f.sfits)))

few : (r : Refusal) → number r < 17
few BadTable = omega arith
few _ = omega arith

pub version_fitting : (n : ℤ) → SFits w64 n → length (version_line n) ≤ longest_line
version_fitting n f = one_fitting (codes "version") n (omega arith) (signed_bytes n f)

pub slot_fitting : (k : ℕ) → k < 18446744073709551616 → length (slot_line k) ≤ longest_line
slot_fitting k l = one_fitting (codes "slot") (pos k) (omega arith) (natural_bytes k l)

pub row_fitting : (row : Row) → SFits w64 row.total1 → SFits w64 row.total2 → length (row_line (Some row)) ≤ longest_line
row_fitting row f g = two_fitting (codes "row") row.total1 row.total2 (omega arith) (signed_bytes row.total1 f) (signed_bytes row.total2 g)

pub none_fitting : length (row_line None) ≤ longest_line
none_fitting = omega arith

-- a refusal's number is one of these
pub refused_fitting : (n : ℕ) → n < 18446744073709551616 → length (line_of (codes "refused") (pos n ∷ [])) ≤ longest_line
refused_fitting n l = one_fitting (codes "refused") (pos n) (omega arith) (natural_bytes n l)

pub refusal_fitting : (r : Refusal) → length (refused_line r) ≤ longest_line
refusal_fitting r = refused_fitting (number r) (omega (arith, few r))

pub bad_fitting : length bad_line ≤ longest_line
bad_fitting = omega arith
