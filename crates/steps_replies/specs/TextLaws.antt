-- A line written behind those that wait in a text: where there is room for the longest, what waits then is what waited, and the line;
-- without room it is what waited. What stands before the answered place of a lent buffer is what would wait in a text of the buffer's
-- length. Every line of ours is UTF-8, since its words, its spaces, its minus, its digits and its newline are, and so text before a
-- line in a buffer is text after it. Assumes nothing.
use Rattle.std.specs.Prelude.{◌≡◌, refl, Bool, true, false, cond, ◌&&◌, ltb, List, [], ◌∷◌, ◌++◌, ℕ, zero, suc, ◌+◌, ◌/◌, ◌%◌, ◌≤◌, ◌<◌, ◌==◌, nat_lt, ℤ, pos, negsuc, Option, Some, None, Result, Ok, Err, codes, length, take, flat_map, IsAscii, IsUtf8}
use Rattle.std.proofs.Common.{sym, ap₂, ◌∙◌, subst, arith, inl, inr, le-leb, ltb-true, length-take}
use Rattle.std.proofs.lemmas.Bool.{lt-leb, cases_lt, and_parts}
use Rattle.std.proofs.lemmas.Str.{IsUtf8-nil, IsUtf8-append, IsUtf8-from_ascii}
use Rattle.std.proofs.lemmas.Str.Ascii.{IsAscii-nil, IsAscii-cons}
use Rattle.std.specs.Fmt.{digit_glyph, digits_onto, digits, decimal, signed_decimal}
use Rattle.refusals.specs.declared.Refusal.{Refusal}
use Rattle.refusals.specs.Refusals.{number}
use Rattle.reads.specs.declared.Row.{Row}
use Rattle.steps_commands.specs.Numerals.{minus_byte}
use Rattle.steps_commands.specs.Commands.{space_byte}
use Rattle.steps_replies.specs.Replies.{newline_byte, line_of, version_line, slot_line, row_line, refused_line, answer_line, bad_line}
use Rattle.steps_replies.specs.Written.{longest_line, Written}
use Rattle.steps_replies.specs.Texts.{has_room, written}
use Rattle.steps_replies.specs.OutputLaws as lent

-- ---- what waits
pub up_to : (bytes : ℕ) (text line : List ℕ) → length text + longest_line ≤ bytes → written bytes text line ≡ text ++ line
unfolding written
up_to bytes text line room = rw (le-leb (length text + longest_line) bytes room)

pub no_room : (bytes : ℕ) (text line : List ℕ) → bytes < length text + longest_line → written bytes text line ≡ text
unfolding written
no_room bytes text line full = rw (lt-leb (length text + longest_line) bytes full)

-- nothing is ever written into a text that is smaller than the longest line
pub never_room : (bytes : ℕ) (text line : List ℕ) → bytes < longest_line → written bytes text line ≡ text
never_room bytes text line small = no_room bytes text line (omega (arith, small))

-- ---- a lent buffer, up to a place, as a text
pub in_buffer : {buffer buffer' line : List ℕ} {place r : ℕ} → Written buffer place line r buffer'
    → take r buffer' ≡ written (length buffer) (take place buffer) line
in_buffer {buffer} {buffer'} {line} {place} {r} w =
    let front = take place buffer in
    let long = length-take place buffer in
    elim (cases_lt (length buffer) (place + longest_line)) [
      | inl full ↦ let stays = lent.no_room full w in ap₂ take stays.0 stays.1 ∙ sym (no_room (length buffer) front line (omega (arith, long, full)))
      | inr room ↦ lent.up_to room w ∙ sym (up_to (length buffer) front line (omega (arith, long, room)))
    ]

-- ---- every line of ours is text
abbrev low_bytes : List ℕ → Bool
low_bytes [] = true
low_bytes (b ∷ bs) = ltb b 128 && low_bytes bs

word_is_ascii : (bs : List ℕ) → low_bytes bs ≡ true → IsAscii bs
word_is_ascii [] low = IsAscii-nil
word_is_ascii (b ∷ bs) low =
    let parts = and_parts (ltb b 128) (low_bytes bs) low in
    IsAscii-cons b bs (ltb-true b 128 parts.0) (word_is_ascii bs parts.1)

word_is_text : (bs : List ℕ) → low_bytes bs ≡ true → IsUtf8 bs
word_is_text bs low = IsUtf8-from_ascii bs (word_is_ascii bs low)

byte_more : (b : ℕ) (bs : List ℕ) → b < 128 → IsUtf8 bs → IsUtf8 (b ∷ bs)
byte_more b bs low more = IsUtf8-append (b ∷ []) bs (IsUtf8-from_ascii (b ∷ []) (IsAscii-cons b [] low IsAscii-nil)) more

-- a digit's byte by std's two cases, of which the second is of a digit from ten on
glyph_is_low : (small : Bool) (d : ℕ) → d < 10 → cond small (48 + d) (87 + d) < 128
glyph_is_low true d l = omega (arith, l)
glyph_is_low false d l = omega (arith, l)

by_either : (t : Bool) (a b : List ℕ) → IsUtf8 a → IsUtf8 b → IsUtf8 (cond t a b)
by_either true a b f g = f
by_either false a b f g = g

digits_are_text : (k n : ℕ) (behind : List ℕ) → IsUtf8 behind → IsUtf8 (digits_onto k 10 false n behind)
digits_are_text zero n behind u = u
digits_are_text (suc k) n behind u =
    let glyph = digit_glyph false (n % 10) in
    let more = byte_more glyph behind (glyph_is_low (nat_lt (n % 10) 10) (n % 10) (omega arith)) u in
    by_either (n / 10 == 0) (glyph ∷ behind) (digits_onto k 10 false (n / 10) (glyph ∷ behind)) more (digits_are_text k (n / 10) (glyph ∷ behind) more)

natural_is_text : (n : ℕ) → IsUtf8 (decimal n)
unfolding digits
natural_is_text n = digits_are_text 64 n [] IsUtf8-nil

number_is_text : (z : ℤ) → IsUtf8 (signed_decimal z)
number_is_text (pos n) = natural_is_text n
number_is_text (negsuc n) = byte_more minus_byte (decimal (suc n)) (omega arith) (natural_is_text (suc n))

numbers_are_text : (numbers : List ℤ) → IsUtf8 (flat_map (λ n. space_byte ∷ signed_decimal n) numbers)
numbers_are_text [] = IsUtf8-nil
numbers_are_text (z ∷ numbers) = IsUtf8-append _ _ (byte_more space_byte (signed_decimal z) (omega arith) (number_is_text z)) (numbers_are_text numbers)

pub line_is_text : (word : List ℕ) (numbers : List ℤ) → IsUtf8 word → IsUtf8 (line_of word numbers)
line_is_text word numbers w =
    IsUtf8-append _ (newline_byte ∷ []) (IsUtf8-append word _ w (numbers_are_text numbers)) (byte_more newline_byte [] (omega arith) IsUtf8-nil)

pub version_is_text : (n : ℤ) → IsUtf8 (version_line n)
version_is_text n = line_is_text (codes "version") (n ∷ []) (word_is_text (codes "version") refl)

pub slot_is_text : (k : ℕ) → IsUtf8 (slot_line k)
slot_is_text k = line_is_text (codes "slot") (pos k ∷ []) (word_is_text (codes "slot") refl)

pub row_is_text : (row : Option Row) → IsUtf8 (row_line row)
row_is_text (Some row) = line_is_text (codes "row") (row.total1 ∷ row.total2 ∷ []) (word_is_text (codes "row") refl)
row_is_text None = line_is_text (codes "none") [] (word_is_text (codes "none") refl)

pub refused_is_text : (refusal : Refusal) → IsUtf8 (refused_line refusal)
refused_is_text refusal = line_is_text (codes "refused") (pos (number refusal) ∷ []) (word_is_text (codes "refused") refl)

pub answer_is_text : {A : Type 0} (line : A → List ℕ) → ((answer : A) → IsUtf8 (line answer)) → (r : Result A Refusal) → IsUtf8 (answer_line line r)
answer_is_text line text (Ok answer) = text answer
answer_is_text line text (Err refusal) = refused_is_text refusal

pub bad_is_text : IsUtf8 bad_line
bad_is_text = line_is_text (codes "bad line") [] (word_is_text (codes "bad line") refl)

pub ruleset lines_are_text = (version_is_text, slot_is_text, row_is_text, refused_is_text, bad_is_text)

-- ---- so text that waits in a lent buffer is text still
pub text_after : {buffer buffer' line : List ℕ} {place r : ℕ} → Written buffer place line r buffer' → IsUtf8 line → IsUtf8 (take place buffer)
    → IsUtf8 (take r buffer')
unfolding written
text_after {buffer} {line = line} {place} w text before =
    let front = take place buffer in
    subst IsUtf8 (sym (in_buffer w)) (by_either (has_room (length buffer) front) (front ++ line) front (IsUtf8-append front line before text) before)
