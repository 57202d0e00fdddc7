-- A draft of a block: the words so far, and zeros. A word stored at the next place is one word more, filler stands already, and where
-- the check is stored last the block is whole. Assumes nothing.
use Rattle.std.specs.Prelude.{◌≡◌, ℕ, suc, ◌+◌, ◌-◌, ◌*◌, ◌/◌, ◌%◌, ◌≤◌, List, [], ◌∷◌, ◌++◌, length, sum, replicate, take, ℤ, pos, ◌<◌, refl}
use Rattle.std.proofs.Common.{sym, ap, ◌∙◌, append_assoc, append-nil, add-zero, mul-zero, arith, length-append}
use Rattle.std.proofs.lemmas.List.{length-replicate, replicate-append-replicate, drop-drop, take_more, length-take-le}
use Rattle.std.proofs.lemmas.List.Sums.{sum_by-append}
use Rattle.std.proofs.lemmas.List.Folds.{sum_by-replicate}
use Rattle.std.proofs.lemmas.Grind.{flat_map-append}
use Rattle.std.proofs.lemmas.List.Edits.{sets, sets-eq}
use Rattle.std.specs.Int.{w32, to_le_bytes}
use borrow.Rule.Slice.PartMut.{put_mid}
use Rattle.laws.specs.Digits.{digits}
use Rattle.table.specs.Slots.{word}
use Rattle.blocks_words.specs.declared.drafts.Draft.{Draft}
use Rattle.blocks_words.specs.Words.{check_place, byte_base, word_bytes, word_base, bytes_of, block_of}
use Rattle.blocks_words.specs.Longs.{halves, halves_of}
use Rattle.blocks_words.specs.Groups.{groups_length}
use Rattle.blocks_words.specs.Follows.{padded, FollowedBy, Follow, Finished}

-- ---- a word of a block's words is stored over another
stored : (ws rest : List ℕ) (old w : ℕ) → sets (bytes_of (ws ++ old ∷ rest)) (length ws * word_bytes) (digits byte_base word_bytes w) ≡ bytes_of (ws ++ w ∷ rest)
unfolding bytes_of
stored [] rest old w = refl
stored (x ∷ ws) rest old w =
    let place : suc (length ws) * word_bytes ≡ suc (suc (suc (suc (length ws * word_bytes)))) = omega arith in
    rw (place, ← stored ws rest old w)

-- so one stored at the next place is one word more
next : (ws : List ℕ) (place w : ℕ) → length ws ≡ place → place ≤ check_place
    → sets (bytes_of (padded ws)) (place * word_bytes) (digits byte_base word_bytes w) ≡ bytes_of (padded (ws ++ w ∷ []))
next ws place w e h =
    let left : suc check_place - length ws ≡ suc (check_place - length ws) = omega arith in
    let less : suc check_place - (length ws + 1) ≡ check_place - length ws = omega arith in
    rw (← e, left, length-append, less, append_assoc) (stored ws (replicate (check_place - length ws) 0) 0 w)

-- ---- filler stands already
pub filler_stands : (ws : List ℕ) (n : ℕ) {draft : Draft} → length ws + n ≤ suc check_place → FollowedBy ws draft → FollowedBy (ws ++ replicate n 0) draft
filler_stands ws n h w =
    let left : n + (suc check_place - (length ws + n)) ≡ suc check_place - length ws = omega arith in
    record {
      bytes = w.bytes ∙ ap bytes_of (rw (length-append, length-replicate, append_assoc, replicate-append-replicate, left));
      check = rw (sum_by-append (λ (w : ℕ). w), sum_by-replicate (λ (w : ℕ). w) n 0, mul-zero, add-zero) w.check;
    }

-- ---- one word more, stored at the next place and added to the check
pub word_follows : (place w : ℕ) {draft draft' : Draft} → place ≤ check_place
    → draft'.block ≡ sets draft.block (place * word_bytes) (digits byte_base word_bytes w) → draft'.check ≡ (draft.check + w) % word_base
    → Follow place draft (w ∷ []) draft'
word_follows place w h block check = record {
  after = λ ws e b. record { bytes = rw (block, b.bytes) (next ws place w e h); check = rw (check, b.check, sum_by-append (λ (w : ℕ). w)) (omega arith) };
}

-- ---- words after words
pub then : {place place' : ℕ} {draft draft' draft'' : Draft} {us vs : List ℕ}
    → Follow place draft us draft' → place' ≡ place + length us → Follow place' draft' vs draft'' → Follow place draft (us ++ vs) draft''
then {us} f e g = record {
  after = λ ws l w. rw (← append_assoc) (g.after (ws ++ us) (rw length-append (omega arith)) (f.after ws l w));
}

-- ---- the check, stored last, makes the block whole
checked : (ws : List ℕ) {draft : Draft} → length ws ≡ check_place → FollowedBy ws draft
    → sets draft.block (check_place * word_bytes) (digits byte_base word_bytes draft.check) ≡ block_of ws
unfolding block_of
checked ws e w =
    let full : padded (ws ++ (sum ws % word_base ∷ [])) ≡ ws ++ (sum ws % word_base ∷ []) = rw (length-append, e, append-nil) in
    rw (w.bytes, w.check) (next ws check_place (sum ws % word_base) e (omega arith) ∙ ap bytes_of full)

-- over words and filler too
pub finished : {draft : Draft} {block : List ℕ} → block ≡ sets draft.block (check_place * word_bytes) (digits byte_base word_bytes draft.check) → Finished draft block
finished stored = record {
  whole = λ ws n h w. stored ∙ checked _ (rw (length-append, length-replicate) h) (filler_stands ws n (omega arith) w);
}

-- ---- a word's bytes stored over a part of a block
low_bytes : (w : ℕ) → to_le_bytes w32 w ≡ digits byte_base word_bytes w
low_bytes w =
    let third : w / 65536 ≡ w / byte_base / byte_base = omega arith in
    let fourth : w / 16777216 ≡ w / byte_base / byte_base / byte_base = omega arith in
    rw (third, fourth)

over_part : (block bytes : List ℕ) (at n : ℕ) → length bytes ≡ n → at + n ≤ length block → put_mid at (at + n - at) block bytes ≡ sets block at bytes
over_part block bytes at n e h =
    let width : at + n - at ≡ length bytes = omega arith in
    rw (width, drop-drop, ← append_assoc) (sym (sets-eq bytes block at (rw e h)))

pub word_over : (block bytes : List ℕ) (at w : ℕ) → bytes ≡ to_le_bytes w32 w → at + word_bytes ≤ length block
    → put_mid at (at + word_bytes - at) block bytes ≡ sets block at (digits byte_base word_bytes w)
word_over block bytes at w e h = let digits_stored = e ∙ low_bytes w in rw digits_stored (over_part block (digits byte_base word_bytes w) at word_bytes refl h)

-- ---- one signed word more of a list of them
halves_length : (zs : List ℤ) → length (halves_of zs) ≡ length zs * 2
halves_length zs = groups_length halves 2 (λ z. refl) zs

pub long_follows : {place i : ℕ} {draft draft' draft'' : Draft} (zs : List ℤ) → i < length zs
    → Follow place draft (halves_of (take i zs)) draft' → Follow (place + i * 2) draft' (halves (word zs i)) draft''
    → Follow place draft (halves_of (take (i + 1) zs)) draft''
long_follows {i = i} zs h before one =
    let all : i ≤ length zs = omega arith in
    rw (take_more zs i (pos 0) h, flat_map-append halves) (then before (rw (halves_length, length-take-le)) one)
