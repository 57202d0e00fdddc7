-- Bytes put into a buffer from a place on, run after run: two runs in turn are one, since a run stored is its bytes stored in turn;
-- and up to the answered place stand the front and the run. Assumes nothing.
use Rattle.std.specs.Prelude.{◌≡◌, List, [], ◌∷◌, ◌++◌, ℕ, suc, ◌+◌, ◌≤◌, length, take, drop}
use Rattle.std.proofs.Common.{sym, ap, ap₂, ◌∙◌, arith, append_assoc, add-zero, add-suc, suc-add, add_assoc, length-append, length-take-le, drop-drop}
use Rattle.std.proofs.lemmas.List.Edits.{sets, sets-eq}
use Rattle.std.proofs.Math.Seq.{take-append_seam, length-sets}
use Rattle.steps_replies.specs.Puts.{Put}

-- a text laid over as many bytes as it has is its bytes stored in turn
pub pasted : (text buffer part : List ℕ) (place count : ℕ) → part ≡ text → count ≡ length text → place + length text ≤ length buffer
    → take place buffer ++ (part ++ drop count (drop place buffer)) ≡ sets buffer place text
pasted text buffer part place count same long fits =
    rw (same, long, drop-drop (length text) place buffer) (sym (sets-eq text buffer place fits ∙ append_assoc (take place buffer) text _))

pub sets-append : (l : List ℕ) (i : ℕ) (us vs : List ℕ) → sets l i (us ++ vs) ≡ sets (sets l i us) (i + length us) vs
sets-append l i [] vs = rw add-zero
sets-append l i (u ∷ us) vs = rw (add-suc, ← suc-add) (sets-append _ (suc i) us vs)

pub then : {buffer buffer' buffer'' us vs : List ℕ} {place r r' : ℕ}
    → Put buffer place us r buffer' → Put buffer' r vs r' buffer'' → Put buffer place (us ++ vs) r' buffer''
then {buffer} {us} {vs} {place} f g = record {
  answer = rw (g.answer, f.answer, length-append) (add_assoc place (length us) (length vs));
  stored = rw (sets-append buffer place us vs, g.stored, f.stored, f.answer);
}

-- what stands up to the answered place
pub put_front : {buffer buffer' bytes : List ℕ} {place r : ℕ} → place + length bytes ≤ length buffer → Put buffer place bytes r buffer'
    → take r buffer' ≡ take place buffer ++ bytes
put_front {buffer} {buffer'} {bytes} {place} {r} fits p =
    let long : r ≡ length (take place buffer ++ bytes) =
    p.answer ∙ sym (length-append (take place buffer) bytes ∙ ap (λ n. n + length bytes) (length-take-le place buffer (omega (arith, fits)))) in
    ap₂ take long (p.stored ∙ sets-eq bytes buffer place fits) ∙ take-append_seam (take place buffer ++ bytes) (drop (place + length bytes) buffer)

-- and put from the first place on, it is the bytes
pub put_alone : {buffer buffer' bytes : List ℕ} {r : ℕ} → r ≤ length buffer' → Put buffer 0 bytes r buffer' → take r buffer' ≡ bytes
put_alone {buffer} {buffer'} {bytes} {r} within p = put_front (omega (arith, within, p.answer, ap length p.stored, length-sets buffer 0 bytes)) p
