-- How a session goes on being carried: over no bytes it stands as it stood, over bytes after bytes as over all of them, and at the
-- end as if its replies had not been written out before. Assumes nothing.
use Rattle.std.specs.Prelude.{◌≡◌, refl, Bool, true, false, List, [], ◌++◌, ℕ, ℤ, length, take, drop}
use Rattle.std.proofs.Common.{ap, sym, ◌∙◌, append_assoc}
use Rattle.std.proofs.lemmas.List.{take-append-drop}
use Rattle.std.proofs.Math.Seq.{take-append_seam}
use Rattle.steps_lines.specs.declared.Progress.{Progress}
use Rattle.steps_lines.specs.LineSessions.{LineSession, fresh_session, written_out, after_bytes, finished}
use Rattle.steps_lines.specs.LineSessionLaws.{no_bytes, written_between, written_last}
use Rattle.steps_lines.specs.Standing.{StandsFor}
use Rattle.steps_io.specs.Carried.{Carried, CarriedFront, CarriedSome, CarriedLast, CarriedAll, at_end}

module _ {b : List ℕ} {p : Progress} where
  -- the replies are written, and none waits, in this buffer or another
  pub replies_written : (t : List ℤ) {b' : List ℕ} (place : ℕ) → take place b' ≡ []
      → Carried t b p [] t b' (record { versions = p.versions; line = p.line; place = place })
  replies_written t place e = record {
    stands = λ s w. rw (no_bytes s) (record { words = w.words; versions = w.versions; line = w.line; output = e });
  }

  pub carried_none : (t : List ℤ) → p.place ≡ 0 → Carried t b p [] t b p
  carried_none t e = replies_written t p.place (ap (λ n. take n b) e)

  module _ {t t' t'' : List ℤ} {b' b'' : List ℕ} {p' p'' : Progress} where
    -- bytes are taken, and their replies written
    pub taken_and_written : (bytes : List ℕ) → ((s : LineSession) → StandsFor s t b p → StandsFor (after_bytes s bytes) t' b' p')
        → Carried t' b' p' [] t'' b'' p'' → Carried t b p bytes t'' b'' p''
    taken_and_written bytes taken out = record { stands = λ s w. rw (no_bytes (after_bytes s bytes)) at (out.stands _ (taken s w)) }

    pub carried_on : (front rest : List ℕ) → Carried t b p front t' b' p' → Carried t' b' p' rest t'' b'' p'' → Carried t b p (front ++ rest) t'' b'' p''
    carried_on front rest a c = record { stands = λ s w. rw (written_between s front rest) at (c.stands _ (a.stands s w)) }

    -- and one read more
    pub some_on : (bytes : List ℕ) → CarriedSome t b p t' b' p' → Carried t' b' p' bytes t'' b'' p'' → CarriedSome t b p t'' b'' p''
    some_on bytes a c = record { bytes = a.bytes ++ bytes; carried = carried_on a.bytes bytes a.carried c }

  -- a front of some input, where a write failed
  pub front_of : {t t' : List ℤ} {b' : List ℕ} {p' : Progress} {input : List ℕ} (front rest : List ℕ) → input ≡ front ++ rest
      → Carried t b p front t' b' p' → CarriedFront t b p input t' b' p'
  front_of front rest e a = record { count = length front; carried = rw (e, take-append_seam front rest) a }

-- a part of what is left goes over to what was handed on
pub part_over : (input front rest : List ℕ) (count : ℕ) → input ≡ front ++ rest → input ≡ (front ++ take count rest) ++ drop count rest
part_over input front rest count e =
    e ∙ ap (λ l. front ++ l) (sym (take-append-drop count rest)) ∙ sym (append_assoc front (take count rest) (drop count rest))

-- ---- the last line was answered, and its reply written
module _ {b : List ℕ} {p : Progress} where
  pub last_carried : {t t' t'' : List ℤ} {b' b'' : List ℕ} {last end : Progress} → ((s : LineSession) → StandsFor s t b p → StandsFor (finished s) t' b' last)
      → Carried t' b' last [] t'' b'' end → CarriedLast t b p true t''
  last_carried finish out = record { words = λ s w. rw (no_bytes (finished s)) at ((out.stands _ (finish s w)).words) }

  -- or a write failed before
  pub cut_off : (t : List ℤ) → CarriedLast t b p false t
  cut_off t = record { words = λ s w. w.words }

-- at the end it is as if the replies had not been written out
at_end_lem : (taken : Bool) (s : LineSession) → (at_end taken (written_out s)).words ≡ (at_end taken s).words
at_end_lem true s = ap (λ u. u.words) (written_last s)
at_end_lem false s = refl

pub all_carried : {t t' t'' : List ℤ} {b b' : List ℕ} {p p' : Progress} {taken : Bool} → StandsFor (fresh_session t) t b p
    → CarriedSome t b p t' b' p' → CarriedLast t' b' p' taken t'' → CarriedAll t t''
all_carried {t} {taken = taken} w a last = record {
  bytes = a.bytes;
  taken = taken;
  words = last.words _ (a.carried.stands _ w) ∙ at_end_lem taken (after_bytes (fresh_session t) a.bytes);
}
