-- How what is written goes on: what is answered to bytes after bytes stands behind what was answered before, and at the end what is
-- answered to the last line. Assumes nothing.
use Rattle.std.specs.Prelude.{◌≡◌, Result, Ok, Err, is_ok, IsOk, OnOk, List, [], ◌++◌, ℕ, ℤ, Option, take}
use Rattle.std.proofs.Common.{ap, ◌∙◌, subst}
use Rattle.std.proofs.KnownBytes.{Appends-nil, Appends-trans, Consumes-nil, Consumes-trans}
use Rattle.std.specs.Io.KnownBytes.{Appends, Consumes}
use Rattle.steps_lines.specs.declared.Progress.{Progress}
use Rattle.steps_lines.specs.LineSessions.{LineSession, fresh_session, written_out, after_bytes, finished}
use Rattle.steps_lines.specs.LineSessionLaws.{no_bytes, in_turn, since_written, since_written_last, written_last}
use Rattle.steps_lines.specs.Standing.{StandsFor}
use Rattle.steps_io.specs.Carried.{Carried, CarriedLast}
use Rattle.steps_io.specs.CarriedLaws.{carried_none, carried_on, some_on, last_carried, cut_off}
use Rattle.steps_io.specs.Streams.{Written, WrittenLast, Streamed, AnsweredAll}

module _ {t : List ℤ} {b : List ℕ} {p : Progress} where
  -- nothing
  pub none_written : (sink : Option (List ℕ)) → p.place ≡ 0 → Written t b p sink [] sink
  none_written sink e = record { output = λ s w. rw (no_bytes s, ← w.output, e) (Appends-nil sink) }

  -- what waits then
  pub replies_out : {t' : List ℤ} {b' : List ℕ} {p' : Progress} {sink sink' : Option (List ℕ)} {bytes : List ℕ}
      → ((s : LineSession) → StandsFor s t b p → StandsFor (after_bytes s bytes) t' b' p') → Appends sink sink' (take p'.place b') → Written t b p sink bytes sink'
  replies_out {sink = sink} {sink' = sink'} taken out = record { output = λ s w. subst (Appends sink sink') (taken s w).output out }

  -- and what is answered to more
  pub written_on : {t' : List ℤ} {b' : List ℕ} {p' : Progress} {sink sink' sink'' : Option (List ℕ)} (front rest : List ℕ)
      → Carried t b p front t' b' p' → Written t b p sink front sink' → Written t' b' p' sink' rest sink'' → Written t b p sink (front ++ rest) sink''
  written_on {sink = sink} {sink' = sink'} {sink'' = sink''} front rest a before_them more = record {
    output = λ s w.
        let before = after_bytes s front in
        let all : (after_bytes s (front ++ rest)).output ≡ before.output ++ (after_bytes (written_out before) rest).output =
        ap (λ u. u.output) (in_turn s front rest ∙ since_written before rest) in
        rw all (Appends-trans sink sink' sink'' _ _ (before_them.output s w) (more.output _ (a.stands s w)));
  }

  pub none_streamed : (source sink : Option (List ℕ)) → p.place ≡ 0 → Streamed t b p source sink t b p source sink
  none_streamed source sink e = record { bytes = []; carried = carried_none t e; read = Consumes-nil source; written = none_written sink e }

  pub streamed_on : {t' t'' : List ℤ} {b' b'' : List ℕ} {p' p'' : Progress} {source source' source'' sink sink' sink'' : Option (List ℕ)} {bytes : List ℕ}
      → Streamed t b p source sink t' b' p' source' sink' → Carried t' b' p' bytes t'' b'' p'' → Written t' b' p' sink' bytes sink'' → Consumes source' source'' bytes
      → Streamed t b p source sink t'' b'' p'' source'' sink''
  streamed_on {source = source} {source' = source'} {source'' = source''} {bytes = bytes} a c more read = record {
    bytes = a.bytes ++ bytes;
    carried = carried_on a.bytes bytes a.carried c;
    read = Consumes-trans source source' source'' a.bytes bytes a.read read;
    written = written_on a.bytes bytes a.carried a.written more;
  }

-- the last line
pub last_written : {t t' : List ℤ} {b b' : List ℕ} {p last : Progress} {sink sink' : Option (List ℕ)}
    → ((s : LineSession) → StandsFor s t b p → StandsFor (finished s) t' b' last) → Appends sink sink' (take last.place b') → WrittenLast t b p sink sink'
last_written {sink = sink} {sink' = sink'} finish out = record { output = λ s w. subst (Appends sink sink') (finish s w).output out }

pub all_answered : {E : Type 0} {t t' t'' : List ℤ} {b b' : List ℕ} {p p' : Progress} (source source' sink sink' sink'' : Option (List ℕ)) (all result : Result Unit E)
    → StandsFor (fresh_session t) t b p → OnOk all (Streamed t b p source sink t' b' p' source' sink') → CarriedLast t' b' p' (is_ok all) t''
    → OnOk result (IsOk all) → OnOk result (WrittenLast t' b' p' sink' sink'') → OnOk result (AnsweredAll t source sink t'' source' sink'')
all_answered source source' sink sink' sink'' all (Err e) w a last taken written = tt
all_answered source source' sink sink' sink'' (Err e) (Ok x) w a last taken written = absurd (cc)
all_answered {t = t} source source' sink sink' sink'' (Ok y) (Ok x) w a last taken written =
    let s = after_bytes (fresh_session t) a.bytes in
    record {
      bytes = a.bytes;
      words = last.words _ (a.carried.stands _ w) ∙ ap (λ u. u.words) (written_last s);
      read = a.read;
      written = rw (ap (λ u. u.output) (since_written_last s))
          (Appends-trans sink sink' sink'' _ _ (a.written.output _ w) (written.output _ (a.carried.stands _ w)));
    }

-- over reads in turn, and over the last line
pub ruleset read_by_read = (carried_none, some_on, none_streamed, streamed_on)

pub ruleset over_last = (last_carried, cut_off, last_written)
