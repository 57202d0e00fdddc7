-- How a session goes on standing in memory. A byte that is kept lengthens what is kept as it lengthens the line, up to the bytes
-- that tell what a line asks; past them neither grows. A line that is answered from what is kept is answered as it is, since
-- those bytes tell what it asks, and its reply stands after what was answered before. Assumes nothing.
use Rattle.std.specs.Prelude.{◌≡◌, refl, List, [], ◌∷◌, ◌++◌, ℕ, ◌+◌, ◌≤◌, ◌<◌, ℤ, length, take}
use Rattle.std.proofs.Common.{sym, ap, ◌∙◌, arith, length-append, take_all, length-take, length-take-le}
use Rattle.std.proofs.lemmas.List.{take-append-le}
use Rattle.laws.specs.TestLaws.{by_order}
use Rattle.versions.specs.declared.VersionRecord.{VersionRecord}
use Rattle.steps_commands.specs.Commands.{asked}
use Rattle.steps_commands.specs.LongLineLaws as long
use Rattle.steps_replies.specs.Written.{longest_line}
use Rattle.steps_replies.specs.OutputLaws.{up_to}
use Rattle.steps_answers.specs.Answers.{reply, words_after, record_after, Answered}
use Rattle.steps_lines.specs.declared.Progress.{Progress}
use Rattle.steps_lines.specs.Kept.{Kept}
use Rattle.steps_lines.specs.LineSessions.{LineSession, ended, longer, finished}
use Rattle.steps_lines.specs.LineSessionLaws.{no_last, a_last}
use Rattle.steps_lines.specs.Standing.{line_bytes, StandsFor}

-- ---- what is kept of a line is all of it, or as long as what tells what it asks
by_length : {P : Type 0} (line kept : List ℕ) → kept ≡ take line_bytes line
    → (kept ≡ line → length line ≤ line_bytes → P) → (length kept ≡ line_bytes → line_bytes < length line → P) → P
by_length line kept e short long =
    by_order line_bytes (length line)
    (λ l. long (ap length e ∙ length-take-le line_bytes line (omega arith)) l)
    (λ l. short (e ∙ take_all line_bytes line l) l)

module _ {s : LineSession} {t : List ℤ} {b : List ℕ} {p : Progress} (w : StandsFor s t b p) where
  -- ---- no more is kept than tells what it asks
  pub stands_short : length p.line.items ≤ line_bytes
  stands_short = omega (arith, ap length w.line, length-take line_bytes s.line)

  -- ---- a byte of a line
  pub stands_longer : (byte : ℕ) (line : Kept) → length p.line.items < line_bytes → line.items ≡ p.line.items ++ (byte ∷ [])
      → StandsFor (longer s byte) t b (record { versions = p.versions; line = line; place = p.place })
  stands_longer byte line l e = record {
    words = w.words;
    versions = w.versions;
    line = by_length s.line p.line.items w.line
        (λ same short. e ∙ ap (λ front. front ++ (byte ∷ [])) same
        ∙ sym (take_all line_bytes (s.line ++ (byte ∷ [])) (omega (arith, length-append s.line (byte ∷ []), ap length same))))
        (λ full long. absurd (omega arith));
    output = w.output;
  }

  pub stands_full : (byte : ℕ) → length p.line.items ≡ line_bytes → StandsFor (longer s byte) t b p
  stands_full byte full = record {
    words = w.words;
    versions = w.versions;
    line = by_length s.line p.line.items w.line
        (λ same short. w.line ∙ sym (take-append-le line_bytes s.line (byte ∷ []) (omega (arith, ap length same))))
        (λ full long. w.line ∙ sym (take-append-le line_bytes s.line (byte ∷ []) (omega arith)));
    output = w.output;
  }

  -- ---- a line that ends: what it asks is done, and the reply stands behind those that wait, in this buffer or another
  pub stands_replied : {t' : List ℤ} {v : VersionRecord} {line : Kept} {place : ℕ} {b' : List ℕ} → t' ≡ words_after (asked p.line.items) t p.versions
      → v ≡ record_after (asked p.line.items) t p.versions → take place b' ≡ take p.place b ++ reply (asked p.line.items) t p.versions → line.items ≡ []
      → StandsFor (ended s) t' b' (record { versions = v; line = line; place = place })
  unfolding ended
  stands_replied words versions replied empty =
      let tells : asked p.line.items ≡ asked s.line = ap asked w.line ∙ long.kept s.line in
      record {
        words = words ∙ rw (tells, w.words, w.versions) refl;
        versions = versions ∙ rw (tells, w.words, w.versions) refl;
        line = empty;
        output = replied ∙ rw (tells, w.output, w.words, w.versions) refl;
      }

  pub stands_ended : {t' : List ℤ} {v : VersionRecord} {line : Kept} {place : ℕ} {b' : List ℕ} → p.place + longest_line ≤ length b
      → Answered t p.versions p.line.items b p.place place t' v b' → line.items ≡ []
      → StandsFor (ended s) t' b' (record { versions = v; line = line; place = place })
  stands_ended room a empty = stands_replied a.words a.versions (up_to room a.replied) empty

  -- ---- the last line: something is kept of it exactly if it has a byte
  pub stands_last : 0 < length p.line.items → finished s ≡ ended s
  stands_last l = a_last s (by_length s.line p.line.items w.line (λ same short. omega (arith, ap length same)) (λ full long. omega arith))

  pub stands_none : length p.line.items ≡ 0 → finished s ≡ s
  stands_none e = no_last s (by_length s.line p.line.items w.line (λ same short. sym (ap length same) ∙ e) (λ full long. absurd (omega arith)))
