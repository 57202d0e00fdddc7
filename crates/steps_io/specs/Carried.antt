-- How a session is carried from one write to the next: every session that stood before stands after as the bytes that were handed on
-- have led it, with its replies written out. `steps_lines/specs/LineSessionLaws.since_written` says that nothing but the replies
-- differs from the session that keeps them, and that what was written before stands in front of them. Assumes nothing.
use Rattle.std.specs.Prelude.{◌≡◌, Bool, cond, List, ℕ, ℤ, take}
use Rattle.steps_lines.specs.declared.Progress.{Progress}
use Rattle.steps_lines.specs.LineSessions.{LineSession, fresh_session, written_out, after_bytes, finished}
use Rattle.steps_lines.specs.Standing.{StandsFor}

-- what is left at the end: the last line was answered, where every write before it was taken
abbrev pub at_end : Bool → LineSession → LineSession
at_end taken s = cond taken (finished s) s

module _ (t : List ℤ) (b : List ℕ) (p : Progress) where
  -- these bytes were handed on
  pub record Carried (bytes : List ℕ) (t' : List ℤ) (b' : List ℕ) (p' : Progress) : Type 0 where
    pub stands : (s : LineSession) → StandsFor s t b p → StandsFor (written_out (after_bytes s bytes)) t' b' p'

  -- the front of input was handed on, where a write failed
  pub record CarriedFront (input : List ℕ) (t' : List ℤ) (b' : List ℕ) (p' : Progress) : Type 0 where
    pub count : ℕ
    pub carried : Carried (take count input) t' b' p'

  -- some bytes were handed on, read after read
  pub record CarriedSome (t' : List ℤ) (b' : List ℕ) (p' : Progress) : Type 0 where
    pub bytes : List ℕ
    pub carried : Carried bytes t' b' p'

  -- the end: the last line was answered where every write before it was taken, and else the table stays as the session left it
  pub record CarriedLast (taken : Bool) (t' : List ℤ) : Type 0 where
    pub words : (s : LineSession) → StandsFor s t b p → t' ≡ (at_end taken s).words

-- from a fresh start: the table is left as some bytes lead it, to the end of the last line or to a write that failed
pub record CarriedAll (t t' : List ℤ) : Type 0 where
  pub bytes : List ℕ
  pub taken : Bool
  pub words : t' ≡ (at_end taken (after_bytes (fresh_session t) bytes)).words
