-- What is read and written, where that is known: the bytes that were handed on are those that the source gave, and what was answered
-- to them stands behind what the sink held. Assumes nothing.
use Rattle.std.specs.Prelude.{◌≡◌, List, ℕ, ◌≤◌, ℤ, Option, length, take}
use Rattle.std.specs.Io.KnownBytes.{Appends, Consumes}
use Rattle.steps_lines.specs.declared.Progress.{Progress}
use Rattle.steps_lines.specs.LineSessions.{LineSession, fresh_session, after_bytes, finished}
use Rattle.steps_lines.specs.Standing.{StandsFor}
use Rattle.steps_io.specs.Carried.{Carried, CarriedFront}

-- what was answered to some bytes was written
pub record Written (t : List ℤ) (b : List ℕ) (p : Progress) (sink : Option (List ℕ)) (bytes : List ℕ) (sink' : Option (List ℕ)) : Type 0 where
  pub output : (s : LineSession) → StandsFor s t b p → Appends sink sink' (after_bytes s bytes).output

-- and what was answered to the last line
pub record WrittenLast (t : List ℤ) (b : List ℕ) (p : Progress) (sink sink' : Option (List ℕ)) : Type 0 where
  pub output : (s : LineSession) → StandsFor s t b p → Appends sink sink' (finished s).output

-- one read gave the first bytes of its input, of which a front was handed on, where a write failed
pub record ReadFront (t : List ℤ) (b : List ℕ) (p : Progress) (source : Option (List ℕ)) (input : List ℕ) (t' : List ℤ) (b' : List ℕ) (p' : Progress)
    (source' : Option (List ℕ)) : Type 0 where
  pub got : ℕ
  pub within : got ≤ length input
  pub read : Consumes source source' (take got input)
  pub front : CarriedFront t b p (take got input) t' b' p'

-- what was read was handed on, and answered
pub record Streamed (t : List ℤ) (b : List ℕ) (p : Progress) (source sink : Option (List ℕ)) (t' : List ℤ) (b' : List ℕ) (p' : Progress)
    (source' sink' : Option (List ℕ)) : Type 0 where
  pub bytes : List ℕ
  pub carried : Carried t b p bytes t' b' p'
  pub read : Consumes source source' bytes
  pub written : Written t b p sink bytes sink'

-- from a fresh start: so was all, the last line too
pub record AnsweredAll (t : List ℤ) (source sink : Option (List ℕ)) (t' : List ℤ) (source' sink' : Option (List ℕ)) : Type 0 where
  pub bytes : List ℕ
  pub words : t' ≡ (finished (after_bytes (fresh_session t) bytes)).words
  pub read : Consumes source source' bytes
  pub written : Appends sink sink' (finished (after_bytes (fresh_session t) bytes)).output
