-- A session among the other calls: it reads a slot, or another call is made. The slots that it asks for, the answers that it gets,
-- and the rows in them. Assumes nothing.
use Rattle.std.specs.Prelude.{◌≡◌, true, List, [], ◌∷◌, ◌++◌, option_to_list, ℕ, pos, Ok, Err}
use Rattle.calls.specs.Calls.{Answer, numbered, seen, rolled, placed, saved, header, loaded}
use Rattle.history.specs.Databases.{Database}
use Rattle.history.specs.Kinds.{Kind, accepted, World, answer_of, next}

pub data Turn (K : Kind) : Type 0 where
  mine : ℕ → Turn K
  other : K.Call → Turn K

module _ {K : Kind} where
  -- the call of a turn, for a session at s
  abbrev pub call_of : ℕ → Turn K → K.Call
  call_of s (mine k) = K.read_slot (pos s) k
  call_of s (other call) = call

  abbrev pub calls_of : ℕ → List (Turn K) → List K.Call
  calls_of s [] = []
  calls_of s (x ∷ turns) = call_of s x ∷ calls_of s turns

  -- the slots that it asks for, in its order
  abbrev pub slots_asked : List (Turn K) → List ℕ
  slots_asked [] = []
  slots_asked (mine k ∷ turns) = k ∷ slots_asked turns
  slots_asked (other call ∷ turns) = slots_asked turns

  -- the answers that it gets
  abbrev pub answers_got : ℕ → List (Turn K) → World K → List Answer
  answers_got s [] w = []
  answers_got s (mine k ∷ turns) w = answer_of (K.read_slot (pos s) k) w ∷ answers_got s turns (next (K.read_slot (pos s) k) w)
  answers_got s (other call ∷ turns) w = answers_got s turns (next call w)

abbrev pub NoneRefused : List Answer → Type 0
NoneRefused [] = Unit {0}
NoneRefused (a ∷ l) = (accepted a ≡ true) × NoneRefused l

-- the rows in what it gets
abbrev pub rows_in : Answer → Database
rows_in (numbered r) = []
rows_in (seen (Ok r)) = option_to_list r
rows_in (seen (Err e)) = []
rows_in (rolled r) = []
rows_in (placed r) = []
rows_in (saved r) = []
rows_in (header r) = []
rows_in (loaded r) = []

abbrev pub rows_got : List Answer → Database
rows_got [] = []
rows_got (a ∷ l) = rows_in a ++ rows_got l
