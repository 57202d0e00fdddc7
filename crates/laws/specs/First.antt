-- Refusals as one list of (test, refusal), in the order of RULES.md (The order of tests): the first that applies is given. Assumes
-- nothing.
use Rattle.std.specs.Prelude.{Bool, cond, List, [], ◌∷◌, Option, Some, None, Result, Ok, Err}

-- the refusal of the first test that holds, none where none does
unfoldable pub first : {E : Type 0} → List (Bool × E) → Option E
first [] = None
first (t ∷ l) = cond t.0 (Some t.1) (first l)

-- an answer: the refusal, or what is done where nothing is refused
abbrev pub unless : {A E : Type 0} → Option E → A → Result A E
unless (Some e) done = Err e
unless None done = Ok done

-- what is left: what stood, where the call is refused, or else what it makes of that
abbrev pub kept_or : {A E : Type 0} → Option E → A → A → A
kept_or (Some e) stood made = stood
kept_or None stood made = made
