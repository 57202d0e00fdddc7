-- Lists of tests that compute. A definition writes its tests as `all (.. ∷ [])` or `any (.. ∷ [])`; both compute to what the code's
-- a & b & c and a | b | c give, so that a function that is one such expression equals its definition as it stands. Assumes nothing.
use Rattle.std.specs.Prelude.{Bool, true, false, ◌&&◌, ◌||◌, List, [], ◌∷◌}

-- ---- every test of a list holds
abbrev pub and_all : Bool → List Bool → Bool
and_all a [] = a
and_all a (t ∷ l) = and_all (a && t) l

unfoldable pub all : List Bool → Bool
all [] = true
all (t ∷ l) = and_all t l

-- ---- some test of a list holds
abbrev pub or_any : Bool → List Bool → Bool
or_any a [] = a
or_any a (t ∷ l) = or_any (a || t) l

unfoldable pub any : List Bool → Bool
any [] = false
any (t ∷ l) = or_any t l
