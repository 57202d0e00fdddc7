-- Bytes put into a lent buffer from a place on: what is left. Assumes nothing.
use Rattle.std.specs.Prelude.{◌≡◌, List, ℕ, ◌+◌, length}
use Rattle.std.proofs.lemmas.List.Edits.{sets}

-- bytes were put from a place on, and the place after them was answered
pub record Put (buffer : List ℕ) (place : ℕ) (bytes : List ℕ) (r : ℕ) (buffer' : List ℕ) : Type 0 where
  pub answer : r ≡ place + length bytes
  pub stored : buffer' ≡ sets buffer place bytes
