-- What a save hands out, of the block that is made or the refusal: its answer, and the block, zeros where it is refused. Assumes
-- nothing.
use Rattle.std.specs.Prelude.{List, ℕ, Result, Ok, Err}
use Rattle.refusals.specs.declared.Refusal.{Refusal}
use Rattle.blocks_words.specs.Words.{zero_block}

abbrev pub answered : Result (List ℕ) Refusal → Result (Unit {0}) Refusal
answered (Ok block) = Ok tt
answered (Err e) = Err e

abbrev pub handed_out : Result (List ℕ) Refusal → List ℕ
handed_out (Ok block) = block
handed_out (Err e) = zero_block
