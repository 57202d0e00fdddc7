-- Each call as its C function makes it: the record is four words, and the answer's numbers go into eight. Assumes nothing.
use Rattle.std.specs.Prelude.{Bool, false, cond, ◌||◌, List, [], ◌∷◌, ◌++◌, ℕ, ◌-◌, ℤ, pos, length, get_or, replicate}
use Rattle.std.proofs.lemmas.List.Edits.{sets}
use Rattle.laws.specs.Order.{eq_z}
use Rattle.versions.specs.declared.VersionRecord.{VersionRecord}
use Rattle.calls.specs.Calls.{Call}
use Rattle.calls.specs.Numbers.{numbers}
use Rattle.calls.specs.Perform.{State, perform}

-- ---- the record: current, the run mark, the oldest open version, and a word that stays as it is
abbrev pub current_word : List ℤ → ℤ
current_word r = get_or r 0 (pos 0)

abbrev pub mark_word : List ℤ → ℤ
mark_word r = get_or r 1 (pos 0)

abbrev pub oldest_word : List ℤ → ℤ
oldest_word r = get_or r 2 (pos 0)

-- the run mark is 0 or 1
abbrev pub marked : List ℤ → Bool
marked r = eq_z (mark_word r) (pos 0) || eq_z (mark_word r) (pos 1)

-- any other is refused 2, in 2's usual place: it stands for a record whose current is out of range
abbrev pub out_of_range : ℤ
out_of_range = pos 0

unfoldable pub version_of : List ℤ → VersionRecord
version_of r =
    cond (marked r)
    (record { current = current_word r; active = eq_z (mark_word r) (pos 1); oldest = oldest_word r })
    (record { current = out_of_range; active = false; oldest = out_of_range })

abbrev pub mark_of : Bool → ℤ
mark_of active = cond active (pos 1) (pos 0)

-- the record once a call has left this version: its first three words are; a record with another mark stays as it is
unfoldable pub record_with : List ℤ → VersionRecord → List ℤ
record_with r v = cond (marked r) (sets r 0 (v.current ∷ mark_of v.active ∷ v.oldest ∷ [])) r

-- ---- out: the refusal's number or 0, then the answer's numbers in order, zeros elsewhere
abbrev pub out_words : ℕ
out_words = 8

abbrev pub padded : List ℤ → List ℤ
padded ns = ns ++ replicate (out_words - length ns) (pos 0)

-- ---- what a call leaves of the lent things: the table's words, the record's and the block
abbrev pub lent : List ℤ → List ℤ → List ℕ → State
lent t r b = record { words = t; versions = version_of r; block = b }

unfoldable pub out_after : Call → State → List ℤ
out_after call st = padded (numbers (perform call st).answer)

unfoldable pub table_after : Call → State → List ℤ
table_after call st = (perform call st).state.words

unfoldable pub record_after : Call → List ℤ → State → List ℤ
record_after call r st = record_with r (perform call st).state.versions

unfoldable pub block_after : Call → State → List ℕ
block_after call st = (perform call st).state.block
