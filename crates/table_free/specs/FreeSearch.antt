-- What the search for a free slot has passed: slots of which none is free. Assumes nothing.
use Rattle.std.specs.Prelude.{◌≡◌, true, List, ℕ, ℤ}
use Rattle.laws.specs.Lowest.{NoneBelow}
use Rattle.versions.specs.declared.VersionRecord.{VersionRecord}
use Rattle.table.specs.Slots.{slot_at}
use Rattle.table_forms.specs.Operations.{live}
use Rattle.table_free.specs.Free.{free}

-- ---- a search has passed the slots below a place: none of them is free
abbrev pub Taken : List ℤ → VersionRecord → ℕ → Type 0
Taken t v = NoneBelow (λ j. free (slot_at t j) v)

-- it passes four slots that are all live
abbrev pub Alive : List ℤ → ℕ → Type 0
Alive t j = live (slot_at t j) ≡ true
