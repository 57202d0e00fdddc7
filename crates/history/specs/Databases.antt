-- A database: keys with totals, no key twice. What a change makes of one, what a read of one answers, and the keys that several
-- hold together. No table word is read here. Assumes nothing.
use Rattle.std.specs.Prelude.{◌≡◌, Bool, false, not, ◌&&◌, List, [], ◌∷◌, ◌++◌, filter, find, ℕ, zero, suc, ℤ, pos, ◌+ℤ◌, length, Option, Some, None}
use Rattle.std.specs.List.{list_any}
use Rattle.calls.specs.Rows.{Row, Sums}
use Rattle.calls.specs.Terms.{eq_z, not_reported}

-- rows, each a key of two words and two totals
abbrev pub Database : Type 0
Database = List Row

abbrev pub row : ℤ → ℤ → ℤ → ℤ → Row
row key1 key2 total1 total2 = record { key1 = key1; key2 = key2; total1 = total1; total2 = total2 }

-- the row has that key
abbrev pub is_key : ℤ → ℤ → Row → Bool
is_key key1 key2 r = eq_z r.key1 key1 && eq_z r.key2 key2

-- some row has it
abbrev pub holds : ℤ → ℤ → Database → Bool
holds key1 key2 d = list_any (is_key key1 key2) d

-- no key twice
abbrev pub NoRepeat : Database → Type 0
NoRepeat [] = Unit {0}
NoRepeat (r ∷ d) = (holds r.key1 r.key2 d ≡ false) × NoRepeat d

-- ---- changes
-- the rows of other keys
abbrev pub without : ℤ → ℤ → Database → Database
without key1 key2 d = filter (λ r. not (is_key key1 key2 r)) d

-- a key is given two totals, or is taken out
pub data Change : Type 0 where
  gives : ℤ → ℤ → ℤ → ℤ → Change
  takes_out : ℤ → ℤ → Change

-- what a change leaves: the row in place of what the key had, or the rows of the other keys
abbrev pub changed : Change → Database → Database
changed (gives key1 key2 total1 total2) d = row key1 key2 total1 total2 ∷ without key1 key2 d
changed (takes_out key1 key2) d = without key1 key2 d

-- what several leave, made one by one
abbrev pub made_by : List Change → Database → Database
made_by [] d = d
made_by (c ∷ changes) d = made_by changes (changed c d)

-- ---- what a read answers
-- the row of a key, or no row
abbrev pub found : ℤ → ℤ → Database → Option Row
found key1 key2 d = find (is_key key1 key2) d

-- no row, or the row that the database has of its key
abbrev pub IsOf : Database → Option Row → Type 0
IsOf d (Some r) = found r.key1 r.key2 d ≡ Some r
IsOf d None = Unit {0}

-- ---- the roll-up of a region
-- a region: the rows with a first key word
abbrev pub region : ℤ → Database → Database
region key1 d = filter (λ r. eq_z r.key1 key1) d

-- of rows, those that report a total: it is not what says that it is not reported
abbrev pub reporting : (Row → ℤ) → Database → Database
reporting total d = filter (λ r. not (eq_z (total r) not_reported)) d

-- the sum of a total over rows
abbrev pub sum_of : (Row → ℤ) → Database → ℤ
sum_of total [] = pos 0
sum_of total (r ∷ d) = total r +ℤ sum_of total d

-- how many rows the region has, how many of them report each total, and the sum of each total over those that report it
abbrev pub rolled_up : ℤ → Database → Sums
rolled_up key1 d =
    record {
      rows = length (region key1 d);
      reported1 = length (reporting (λ r. r.total1) (region key1 d));
      reported2 = length (reporting (λ r. r.total2) (region key1 d));
      sum1 = sum_of (λ r. r.total1) (reporting (λ r. r.total1) (region key1 d));
      sum2 = sum_of (λ r. r.total2) (reporting (λ r. r.total2) (region key1 d));
    }

-- ---- the numbers of slots
abbrev pub up_to : ℕ → List ℕ
up_to zero = []
up_to (suc m) = m ∷ up_to m

-- ---- the keys that databases hold together, each once: those of one, and those that the others have beside
abbrev pub beside : Database → Database → Database
beside a b = filter (λ r. not (holds r.key1 r.key2 a)) b

abbrev pub together : Database → Database → Database
together a b = a ++ beside a b

abbrev pub all_together : List Database → Database → Database
all_together [] last = last
all_together (d ∷ ds) last = together d (all_together ds last)
