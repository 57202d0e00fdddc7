-- The number of each refusal, as RULES.md (Refusals) has it. Assumes nothing.
use Rattle.std.specs.Prelude.{ℕ}
use Rattle.refusals.specs.declared.Refusal.{Refusal}
use Rattle.refusals.specs.declared.Refusal.TheVariants.{BadTable, BadRecord, NoSuchVersion, Expired, NoSuchPlace, BrokenSlot, RunActive, NoRun, NoVersionLeft, KeyNotLive, TableFull, BadTotal, NotBlock, WrongCheck, BadField}

abbrev pub number : Refusal → ℕ
-- the table's length is 0, not a multiple of 8, or above 8,192 words
number BadTable = 1
-- the record's current version is not in 1 to 1,000,000,000, or is 1,000,000,000 with a run active; or its oldest open version is below
-- 1, is neither current nor current − 1, or is not current during a run
number BadRecord = 2
-- the session is below 1 or above current
number NoSuchVersion = 3
-- the session is below the oldest open version
number Expired = 4
-- the slot number is not below the slots, or the block number is not one of the blocks
number NoSuchPlace = 5
-- a slot that the call rests on is not well formed
number BrokenSlot = 6
-- a run is active
number RunActive = 7
-- no run is active
number NoRun = 8
-- current is the largest version
number NoVersionLeft = 9
-- the key is not live, deleted or absent
number KeyNotLive = 11
-- there is no slot to take
number TableFull = 12
-- a given total is not lawful
number BadTotal = 13
-- the block is not 512 bytes
number NotBlock = 14
-- the block's check is wrong
number WrongCheck = 15
-- the check is right, and some field of the block is not allowed
number BadField = 16
