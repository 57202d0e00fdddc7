-- The tests that the lists of the saves and of load block begin with, and what is known where none of them refuses.
-- Assumes nothing.
use Rattle.std.specs.Prelude.{◌≡◌, refl, false, List, ℕ, ℤ, pos, Option, Some, None, Result, Ok, Err}
use Rattle.std.proofs.Common.{◌∙◌, leb-true}
use Rattle.refusals.specs.declared.Refusal.{Refusal}
use Rattle.refusals.specs.declared.Refusal.TheVariants as refusal
use Rattle.laws.specs.TestLaws.{not_no}
use Rattle.laws.specs.FirstLaws.{none, skip, done}
use Rattle.laws.specs.First.{first, unless}
use Rattle.laws.specs.OrderLaws.{from_to_lem}
use Rattle.versions.specs.declared.VersionRecord.{VersionRecord}
use Rattle.versions.specs.Record.{bad_record}
use Rattle.table.specs.Slots.{bad_table}
use Rattle.blocks_loads.specs.LoadedSlots.{blocks, Within}
use Rattle.blocks_saves.specs.SlotBlocks.{no_such_block}
use Rattle.blocks.specs.BlockTests.{block_tests}

-- ---- no test refuses where each fails
pub front_passes : (t : List ℤ) (v : VersionRecord) (k : ℕ) → bad_table t ≡ false → bad_record v ≡ false → v.active ≡ false → no_such_block t k ≡ false
    → first (block_tests t v k) ≡ None
front_passes t v k table versions idle number =
    skip refusal.BadTable _ table ∙ skip refusal.BadRecord _ versions ∙ skip refusal.RunActive _ idle ∙ skip refusal.NoSuchPlace _ number ∙ done

-- ---- what code below the tests requires of the table
pub within : (t : List ℤ) (v : VersionRecord) (k : ℕ) → first (block_tests t v k) ≡ None → Within t k
within t v k h =
    let no = none _ h in
    let range = from_to_lem (pos 1) (pos (blocks t)) (pos k) (not_no (no refusal.NoSuchPlace)) in
    record { sound = no refusal.BadTable; low = leb-true 1 k range.low; high = leb-true k (blocks t) range.high }

-- ---- a function that makes some tests answers their refusal, or that there is none
pub given : (m : Option Refusal) {r : Result Unit Refusal} {e : Refusal} → r ≡ unless m tt → r ≡ Err e → m ≡ Some e
given None told was = cc
given (Some e) told was = cc

pub not_given : (m : Option Refusal) {r : Result Unit Refusal} {u : Unit} → r ≡ unless m tt → r ≡ Ok u → m ≡ None
not_given None told was = refl
not_given (Some e) told was = cc
