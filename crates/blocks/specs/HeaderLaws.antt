-- A saved header: where the save is not refused its block is the one of the header's words; slots, current and oldest are lawful, and
-- they are what a load reads of it. Assumes nothing.
use Rattle.std.specs.Prelude.{◌≡◌, refl, false, List, ℕ, ◌≤◌, T, ℤ, pos, None}
use Rattle.std.proofs.Math.Path.{ap}
use Rattle.std.proofs.Common.{arith, leb-true}
use Rattle.std.proofs.Math.IntN.{nat_abs}
use Rattle.std.specs.Int.Signed.{non_neg}
use Rattle.refusals.specs.declared.Refusal.TheVariants as refusal
use Rattle.laws.specs.FirstLaws.{none}
use Rattle.versions.specs.declared.VersionRecord.{VersionRecord}
use Rattle.versions.specs.Record.{largest_version, bad_record}
use Rattle.versions.specs.RecordLaws.{sound, counts}
use Rattle.table.specs.Slots.{slots}
use Rattle.table.specs.SlotLaws.{lengths}
use Rattle.blocks_words.specs.Words.{block_of}
use Rattle.blocks_headers.specs.HeaderFields.{header_words}
use Rattle.blocks_headers.specs.HeaderFieldLaws.{Lawful, oldest_itself, slots-back, current-back, oldest_back}
use Rattle.blocks.specs.SaveHeader.{save_header_refusal, saved_header, save_header_block}
use Rattle.blocks.specs.LoadHeader.{header_of}

-- a version is a number of its own size, and no larger than the largest
pub record Natural (z : ℤ) : Type 0 where
  pub positive : T (non_neg z)
  pub back : pos (nat_abs z) ≡ z
  pub last : nat_abs z ≤ nat_abs largest_version

natural : {z : ℤ} {n : ℕ} → z ≡ pos n → n ≤ nat_abs largest_version → Natural z
natural e h = rw e (record { positive = tt; back = refl; last = h })

-- so are current and oldest of a record that is not refused
module _ (v : VersionRecord) (known : bad_record v ≡ false) where
  largest : (counts known).current-number ≤ nat_abs largest_version
  largest = leb-true _ (nat_abs largest_version) (rw (counts known).current at (sound known).high)

  pub current_natural : Natural v.current
  current_natural = natural (counts known).current largest

  pub oldest_natural : Natural v.oldest
  oldest_natural = let n = counts known in natural n.oldest (omega (arith, n.below, largest))

-- ---- a save that is not refused
module _ (t : List ℤ) (v : VersionRecord) (allowed : save_header_refusal t v ≡ None) where
  known : bad_record v ≡ false
  unfolding save_header_refusal
  known = none _ allowed refusal.BadRecord

  -- its header is lawful
  pub header_lawful : Lawful (slots t) (nat_abs v.current) (nat_abs v.oldest)
  unfolding save_header_refusal
  header_lawful =
      let size = lengths t (none _ allowed refusal.BadTable) in
      let n = counts known in
      let current : nat_abs v.current ≡ n.current-number = ap nat_abs n.current in
      let oldest : nat_abs v.oldest ≡ n.oldest_number = ap nat_abs n.oldest in
      record {
        some = size.some;
        few = size.few;
        first = omega (arith, n.first);
        below = omega (arith, n.below);
        near = omega (arith, n.near);
        last = (current_natural v known).last;
      }

  -- the block is that of its words
  pub header_block : save_header_block t v ≡ block_of (header_words (slots t) (nat_abs v.current) (nat_abs v.oldest))
  unfolding save_header_block saved_header
  header_block = rw allowed

  -- and they are the slots of the table, the current version and the oldest open one
  pub header_read : header_of (save_header_block t v) ≡ record { slots = slots t; current = v.current; oldest = v.oldest }
  unfolding header_of
  header_read =
      let lawful = header_lawful in
      rw (header_block, slots-back _ _ _ lawful, current-back _ _ _ lawful, oldest_back _ _ _ lawful)
      (rw (oldest_itself (nat_abs v.current) _ lawful.first, (current_natural v known).back, (oldest_natural v known).back))
