-- A save that is not refused: its table is sound, and its block is the one of its slots' words, which fit. Assumes nothing.
use Rattle.std.specs.Prelude.{◌≡◌, false, List, ℕ, ◌<◌, ℤ, None}
use Rattle.std.proofs.Common.{arith}
use Rattle.refusals.specs.declared.Refusal.TheVariants as refusal
use Rattle.laws.specs.FirstLaws.{none}
use Rattle.laws.specs.First.{first}
use Rattle.versions.specs.declared.VersionRecord.{VersionRecord}
use Rattle.table.specs.Slots.{bad_table}
use Rattle.table.specs.SlotLaws.{lengths}
use Rattle.blocks_words.specs.Words.{word_base, block_of}
use Rattle.blocks_saves.specs.SlotBlocks.{slot_block_words}
use Rattle.blocks.specs.FrontLaws.{front_passes, within}
use Rattle.blocks.specs.BlockTests.{block_tests}
use Rattle.blocks.specs.SaveBlock.{save_block_refusal, saved_block, save_block_block}

module _ (t : List ℤ) (v : VersionRecord) (k : ℕ) (allowed : save_block_refusal t v k ≡ None) where
  -- the tests before its slots do not refuse it
  pub front : first (block_tests t v k) ≡ None
  unfolding save_block_refusal
  front = let no = none _ allowed in front_passes t v k (no refusal.BadTable) (no refusal.BadRecord) (no refusal.RunActive) (no refusal.NoSuchPlace)

  -- so the table is sound
  pub table-sound : bad_table t ≡ false
  table-sound = (within t v k front).sound

  -- the block is that of its slots' words
  pub slots-saved : save_block_block t v k ≡ block_of (slot_block_words t k)
  unfolding save_block_block saved_block
  slots-saved = rw allowed

  -- whose number is a word
  pub number_fits : k < word_base
  number_fits = omega (arith, (within t v k front).high, (lengths t table-sound).few)
