-- The tests that the lists of both loads end with, of the block itself: which of them refuses it, by what is known of its
-- length, its check and its words. Assumes nothing.
use Rattle.std.specs.Prelude.{◌≡◌, Bool, true, false, not, List, ℕ, ℤ, length, Some, None}
use Rattle.std.proofs.Common.{ap, ◌∙◌, ne_eqb}
use Rattle.refusals.specs.declared.Refusal.{Refusal}
use Rattle.refusals.specs.declared.Refusal.TheVariants as refusal
use Rattle.laws.specs.FirstLaws.{pass, stop, skip, hit, done}
use Rattle.laws.specs.First.{first}
use Rattle.versions.specs.declared.VersionRecord.{VersionRecord}
use Rattle.blocks_words.specs.Words.{block_bytes, check_wrong}
use Rattle.blocks_words.specs.WordLaws.{whole_block}
use Rattle.blocks_loads.specs.LoadedSlots.{slot_block_wrong}
use Rattle.blocks.specs.BlockTests.{block_tests, byte_tests, end_tests}
use Rattle.blocks.specs.LoadBlock.{load_block_refusal}

-- ---- 14 and 15
module _ (block : List ℕ) where
  pub bytes_14 : (length block ≡ block_bytes → ⊥) → first (byte_tests block) ≡ Some refusal.NotBlock
  bytes_14 size = hit _ (ap not (ne_eqb (length block) block_bytes size))

  module _ (size : length block ≡ block_bytes) where
    pub bytes_15 : check_wrong block ≡ true → first (byte_tests block) ≡ Some refusal.WrongCheck
    bytes_15 check = skip refusal.NotBlock _ (whole_block block size) ∙ hit _ check

    pub bytes_pass : check_wrong block ≡ false → first (byte_tests block) ≡ None
    bytes_pass check = skip refusal.NotBlock _ (whole_block block size) ∙ skip refusal.WrongCheck _ check ∙ done

-- ---- and 16 behind them
module _ (block : List ℕ) (wrong : Bool) where
  pub end_stops : {e : Refusal} → first (byte_tests block) ≡ Some e → first (end_tests block wrong) ≡ Some e
  end_stops {e} given = stop (byte_tests block) _ e given

  module _ (passed : first (byte_tests block) ≡ None) where
    pub end_16 : wrong ≡ true → first (end_tests block wrong) ≡ Some refusal.BadField
    end_16 words = pass (byte_tests block) _ passed ∙ hit _ words

    pub end_passes : wrong ≡ false → first (end_tests block wrong) ≡ None
    end_passes words = pass (byte_tests block) _ passed ∙ skip refusal.BadField _ words ∙ done

-- the list of load block is these behind the front
pub load_block_end : (t : List ℤ) (v : VersionRecord) (k : ℕ) (block : List ℕ) → first (block_tests t v k) ≡ None
    → load_block_refusal t v k block ≡ first (end_tests block (slot_block_wrong t v k block))
unfolding load_block_refusal
load_block_end t v k block h = pass (block_tests t v k) _ h
