-- A block of slots whose words are allowed is not refused 16. Assumes nothing.
use Rattle.std.specs.Prelude.{◌≡◌, false, List, ℕ, ◌<◌, ℤ}
use Rattle.std.proofs.Common.{eq-eqb}
use Rattle.laws.specs.Tests.{any}
use Rattle.laws.specs.LowestLaws.{all_fail}
use Rattle.versions.specs.declared.VersionRecord.{VersionRecord}
use Rattle.blocks_words.specs.Words.{number_place, word_at, nonzero}
use Rattle.blocks_words.specs.Longs.{block_slots}
use Rattle.blocks_loads.specs.LoadedSlots.{slot_filler_place, slot_filler_words, slot_wrong, slot_block_wrong}

pub slots_allowed : (t : List ℤ) (v : VersionRecord) (k : ℕ) (block : List ℕ) → word_at block number_place ≡ k → nonzero block slot_filler_place slot_filler_words ≡ false
    → ((j : ℕ) → j < block_slots → slot_wrong t v k block j ≡ false) → slot_block_wrong t v k block ≡ false
unfolding slot_block_wrong any
slots_allowed t v k block number filler each = rw (eq-eqb _ _ number, filler, all_fail (slot_wrong t v k block) block_slots each)
