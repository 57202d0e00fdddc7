-- A saved block in which one word was changed is refused, by the test of its check. Assumes nothing.
use Rattle.std.specs.Prelude.{◌≡◌, false, List, ℕ, ℤ, Some, None}
use Rattle.std.proofs.Common.{◌∙◌}
use Rattle.refusals.specs.declared.Refusal.TheVariants as refusal
use Rattle.versions.specs.declared.VersionRecord.{VersionRecord}
use Rattle.versions.specs.Record.{bad_record}
use Rattle.table.specs.Slots.{bad_table}
use Rattle.blocks_words.specs.AlteredWord.{OneWordChanged, check_wrong_lem}
use Rattle.blocks_headers.specs.HeaderFieldLaws.{header_words_lem}
use Rattle.blocks.specs.HeaderLaws.{header_lawful, header_block}
use Rattle.blocks_saves.specs.SlotBlocks.{no_such_block}
use Rattle.blocks.specs.FrontLaws.{front_passes}
use Rattle.blocks.proofs.EndLaws.{bytes_15, end_stops, load_block_end}
use Rattle.blocks_saves.specs.SlotsBack.{slot-words}
use Rattle.blocks.specs.SavedBlockLaws.{slots-saved, number_fits}
use Rattle.blocks.specs.SaveHeader.{save_header_refusal, save_header_block}
use Rattle.blocks.specs.SaveBlock.{save_block_refusal, save_block_block}
use Rattle.blocks.specs.LoadHeader.{load_header_refusal}
use Rattle.blocks.specs.LoadBlock.{load_block_refusal}

-- a load of a header refuses it
pub header_refused : (t : List ℤ) (v : VersionRecord) (changed : List ℕ)
    → save_header_refusal t v ≡ None → OneWordChanged (save_header_block t v) changed → load_header_refusal changed ≡ Some refusal.WrongCheck
unfolding load_header_refusal
header_refused t v changed allowed one =
    end_stops changed _ (bytes_15 changed one.size (check_wrong_lem _ changed (header_words_lem _ _ _ (header_lawful t v allowed)) (rw (header_block t v allowed) at one)))

-- and so does a load of slots that no earlier test refuses
pub block_refused : (t : List ℤ) (v : VersionRecord) (k : ℕ) (changed : List ℕ)
    → save_block_refusal t v k ≡ None → OneWordChanged (save_block_block t v k) changed
    → (u : List ℤ) (v' : VersionRecord) (k' : ℕ) → bad_table u ≡ false → bad_record v' ≡ false → v'.active ≡ false → no_such_block u k' ≡ false
    → load_block_refusal u v' k' changed ≡ Some refusal.WrongCheck
block_refused t v k changed allowed one u v' k' table versions idle number =
    load_block_end u v' k' changed (front_passes u v' k' table versions idle number)
    ∙ end_stops changed _ (bytes_15 changed one.size (check_wrong_lem _ changed (slot-words t k (number_fits t v k allowed)) (rw (slots-saved t v k allowed) at one)))
