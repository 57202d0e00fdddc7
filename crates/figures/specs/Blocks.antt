-- The figures of RULES.md on blocks, computed: the checks of saved blocks, that no block is saved while a run is active, and what a
-- header whose word 3 is 0 answers. The program `blocks_checks` runs the saves on the code. Assumes nothing.
use Rattle.std.specs.Prelude.{◌≡◌, refl, List, [], ◌∷◌, ◌++◌, ℤ, pos, negsuc, Some, Ok, Err}
use Rattle.laws.specs.Tests.{all, any}
use Rattle.laws.specs.First.{first}
use Rattle.laws.specs.Lowest.{lowest, some}
use Rattle.versions.specs.Record.{bad_record, fresh_record}
use Rattle.table.specs.Slots.{fresh_table, bad_table, slot_at}
use Rattle.table_forms.specs.Totals.{lawful}
use Rattle.table_forms.specs.Formed.{all_zeros, totals_lawful, used_well, well_formed}
use Rattle.blocks_words.specs.Words.{check_place, bytes_of, block_of, word_at, check_wrong}
use Rattle.blocks_headers.specs.HeaderFields.{header_words, oldest_of, header_wrong}
use Rattle.blocks_saves.specs.SlotBlocks.{slot_block_words, block_broken}
use Rattle.refusals.specs.declared.Refusal.TheVariants as refusal
use Rattle.blocks.specs.SaveHeader.{save_header_refusal, saved_header, save_header_block}
use Rattle.blocks.specs.SaveBlock.{save_block_refusal, saved_block, save_block_block}
use Rattle.blocks.specs.LoadHeader.{load_header_refusal, header_of, load_header_answer}
use Rattle.figures.specs.Cases.{idle_at, running_at}

-- eight slots, the first as run 2, insert, (1, 19961014), 10,000 and a total two
abbrev pub one_row : ℤ → List ℤ
one_row second = (pos 2 ∷ pos 1 ∷ pos 1 ∷ pos 19961014 ∷ pos 10000 ∷ second ∷ pos 0 ∷ pos 0 ∷ []) ++ fresh_table 7

pub record Blocks : Type 0 where
  -- block 0 for 8 slots, current 1, oldest 1: check 10; block 1 of that fresh table: check 1
  pub header : word_at (save_header_block (fresh_table 8) fresh_record) check_place ≡ 10
  pub slots : word_at (save_block_block (fresh_table 8) fresh_record 1) check_place ≡ 1
  -- at current 1 with a run active no block is saved
  pub header_refused : save_header_refusal (fresh_table 8) (running_at 1) ≡ Some refusal.RunActive
  pub slots_refused : save_block_refusal (fresh_table 8) (running_at 1) 1 ≡ Some refusal.RunActive
  -- at current 2, slot 0 as run 2, insert, (1, 19961014), 10,000, 0: check 19971019; with total two −1: 19971017
  pub row : word_at (save_block_block (one_row (pos 0)) (idle_at 2) 1) check_place ≡ 19971019
  pub minus : word_at (save_block_block (one_row (negsuc 0)) (idle_at 2) 1) check_place ≡ 19971017
  -- a header of 8 slots with a 0 in word 3: current 4 is answered with oldest 3, current 1 with oldest 1
  pub before : load_header_answer (block_of (header_words 8 4 0)) ≡ Ok (record { slots = 8; current = pos 4; oldest = pos 3 })
  pub before_first : load_header_answer (block_of (header_words 8 1 0)) ≡ Ok (record { slots = 8; current = pos 1; oldest = pos 1 })
  -- current 4 with a 2 there is refused
  pub far : load_header_answer (block_of (header_words 8 4 2)) ≡ Err refusal.BadField

pub blocks : Blocks
unfolding all any first lowest some bad_record bad_table slot_at lawful all_zeros totals_lawful used_well well_formed bytes_of block_of word_at header_words slot_block_words block_broken save_header_refusal saved_header save_header_block save_block_refusal saved_block save_block_block oldest_of header_wrong check_wrong load_header_refusal header_of load_header_answer
blocks = record { header = refl; slots = refl; header_refused = refl; slots_refused = refl; row = refl; minus = refl; before = refl; before_first = refl; far = refl }
