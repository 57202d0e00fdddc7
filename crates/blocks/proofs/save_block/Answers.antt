-- `blocks::save_block`: the answer and the block are those of what `made_block` makes. Assumes nothing.
use Rattle.std.proofs.Common.{ap, ◌∙◌}
use Rattle.blocks.specs.SavedParts.{answered, handed_out}
use Rattle.blocks.specs.SaveBlock.{save_block_refusal, saved_block, save_block_block}
use Rattle.blocks.specs.ContractLaws.{answered_by, handed_out_by}
use Rattle.blocks.proofs.save_block.Goals as goal

pub returns : goal.returns
unfolding save_block_block
returns c = record {
  answer = c.from.ensures.0 ∙ ap answered c.made_block.ensures ∙ answered_by (save_block_refusal c.args.table.now c.args.versions c.args.number) (saved_block c.args.table.now c.args.number);
  block = c.from.ensures.1 ∙ ap handed_out c.made_block.ensures ∙ handed_out_by (save_block_refusal c.args.table.now c.args.versions c.args.number) (saved_block c.args.table.now c.args.number);
}
