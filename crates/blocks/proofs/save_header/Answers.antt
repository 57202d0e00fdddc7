-- `blocks::save_header`: the answer and the block are those of what `made_header` makes. Assumes nothing.
use Rattle.std.proofs.Common.{ap, ◌∙◌}
use Rattle.blocks.specs.SavedParts.{answered, handed_out}
use Rattle.blocks.specs.SaveHeader.{save_header_refusal, saved_header, save_header_block}
use Rattle.blocks.specs.ContractLaws.{answered_by, handed_out_by}
use Rattle.blocks.proofs.save_header.Goals as goal

pub returns : goal.returns
unfolding save_header_block
returns c = record {
  answer = c.from.ensures.0 ∙ ap answered c.made_header.ensures ∙ answered_by (save_header_refusal c.args.table.now c.args.versions) (saved_header c.args.table.now c.args.versions);
  block = c.from.ensures.1 ∙ ap handed_out c.made_header.ensures ∙ handed_out_by (save_header_refusal c.args.table.now c.args.versions) (saved_header c.args.table.now c.args.versions);
}
