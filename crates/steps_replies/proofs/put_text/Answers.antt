-- `steps_replies::put_text`: a text laid over as many bytes as it has is its bytes stored in turn (`pasted`). Assumes nothing.
use Rattle.std.proofs.Common.{refl, arith, rules}
use Rattle.steps_replies.specs.WrittenLaws.{pasted}
use Rattle.steps_replies.proofs.put_text.Goals as goal

pub returns : goal.returns
returns c = record { answer = refl; stored = pasted c.args.text.now c.args.buffer.now _ c.args.place _ (search rules) (omega arith) c.requires }
