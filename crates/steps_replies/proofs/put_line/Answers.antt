-- `steps_replies::put_line`: a turn puts a space and a number behind what stands, and at the end a newline (`then`). Assumes nothing.
use Rattle.std.proofs.Common.{arith, ◌≡◌, ◌+◌, ◌∷◌, [], ◌++◌, take, flat_map}
use Rattle.std.proofs.lemmas.Grind.{common_steps}
use Rattle.steps_commands.specs.Commands.{space_byte}
use Rattle.steps_replies.specs.Replies.{newline_byte, line_by}
use Rattle.steps_replies.specs.WrittenLaws.{then}
use Rattle.steps_replies.proofs.put_line.Goals as goal

pub loop-number-preserved : goal.loop-number-preserved
loop-number-preserved g c =
    let spaced = flat_map (λ n. space_byte ∷ g.I.Integer.text n) in
    let before = c.args.word.now ++ spaced (take c.loop-number.number-index c.args.numbers.now) in
    let more : c.args.word.now ++ spaced (take (c.loop-number.number-index + 1) c.args.numbers.now) ≡ before ++ ((space_byte ∷ []) ++ c.format.result.now) = grind (arith, common_steps) in
    record {
      put = rw more (then c.loop-number.invariant.put (then c.put_text-next-in-loop-number.ensures c.put_text-next-in-loop-number-2.ensures));
      room = grind (arith, common_steps);
    }

pub returns-clause-put : goal.returns-clause-put
returns-clause-put g c =
    let before = c.args.word.now ++ flat_map (λ n. space_byte ∷ g.I.Integer.text n) (take c.loop-number.number-index c.args.numbers.now) in
    let all : line_by g.I.Integer.text c.args.word.now c.args.numbers.now ≡ before ++ (newline_byte ∷ []) = grind (arith, common_steps) in
    rw all (then c.loop-number.invariant.put c.put_text.ensures)
