-- `steps_commands::read_command`: a line of P or R asks what its numbers make (`put_line`, `read_line`), which the code has as they are
-- (`plain`). Assumes nothing.
use Rattle.std.proofs.Common.{get_or, option_map, sym, ap, ◌∙◌, arith, rules, SFits, w64, pos}
use borrow.Author.Rules.{part_to_end}
use Rattle.laws.specs.Bits.{plain}
use Rattle.steps_commands.specs.CommandLaws.{put_line, read_line}
use Rattle.steps_commands.proofs.read_command.Goals as goal

pub returns-in_ok-key1-in-80 : goal.returns-in_ok-key1-in-80
returns-in_ok-key1-in-80 c =
    let numbers = c.in_ok-key1-in-80.field-0 in
    let key1 : SFits w64 (get_or numbers 0 (pos 0)) = search rules in
    let key2 : SFits w64 (get_or numbers 1 (pos 0)) = search rules in
    let total1 : SFits w64 (get_or numbers 2 (pos 0)) = search rules in
    let total2 : SFits w64 (get_or numbers 3 (pos 0)) = search rules in
    rw (plain _ key1, plain _ key2, plain _ total1, plain _ total2)
    (sym (put_line c.args.line.now (omega arith) (omega arith) ∙ ap (option_map _) (sym (rw part_to_end at c.in_ok-key1-in-80.ensures))))

pub returns-in_ok-session-in-82 : goal.returns-in_ok-session-in-82
returns-in_ok-session-in-82 c =
    let numbers = c.in_ok-session-in-82.field-0 in
    let session : SFits w64 (get_or numbers 0 (pos 0)) = search rules in
    let key1 : SFits w64 (get_or numbers 1 (pos 0)) = search rules in
    let key2 : SFits w64 (get_or numbers 2 (pos 0)) = search rules in
    rw (plain _ session, plain _ key1, plain _ key2)
    (sym (read_line c.args.line.now (omega arith) (omega arith) ∙ ap (option_map _) (sym (rw part_to_end at c.in_ok-session-in-82.ensures))))
