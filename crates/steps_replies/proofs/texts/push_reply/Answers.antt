-- `steps_replies::texts::push_reply`: the bytes up to the end are the line (`put_alone`), which is text. Assumes nothing.
use Rattle.std.proofs.Common.{◌∙◌, ap, subst, sym, ◌++◌, IsUtf8}
use Rattle.steps_replies.specs.WrittenLaws.{put_alone}
use Rattle.steps_replies.proofs.texts.push_reply.Goals as goal

pub returns-in-Ok : goal.returns-in-Ok
returns-in-Ok g c =
    let put = c.put_to-end.ensures in
    c.push_str.ensures.bytes ∙ ap (λ more. c.args.replies.now.bytes ++ more) (c.in-Ok.ensures.cases.0 ∙ put_alone put.within put.put)

pub returns-in_default : goal.returns-in_default
returns-in_default g c =
    let put = c.put_to-end.ensures in
    absurd (c.in_default.ensures.cases.0 (subst IsUtf8 (sym (put_alone put.within put.put)) c.requires.text))
