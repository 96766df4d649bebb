use mathlib.Core.Path.{◌∙◌}
use native.Mathlib.Omega.{arith}
use Rattle.heads.proofs.Texts.{replied, behind}
use Rattle.queries.specs.Replies.{same_text}
use Rattle.queries.proofs.reply_same.Goals as goal

pub returns : goal.returns
returns c =
    let a = c.args in
    let d = a.reply.now in
    let s = a.content.now in
    let k = c.close_reply.ensures in
    let e = behind d _ _ s a.m (omega arith) (c.put_number.ensures ∙ rw c.from.ensures) c.put_run.ensures in
    replied d _ _ (same_text a.m s) a.station 13 _ e (omega arith) (omega arith) k.value k.reply_after
