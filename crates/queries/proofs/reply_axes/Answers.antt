use Prim.Native.Nat.{◌+◌, ◌*◌}
use mathlib.Core.Path.{◌∙◌}
use native.Mathlib.Omega.{arith}
use Rattle.points.proofs.Ones.{at_most}
use Rattle.heads.proofs.Texts.{replied}
use Rattle.queries.specs.Replies.{axes_text}
use Rattle.queries.proofs.Texts.{axes_laid, length_axes}
use Rattle.queries.proofs.reply_axes.Goals as goal

pub returns : goal.returns
returns c =
    let a = c.args in
    let d = a.reply.now in
    let n = c.ones in
    let k = c.close_reply.ensures in
    let e = axes_laid d _ _ _ a.m a.pattern a.records (omega arith) (c.put_number.ensures ∙ rw c.from.ensures) (c.put_number-2.ensures ∙ rw c.from-2.ensures) c.put_records.ensures in
    let l = length_axes a.m a.pattern n.result a.records n.ensures in
    replied d _ _ (axes_text a.m a.pattern a.records) a.station (5 + 16 * n.result) _ e l (omega (arith, at_most a.pattern (omega arith))) k.value k.reply_after
