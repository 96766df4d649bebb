use Prim.Native.Nat.{◌+◌}
use mathlib.Core.Path.{◌∙◌}
use native.Mathlib.Omega.{arith}
use Rattle.heads.proofs.Texts.{replied}
use Rattle.queries.specs.Replies.{list_text}
use Rattle.queries.proofs.Texts.{list_laid, length_list}
use Rattle.queries.proofs.reply_list.Goals as goal

pub returns : goal.returns
returns c =
    let a = c.args in
    let room = c.requires.0 in
    let d = a.reply.now in
    let s = a.slots.now in
    let i = c.put_number in
    let l = c.put_listings-list in
    let h = i.auto.area in
    let k = c.close_reply.ensures in
    let e = list_laid d _ _ _ s a.m a.start a.count _ (omega arith) (omega arith) (i.ensures ∙ rw c.from.ensures) l.ensures.reply_after l.ensures.many_value.0 c.put_number-2.ensures in
    let n = length_list a.m a.start a.count _ s l.ensures.many_value.1 in
    replied d _ _ (list_text a.m a.start a.count s) a.station (6 + l.result.digits) _ e n (omega (arith, l.ensures.many_value.2)) k.value k.reply_after
