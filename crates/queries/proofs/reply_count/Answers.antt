use mathlib.Core.Path.{refl, ◌∙◌}
use native.Mathlib.Omega.{arith}
use Rattle.heads.proofs.Texts.{replied}
use Rattle.queries.specs.Replies.{count_text}
use Rattle.queries.proofs.Texts.{count_laid}
use Rattle.queries.proofs.reply_count.Goals as goal

pub returns : goal.returns
returns c =
    let a = c.args in
    let d = a.reply.now in
    let k = c.close_reply.ensures in
    let e = count_laid d _ _ a.m a.effective (omega arith) (c.put_number.ensures ∙ rw c.from.ensures) c.put_number-2.ensures in
    replied d _ _ (count_text a.m a.effective) a.station 6 _ e refl (omega arith) k.value k.reply_after
