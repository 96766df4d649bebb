use native.Mathlib.Omega.{arith}
use Rattle.heads.proofs.Texts.{head_repeating, head_alone}
use Rattle.heads.proofs.put_head.Goals as goal

pub returns-then-m : goal.returns-then-m
returns-then-m c =
    let it = (let a = c.args in
    let f = c.put_fields.ensures in
    head_repeating a.reply.now a.m a.start a.count _ (omega arith) (rw c.from.ensures at c.put_number.ensures) _ _ c.requires.0 c.if-m.true f.reply_after f.value) in
    record { value = it.0; reply_after = it.1 }

pub returns-else-m : goal.returns-else-m
returns-else-m c =
    let it = (let a = c.args in
    head_alone a.reply.now a.m a.start a.count _ (omega arith) (rw c.from.ensures at c.put_number.ensures) c.if-m.false) in
    record { value = it.0; reply_after = it.1 }
