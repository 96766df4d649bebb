use Prim.Native.Nat.{◌-◌}
use native.Mathlib.Omega.{arith}
use Rattle.heads.specs.Heads.{head_of}
use Rattle.heads.proofs.Texts.{replied}
use Rattle.heads.proofs.reply_head.Goals as goal

pub returns : goal.returns
returns c =
    let a = c.args in
    let h = c.put_head-end in
    let k = c.close_reply.ensures in
    replied a.reply.now _ _ (head_of a.m a.start a.count) a.station (h.result - 3) _ h.ensures.reply_after (omega (arith, h.ensures.value.0)) (omega (arith, h.ensures.value.1)) k.value k.reply_after
