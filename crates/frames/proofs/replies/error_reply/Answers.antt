use Rattle.std.proofs.Common.{refl, ◌∙◌, arith}
use Rattle.frames.proofs.Closing.{closed_over}
use Rattle.frames.proofs.replies.error_reply.Goals as goal

pub returns : goal.returns
returns c =
    let a = c.args in
    record {
      value = omega arith;
      reply_after = c.close.ensures.reply_after ∙ rw c.put_three.ensures (closed_over a.reply.now _ _ _ 3 refl (omega arith));
    }
