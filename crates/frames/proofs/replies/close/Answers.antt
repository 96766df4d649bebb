use Rattle.std.proofs.Common.{sym, arith, length-take-le}
use Rattle.frames.proofs.Closing.{closing}
use Rattle.frames.proofs.replies.close.Goals as goal

pub slice_bounds-sum-end-2 : goal.slice_bounds-sum-end-2
slice_bounds-sum-end-2 c = sym (length-take-le _ _ (omega arith))

pub returns : goal.returns
returns c =
    let a = c.args in
    record {
      value = omega arith;
      reply_after = closing a.reply.now a.header a.station a.many (omega arith) _ _ _ _ _ c.put_byte.ensures (rw c.from.ensures at c.put_number.ensures) c.sum-sc.ensures (rw c.from-2.ensures at c.put_number-2.ensures) c.put_pair.ensures;
    }
