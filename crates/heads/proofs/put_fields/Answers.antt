use native.Mathlib.Omega.{arith}
use Rattle.heads.proofs.Texts.{fields_laid}
use Rattle.heads.proofs.put_fields.Goals as goal

pub returns : goal.returns
returns c =
    let a = c.args in record {
      value = omega arith;
      reply_after = fields_laid a.reply.now a.m a.start a.count _ _ _ (omega arith) c.put_number.ensures c.put_number-2.ensures c.put_number-3.ensures;
    }
