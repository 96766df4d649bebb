use native.Mathlib.Omega.{arith}
use Rattle.journal.proofs.Adding.{head_laid}
use Rattle.journal.proofs.put_head.Goals as goal

pub returns : goal.returns
returns c =
    let a = c.args in
    head_laid a.journal.now _ _ a.at a.tag a.many a.start (omega arith) c.put_two.ensures c.put_two-2.ensures
