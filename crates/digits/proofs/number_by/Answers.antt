use Rattle.std.proofs.Common.{arith}
use Rattle.digits.proofs.OneDigit.{below_sixteen}
use Rattle.digits.proofs.Reading.{read_next, read_fits}
use Rattle.digits.proofs.number_by.Goals as goal

pub overflow_mul-n : goal.overflow_mul-n
overflow_mul-n g c = let l = c.loop-b in omega (arith, read_fits _ l.n l.b-index l.invariant (omega arith))

pub overflow_add-n : goal.overflow_add-n
overflow_add-n g c =
    let l = c.loop-b in
    omega (arith, read_fits _ l.n l.b-index l.invariant (omega arith), c.requires.says _ _ c.worth.ensures, below_sixteen)

pub loop-b-preserved : goal.loop-b-preserved
loop-b-preserved g c =
    let l = c.loop-b in
    read_next _ l.n l.b-index _ l.invariant (omega arith) (c.requires.says _ _ c.worth.ensures)
