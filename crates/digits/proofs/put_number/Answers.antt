use Rattle.std.proofs.Common.{◌≡◌, ◌+◌, ◌-◌, arith}
use Rattle.digits.proofs.Reading.{left_first, left_next}
use Rattle.digits.proofs.put_number.Goals as goal

pub loop-i-init : goal.loop-i-init
loop-i-init c = left_first _ _ _ _

pub loop-i-preserved : goal.loop-i-preserved
loop-i-preserved c =
    let a = c.args in
    let l = c.loop-i in
    let e : l.i ≡ l.i - 1 + 1 = omega arith in
    left_next a.at a.width a.n (l.i - 1) l.rest c.byte.result a.area.now l.area (rw e at l.invariant) c.requires c.byte.ensures
