use Prim.Native.Nat.{◌+◌}
use mathlib.Core.Path.{refl, ◌∙◌}
use native.Mathlib.Omega.{arith}
use Rattle.points.specs.Point.{point_digits}
use Rattle.points.proofs.Chained.{chain}
use Rattle.listing.proofs.put_point_digits.Goals as goal

pub returns : goal.returns
unfolding point_digits
returns c =
    let a = c.args in
    c.put_positions.ensures
    ∙ rw (c.put_number-4.ensures, c.put_number-3.ensures, c.put_number-2.ensures, c.put_number.ensures, c.from.ensures, c.from-2.ensures, c.from-3.ensures, c.from-4.ensures)
    (chain a.reply.now _ _ _ _ _ a.at (a.at + 2) (a.at + 6) (a.at + 10) (a.at + 14) (omega arith) refl (omega arith) (omega arith) (omega arith))
