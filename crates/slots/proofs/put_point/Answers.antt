use Prim.Native.Nat.{◌+◌}
use mathlib.Core.Path.{refl, ◌∙◌}
use native.Mathlib.Omega.{arith}
use native.Mathlib.Nat.{add-zero}
use Rattle.points.specs.Point.{slot_of}
use Rattle.points.proofs.Chained.{chain}
use Rattle.slots.proofs.put_point.Goals as goal

pub returns : goal.returns
unfolding slot_of
returns c =
    let a = c.args in
    c.put_positions.ensures
    ∙ rw (c.put_two-3.ensures, c.put_two-2.ensures, c.put_two.ensures, c.put_pattern.ensures, add-zero a.at)
    (chain a.area.now _ _ _ _ _ a.at (a.at + 2) (a.at + 4) (a.at + 6) (a.at + 8) (omega arith) refl (omega arith) (omega arith) (omega arith))
