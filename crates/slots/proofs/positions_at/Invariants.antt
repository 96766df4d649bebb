use Prim.Native.Nat.{◌+◌, ◌-◌, ◌*◌}
use mathlib.Core.Path.{◌≡◌}
use lib.ListN.{length, take, drop}
use mathlib.Core.List.{◌++◌}
use Rattle.points.specs.Point.{positions_in}
use Rattle.slots.proofs.positions_at.Given as goal

abbrev pub invariant-loop-axis : goal.invariant-loop-axis
invariant-loop-axis l = (length l.position-items ≡ 8) × (take l.axis l.position-items ++ positions_in (8 - l.axis) (drop (l.at + l.axis * 4) l.area) ≡ positions_in 8 (drop l.at l.area))
