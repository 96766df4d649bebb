use Prim.Native.Nat.{◌+◌, ◌*◌}
use mathlib.Core.Path.{◌≡◌}
use lib.ListN.{length, drop}
use Rattle.digits.specs.Laid.{laid}
use Rattle.points.specs.Point.{position_bytes}
use Rattle.slots.proofs.put_positions.Given as goal

abbrev pub invariant-loop-axis : goal.invariant-loop-axis
invariant-loop-axis l = (laid l.area (l.at + l.axis * 4) (position_bytes (drop l.axis l.position-items)) ≡ laid l.initial.area l.at (position_bytes l.fn.positions)) × (length l.area ≡ length l.initial.area)
