use Prim.Native.Nat.{◌+◌, ◌-◌, ◌*◌, ◌≤◌}
use mathlib.Core.Path.{◌≡◌}
use lib.ListN.{drop}
use Rattle.points.specs.Point.{effective_in}
use Rattle.slots.proofs.count_effective.Given as goal

abbrev pub invariant-loop-i : goal.invariant-loop-i
invariant-loop-i l = (l.count ≤ l.i) × (l.count + effective_in (l.n - l.i) (drop (l.i * 40) l.area) ≡ effective_in l.n l.area)
