use Prim.Native.Nat.{◌+◌, ◌-◌, ◌*◌}
use mathlib.Core.Path.{◌≡◌}
use mathlib.Core.Bool.{true}
use lib.ListN.{length}
use Rattle.digits.specs.Digits.{all_digits}
use Rattle.digits.specs.Laid.{laid}
use Rattle.points.specs.Point.{fills_of, slots_of}
use Rattle.slots.proofs.lay_points.Given as goal

abbrev pub invariant-loop-i : goal.invariant-loop-i
invariant-loop-i l = (all_digits l.rest ≡ true) × (fills_of (l.count - l.i) l.rest ≡ true) × (laid l.area (l.at + l.i * 40) (slots_of (l.count - l.i) l.rest) ≡ laid l.initial.area l.at (slots_of l.count l.digits)) × (length l.area ≡ length l.initial.area)
