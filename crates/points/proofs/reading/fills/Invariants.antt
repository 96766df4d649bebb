use Rattle.std.proofs.Common.{◌≡◌, true, ◌-◌}
use Rattle.digits.specs.Digits.{all_digits}
use Rattle.points.specs.Point.{fills_of}
use Rattle.points.proofs.reading.fills.Given as goal

abbrev pub invariant-loop : goal.invariant-loop
invariant-loop l = (all_digits l.rest ≡ true) × (fills_of (l.count - l.counter) l.rest ≡ fills_of l.count l.digits)
