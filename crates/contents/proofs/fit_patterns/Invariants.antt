use Rattle.std.proofs.Common.{◌≡◌, true, ◌-◌}
use Rattle.digits.specs.Digits.{all_digits}
use Rattle.points.specs.Point.{fills_of}
use Rattle.table.specs.Table.{patterns_fit}
use Rattle.contents.proofs.fit_patterns.Given as goal

abbrev pub invariant-loop : goal.invariant-loop
invariant-loop l = (all_digits l.rest ≡ true) × (fills_of (l.count - l.counter) l.rest ≡ true) × (patterns_fit l.fitted (l.count - l.counter) l.rest ≡ patterns_fit l.fitted l.count l.digits)
