use native.Mathlib.Omega.{arith}
use Rattle.digits.proofs.Inverse.{inverse}
use Rattle.points.proofs.reading.two_digits.Goals as goal

pub overflow_cast-result : goal.overflow_cast-result
overflow_cast-result c = omega (arith, c.value.ensures, (inverse 2).bound c.args.field.now c.requires.0)
