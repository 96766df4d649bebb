use native.Mathlib.Omega.{arith}
use Rattle.digits.proofs.Inverse.{inverse}
use Rattle.points.proofs.reading.read_position.Goals as goal

pub overflow_cast-value : goal.overflow_cast-value
overflow_cast-value c = omega (arith, c.value.ensures, (inverse 8).bound c.args.field.now c.requires.0)
