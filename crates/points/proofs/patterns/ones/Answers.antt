use mathlib.Core.Path.{sym}
use native.Mathlib.Omega.{arith}
use Rattle.points.proofs.Ones.{as_many}
use Rattle.points.proofs.patterns.ones.Goals as goal

pub returns : goal.returns
returns c = sym (as_many c.args.pattern (omega arith))
