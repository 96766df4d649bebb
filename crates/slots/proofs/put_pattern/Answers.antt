use native.Mathlib.Omega.{arith}
use native.Mathlib.Numerals.{add-one}
use Rattle.digits.proofs.Laid.{stored}
use Rattle.slots.proofs.put_pattern.Goals as goal

pub returns : goal.returns
returns c = rw add-one (stored c.args.area.now c.args.at _ (omega arith))
