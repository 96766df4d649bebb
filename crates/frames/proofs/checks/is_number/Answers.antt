use Rattle.digits.proofs.Fields.{says_field}
use Rattle.frames.proofs.checks.is_number.Goals as goal

pub returns : goal.returns
returns c = rw (c.eq.ensures, c.read_field.ensures, c.from.ensures) (says_field c.args.release c.args.field.now c.args.n)
