use Rattle.digits.proofs.Reading.{Read}
use Rattle.digits.proofs.number_by.Given as goal

abbrev pub invariant-loop-b : goal.invariant-loop-b
invariant-loop-b g l = Read l.s l.n l.b-index
