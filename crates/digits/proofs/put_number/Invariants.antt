use Rattle.digits.proofs.Reading.{Left}
use Rattle.digits.proofs.put_number.Given as goal

abbrev pub invariant-loop-i : goal.invariant-loop-i
invariant-loop-i l = Left l.at l.width l.n l.i l.rest l.initial.area l.area
