use Rattle.areas.proofs.Moves.{Laying}
use Rattle.areas.proofs.runs.put_run.Given as goal

abbrev pub invariant-loop-i : goal.invariant-loop-i
invariant-loop-i l = Laying l.initial.area l.bytes l.at l.i l.area
