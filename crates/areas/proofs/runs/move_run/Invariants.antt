use lib.ListN.{take, drop}
use Rattle.areas.proofs.Moves.{Laying}
use Rattle.areas.proofs.runs.move_run.Given as goal

abbrev pub invariant-loop-i : goal.invariant-loop-i
invariant-loop-i l = Laying l.initial.area (take l.many (drop l.from l.initial.area)) 0 l.i l.area
