use Rattle.pairs.specs.Pairs.{bytes_in}
use Rattle.areas.proofs.Moves.{Laying}
use Rattle.pairs.proofs.put_pairs.Given as goal

abbrev pub invariant-loop-pair : goal.invariant-loop-pair
invariant-loop-pair l = Laying l.initial.area (bytes_in l.digits) 0 l.pair l.area
