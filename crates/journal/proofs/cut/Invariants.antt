use Prim.Native.Nat.{◌-◌}
use lib.ListN.{length}
use Rattle.journal.proofs.Keeping.{Cutting}
use Rattle.journal.proofs.cut.Given as goal

abbrev pub invariant-loop-at : goal.invariant-loop-at
invariant-loop-at l = Cutting l.held l.over l.bytes l.at

abbrev pub decreases-loop-at : goal.decreases-loop-at
decreases-loop-at l = length l.bytes - l.at
