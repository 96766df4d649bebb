use Prim.Native.Nat.{◌-◌}
use lib.ListN.{length}
use Rattle.frames.specs.Frame.{command}
use Rattle.finder.proofs.Search.{Mark, stays}
use Rattle.finder.proofs.first.Given as goal

abbrev pub invariant-loop-bang : goal.invariant-loop-bang
invariant-loop-bang l = Mark command stays l.s l.bang

abbrev pub decreases-loop-bang : goal.decreases-loop-bang
decreases-loop-bang l = length l.s - l.bang
