use Prim.Native.Nat.{◌-◌}
use lib.ListN.{length}
use Rattle.frames.specs.Frame.{CR}
use Rattle.finder.specs.Find.{pair_first}
use Rattle.finder.proofs.Search.{Mark}
use Rattle.finder.proofs.pair.Given as goal

abbrev pub invariant-loop-at : goal.invariant-loop-at
invariant-loop-at l = Mark CR pair_first l.s l.at

abbrev pub decreases-loop-at : goal.decreases-loop-at
decreases-loop-at l = length l.s - l.at
