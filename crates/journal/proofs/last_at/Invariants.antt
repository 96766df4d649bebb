use Prim.Native.Nat.{◌-◌}
use lib.ListN.{length}
use Rattle.journal.proofs.Back.{Seek}
use Rattle.journal.proofs.last_at.Given as goal

abbrev pub invariant-loop-next : goal.invariant-loop-next
invariant-loop-next l = Seek l.held l.bytes l.at l.next

abbrev pub decreases-loop-next : goal.decreases-loop-next
decreases-loop-next l = length l.bytes - l.next
