use Prim.Native.Nat.{◌-◌, ◌≤◌}
use lib.ListN.{length}
use Rattle.flags.proofs.Begun.{Left}
use Rattle.flags.proofs.put_flags.Given as goal

abbrev pub invariant-loop-from : goal.invariant-loop-from
invariant-loop-from l = (l.from ≤ length l.flags) × Left l.initial.reply l.flags l.at l.from l.to l.reply

abbrev pub decreases-loop-from : goal.decreases-loop-from
decreases-loop-from l = length l.flags - l.from
