use Rattle.flags.proofs.OneByte.{Read}
use Rattle.flags.proofs.bits.Given as goal

abbrev pub invariant-loop-i : goal.invariant-loop-i
invariant-loop-i l = Read l.flags l.byte l.i
