use Rattle.std.proofs.Common.{◌≡◌, take}
use Rattle.digits.specs.Laid.{laid}
use Rattle.pairs.specs.Pairs.{digits_in}
use Rattle.pairs.proofs.put_digits.Given as goal

abbrev pub invariant-loop-i : goal.invariant-loop-i
invariant-loop-i l = l.reply ≡ laid l.initial.reply l.at (digits_in (take l.i l.bytes))
