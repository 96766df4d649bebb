use Rattle.std.proofs.Common.{◌≡◌, ◌&&◌, drop}
use Rattle.digits.specs.Digits.{admitted}
use Rattle.digits.proofs.all_admitted.Given as goal

abbrev pub invariant-loop-b : goal.invariant-loop-b
invariant-loop-b l = l.all && admitted l.release (drop l.b-index l.s) ≡ admitted l.release l.s
