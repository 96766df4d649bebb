use Rattle.std.proofs.Common.{arith}
use Rattle.std.proofs.lemmas.Bool.Decides.{nat_tests}
use Rattle.frames.proofs.Turns.{sc_first, sc_second}
use Rattle.frames.specs.Frame.{sum_off}
use Rattle.frames.proofs.checks.is_sum_off.Goals as goal

pub returns-then-frame-n-eq64 : goal.returns-then-frame-n-eq64
unfolding sum_off
returns-then-frame-n-eq64 c = rw (sc_first c.args.frame.now _, sc_second c.args.frame.now _) (grind (arith, nat_tests))

pub returns-else-frame-n-eq64 : goal.returns-else-frame-n-eq64
unfolding sum_off
returns-else-frame-n-eq64 c = rw (sc_first c.args.frame.now _, sc_second c.args.frame.now _) (grind (arith, nat_tests))
