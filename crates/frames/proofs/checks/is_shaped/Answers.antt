use Rattle.std.proofs.Common.{arith}
use Rattle.std.proofs.lemmas.Bool.Decides.{nat_tests}
use Rattle.frames.specs.Frame.{shaped}
use Rattle.frames.proofs.checks.is_shaped.Goals as goal

pub returns-then-not-has_test_id : goal.returns-then-not-has_test_id
unfolding shaped
returns-then-not-has_test_id c = grind (arith, nat_tests)

pub returns-else-not-has_test_id : goal.returns-else-not-has_test_id
unfolding shaped
returns-else-not-has_test_id c = grind (arith, nat_tests)

pub returns-else-frame-n-eq10 : goal.returns-else-frame-n-eq10
unfolding shaped
returns-else-frame-n-eq10 c = grind (arith, nat_tests)
