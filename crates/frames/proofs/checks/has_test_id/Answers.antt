use Rattle.std.proofs.Common.{arith}
use Rattle.std.proofs.lemmas.Bool.Decides.{nat_tests}
use Rattle.frames.proofs.TestID.{by_bytes, cut}
use Rattle.frames.proofs.checks.has_test_id.Goals as goal

pub returns-then-frame-eq48 : goal.returns-then-frame-eq48
returns-then-frame-eq48 c = rw (by_bytes _) (grind (arith, nat_tests))

pub returns-else-frame-eq48 : goal.returns-else-frame-eq48
returns-else-frame-eq48 c = grind (arith, nat_tests, by_bytes, cut)
