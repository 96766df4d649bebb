use mathlib.Core.Path.{sym, ◌∙◌}
use native.Mathlib.Omega.{arith}
use Rattle.frames.proofs.TestID.{six}
use Rattle.finder.proofs.begins_test_call.Goals as goal

pub pair_at-requires : goal.pair_at-requires
pair_at-requires c = omega (arith, six _ (sym c.has_test_id.ensures ∙ c.if-has_test_id.true))
