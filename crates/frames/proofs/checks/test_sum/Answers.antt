use Rattle.std.proofs.Common.{sym, ◌∙◌}
use Rattle.frames.proofs.Three.{said_true, said_off, said_wrong}
use Rattle.frames.proofs.checks.test_sum.Goals as goal

pub returns-then-is_sum_off : goal.returns-then-is_sum_off
returns-then-is_sum_off c = sym (said_off _ _ (sym c.is_sum_off.ensures ∙ c.if-is_sum_off.true))

pub returns-then-is_sum_true : goal.returns-then-is_sum_true
returns-then-is_sum_true c = sym (said_true _ _ (sym c.is_sum_true.ensures ∙ c.if-is_sum_true.true))

pub returns-else-is_sum_true : goal.returns-else-is_sum_true
returns-else-is_sum_true c =
    sym (said_wrong _ _ (sym c.is_sum_off.ensures ∙ c.if-is_sum_off.false) (sym c.is_sum_true.ensures ∙ c.if-is_sum_true.false))
