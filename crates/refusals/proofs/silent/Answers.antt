use mathlib.Core.Path.{sym, ap, ◌∙◌}
use Rattle.std.specs.Prelude.{Some}
use Rattle.messages.proofs.Numbered.{refusal_some}
use Rattle.refusals.proofs.Rows.{silent_early, silent_long, silent_points, silent_late, told_untested, told_said}
use Rattle.refusals.proofs.silent.Goals as goal

pub returns-in-Err-clause-number_value : goal.returns-in-Err-clause-number_value
returns-in-Err-clause-number_value c = silent_early c.args.sent c.args.areas c.in-Err.ensures (refusal_some c.in-Err.refusal)

pub returns-in-Err-clause-sum_value : goal.returns-in-Err-clause-sum_value
returns-in-Err-clause-sum_value c = sym (told_untested _ _ (λ z. refusal_some c.in-Err.refusal (c.in-Err.ensures ∙ z)))

pub test_sum-sum-requires : goal.test_sum-sum-requires
test_sum-sum-requires c = silent_long c.args.sent c.args.areas (sym c.in_default.ensures)

pub test_late-requires : goal.test_late-requires
test_late-requires c = let e = sym c.in_default.ensures in (silent_long c.args.sent c.args.areas e, c.test_sum-sum.ensures, silent_points c.args.sent c.args.areas e)

pub returns-clause-number_value : goal.returns-clause-number_value
returns-clause-number_value c = silent_late c.args.sent c.args.areas (sym c.in_default.ensures) c.test_late.ensures

pub returns-clause-sum_value : goal.returns-clause-sum_value
returns-clause-sum_value c = ap Some c.test_sum-sum.ensures ∙ sym (told_said _ _ (sym c.in_default.ensures))
