use mathlib.Core.Path.{sym, ◌∙◌}
use native.Mathlib.Omega.{arith}
use Rattle.std.proofs.lemmas.Result.{err_from_is_err_and}
use Rattle.messages.proofs.Numbered.{refusal_some}
use Rattle.refusals.proofs.Rows.{area_points, back_area, back_11, back_0}
use Rattle.refusals.proofs.back_refusal.Goals as goal

pub returns-in_err-test_areas : goal.returns-in_err-test_areas
returns-in_err-test_areas c =
    let p = err_from_is_err_and c.from_residual.result c.from_residual.ensures.1 in
    rw (p.1, p.2) (back_area c.args.areas c.in_err-test_areas.ensures (refusal_some _))

pub is_count_true-requires : goal.is_count_true-requires
is_count_true-requires c = area_points c.args.areas (sym c.in_ok-test_areas.ensures)

pub returns-then-not-is_count_true : goal.returns-then-not-is_count_true
returns-then-not-is_count_true c = back_11 c.args.areas (sym c.in_ok-test_areas.ensures) (sym c.is_count_true.ensures ∙ c.if-not-is_count_true.true)

pub returns : goal.returns
returns c = back_0 c.args.areas (sym c.in_ok-test_areas.ensures) (sym c.is_count_true.ensures ∙ c.if-not-is_count_true.false) (λ e. omega (arith, e))
