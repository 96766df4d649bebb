use mathlib.Core.Path.{sym, ◌∙◌}
use Rattle.std.proofs.lemmas.Result.{err_from_is_err_and}
use Rattle.messages.proofs.Numbered.{refusal_some}
use Rattle.refusals.proofs.Rows.{early_area, early_5, early_13, early_6, early_0}
use Rattle.refusals.proofs.test_early.Goals as goal

pub returns-in_err-test_areas : goal.returns-in_err-test_areas
returns-in_err-test_areas c =
    let p = err_from_is_err_and c.from_residual.result c.from_residual.ensures.1 in
    rw (p.1, p.2) (early_area c.args.sent c.args.areas c.in_err-test_areas.ensures (refusal_some _))

pub returns-then-not-fits_axes : goal.returns-then-not-fits_axes
returns-then-not-fits_axes c = early_5 c.args.sent c.args.areas (sym c.in_ok-test_areas.ensures) (sym c.fits_axes.ensures ∙ c.if-not-fits_axes.true)

pub returns-then-not-fits_release : goal.returns-then-not-fits_release
returns-then-not-fits_release c =
    early_13 c.args.sent c.args.areas (sym c.in_ok-test_areas.ensures)
    (sym c.fits_axes.ensures ∙ c.if-not-fits_axes.false)
    (sym c.fits_release.ensures ∙ c.if-not-fits_release.true)

pub returns-then-not-is_shaped : goal.returns-then-not-is_shaped
returns-then-not-is_shaped c =
    early_6 c.args.sent c.args.areas (sym c.in_ok-test_areas.ensures)
    (sym c.fits_axes.ensures ∙ c.if-not-fits_axes.false)
    (sym c.fits_release.ensures ∙ c.if-not-fits_release.false)
    (sym c.is_shaped.ensures ∙ c.if-not-is_shaped.true)

pub returns : goal.returns
returns c =
    early_0 c.args.sent c.args.areas (sym c.in_ok-test_areas.ensures)
    (sym c.fits_axes.ensures ∙ c.if-not-fits_axes.false)
    (sym c.fits_release.ensures ∙ c.if-not-fits_release.false)
    (sym c.is_shaped.ensures ∙ c.if-not-is_shaped.false)
