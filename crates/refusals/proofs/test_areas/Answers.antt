use Rattle.refusals.proofs.Rows.{area_2, area_3, area_10, area_4, area_0}
use Rattle.refusals.proofs.Tested.{sound, same_sound, same_journal}
use mathlib.Core.Path.{sym, ◌∙◌}
use Rattle.refusals.proofs.test_areas.Goals as goal

pub returns-then-not-fits_points : goal.returns-then-not-fits_points
returns-then-not-fits_points c = area_2 c.args.areas c.lengths-lengths.ensures (sym c.fits_points.ensures ∙ c.if-not-fits_points.true)

pub returns-then-lengths-ne700 : goal.returns-then-lengths-ne700
returns-then-lengths-ne700 c =
    area_3 c.args.areas c.lengths-lengths.ensures (sym c.fits_points.ensures ∙ c.if-not-fits_points.false) c.if-lengths-ne700.true

pub returns-then-not-fits_variables : goal.returns-then-not-fits_variables
returns-then-not-fits_variables c =
    area_10 c.args.areas c.lengths-lengths.ensures (sym c.fits_points.ensures ∙ c.if-not-fits_points.false) c.if-lengths-ne700.false
    (sym c.fits_variables.ensures ∙ c.if-not-fits_variables.true)

pub fits_journal-requires : goal.fits_journal-requires
fits_journal-requires c =
    same_sound c.held_in.ensures
    (sound c.lengths-lengths.result (sym c.fits_points.ensures ∙ c.if-not-fits_points.false) (sym c.fits_variables.ensures ∙ c.if-not-fits_variables.false))

pub returns-then-not-fits_journal : goal.returns-then-not-fits_journal
returns-then-not-fits_journal c =
    area_4 c.args.areas c.lengths-lengths.ensures (sym c.fits_points.ensures ∙ c.if-not-fits_points.false) c.if-lengths-ne700.false
    (sym c.fits_variables.ensures ∙ c.if-not-fits_variables.false)
    (sym (same_journal _ _ c.fits_journal.ensures c.held_in.ensures) ∙ c.if-not-fits_journal.true)

pub returns : goal.returns
returns c =
    area_0 c.args.areas c.lengths-lengths.ensures (sym c.fits_points.ensures ∙ c.if-not-fits_points.false) c.if-lengths-ne700.false
    (sym c.fits_variables.ensures ∙ c.if-not-fits_variables.false)
    (sym (same_journal _ _ c.fits_journal.ensures c.held_in.ensures) ∙ c.if-not-fits_journal.false)
