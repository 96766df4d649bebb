use Rattle.refusals.proofs.Tested.{write_fits, poll_fits}
use Rattle.refusals.proofs.fits_count.Goals as goal

pub returns-in-580 : goal.returns-in-580
returns-in-580 c = write_fits c.args.id c.args.points.now c.args.effective c.in-580.is c.is_count_true.ensures

pub returns-in-520 : goal.returns-in-520
returns-in-520 c = poll_fits c.args.id c.args.points.now c.args.effective c.in-520.is
