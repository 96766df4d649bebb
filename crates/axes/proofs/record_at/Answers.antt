use native.Mathlib.Nat.{add-zero}
use lib.Seq.{get_or-drop}
use Rattle.points.proofs.Slotted.{two_drop, four_drop}
use Rattle.axes.specs.Axes.{record_in}
use Rattle.axes.proofs.record_at.Goals as goal

pub returns : goal.returns
unfolding record_in
returns c =
    let d = c.args.bytes.now in
    let at = c.args.at in
    rw (c.of-position.ensures, c.four_at.ensures, c.two_at-error.ensures, get_or-drop at d 0 0, get_or-drop at d 1 0, get_or-drop at d 4 0, two_drop d at 2, four_drop d at 5, add-zero at)
