use lib.Seq.{drop-drop, get_or-drop}
use Rattle.points.specs.Point.{point_in}
use Rattle.points.proofs.Slotted.{two_drop}
use Rattle.slots.proofs.point_at.Goals as goal

pub returns : goal.returns
unfolding point_in
returns c =
    let d = c.args.area.now in
    let at = c.args.at in
    rw (c.positions_at.ensures, c.two_at-3.ensures, c.two_at-2.ensures, c.two_at.ensures, get_or-drop at d 0 0, two_drop d at 2, two_drop d at 4, two_drop d at 6, ← drop-drop 8 at d)
