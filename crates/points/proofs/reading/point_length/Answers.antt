use Rattle.points.specs.Point.{length_of}
use Rattle.points.proofs.reading.point_length.Goals as goal

pub returns : goal.returns
unfolding length_of
returns c = rw (c.ones.ensures, c.two_digits.ensures)
