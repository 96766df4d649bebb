use Prim.Native.Nat.{◌*◌, ◌≤◌}
use native.Mathlib.Omega.{arith}
use lib.ListN.{length, take, drop, length-drop}
use Rattle.digits.specs.Digits.{number_of}
use Rattle.points.specs.Axes.{axes_of}
use Rattle.points.specs.Point.{length_of, point_of}
use Rattle.points.proofs.Measured.{rest_of_lem}
use Rattle.points.proofs.Parts.{all_drop}
use Rattle.points.proofs.reading.read_point.Goals as goal

pub read_positions-positions-requires : goal.read_positions-positions-requires
unfolding length_of
read_positions-positions-requires c =
    let axes-left : 8 * length (axes_of (number_of (take 2 c.args.digits.now))) ≤ length (drop 14 c.args.digits.now) = simp length-drop (omega (arith, c.requires.0)) in
    rw (rest_of_lem 14 c.args.digits.now) (rw c.two_digits-pattern.ensures axes-left, all_drop 14 c.args.digits.now c.requires.1)

pub returns : goal.returns
unfolding point_of
returns c =
    rw (c.read_positions-positions.ensures, rest_of_lem 14 c.args.digits.now, c.two_digits-pattern.ensures, c.four_digits.ensures, c.four_digits-2.ensures, c.four_digits-3.ensures)
