-- The worked cases, by computing.
use mathlib.Core.Path.{refl}
use Rattle.digits.specs.Digits.{admits, worth_of, byte_of}
use Rattle.points.specs.Axes.{axes_from, axes_of}
use Rattle.points.specs.Point.{positions_of, point_of, length_of, fills_of, position_bytes, slot_of, position_digits, point_digits}
use Rattle.points.specs.Cases.{Cases}

pub cases : Cases
unfolding admits worth_of byte_of axes_from axes_of positions_of point_of length_of fills_of position_bytes slot_of position_digits point_digits
cases =
    record {
      least = refl;
      least_back = refl;
      minus_one = refl;
      bench_slot = refl;
      bench_digits_lem = refl;
      two_points_lem = refl;
      one_more_lem = refl;
      one_less = refl;
      axes = refl;
    }
