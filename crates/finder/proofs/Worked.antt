-- The worked cases, by computing.
use mathlib.Core.Path.{refl}
use Rattle.frames.specs.Frame.{has_testID}
use Rattle.finder.specs.Find.{find_in}
use Rattle.finder.specs.Cases.{Cases}

pub cases : Cases
unfolding has_testID find_in
cases =
    record {
      empty = refl;
      found = refl;
      wait = refl;
      dropped = refl;
      long = refl;
      not_yet = refl;
      line_ends_lem = refl;
      nineteen = refl;
      cut = refl;
      head_cut = refl;
      other_id = refl;
      frame_behind = refl;
      wait_behind = refl;
      long_behind = refl;
      none_behind = refl;
      station = refl;
      two_returns = refl;
    }
