-- The worked cases, by computing.
use Rattle.std.proofs.Common.{refl}
use Rattle.digits.specs.Digits.{admits, worth_of, byte_of}
use Rattle.frames.specs.Frame.{has_testID, shaped, sum_true, sum_off, sum_said, station_passes, reply_of}
use Rattle.frames.specs.Cases.{Cases}

pub cases : Cases
unfolding admits worth_of byte_of has_testID shaped sum_true sum_off sum_said station_passes reply_of
cases =
    record {
      sum = refl;
      sc = refl;
      passes = refl;
      wrong = refl;
      off = refl;
      once = (refl, refl);
      capital_sum = refl;
      capital = λ r. refl;
      small = (refl, refl);
      as_sent = (refl, refl);
      small_off = (refl, refl);
      bench = refl;
      test_calls = (refl, refl, refl);
      other = refl;
      id_cut = (refl, refl);
      ours = λ r. refl;
      not_ours = λ r. refl;
      small_station = (refl, refl);
      unknown = refl;
      lot_code_lem = refl;
    }
