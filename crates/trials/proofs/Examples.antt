-- The examples, by computing.
use mathlib.Core.Path.{refl}
use native.Mathlib.Omega.{arith}
use Rattle.points.specs.Cases.{bench_digits}
use Rattle.points.proofs.Promised.{every_digit}
use Rattle.trials.specs.Examples.{Examples}
use Rattle.trials.proofs.Computing.{a_call}

pub examples : Examples
unfolding a_call
examples =
    record {
      with_reply = refl;
      without_reply_lem = refl;
      no_step_back = refl;
      flags_past = (refl, refl);
      integers_past = (refl, refl);
      back_past = refl;
      ten_before_four = (refl, refl, refl);
      not_listed = refl;
      by_settings = (refl, refl);
      same_error = record { frame = refl; station = refl; release = refl; held = refl; fitted = refl; heard = (refl, refl) };
      query = refl;
      test_call_lem = refl;
      test_reply = refl;
      seven_lent = refl;
      eight_lent = refl;
      four_bytes = omega arith;
      run_fits = (refl, omega arith);
      slot_fits = (every_digit bench_digits refl refl).0;
      eight_digits = refl;
      step_back_lem = λ a. record { number_is = refl; kept_is = refl; areas_are = refl };
      receive = λ f. record { code_is = refl; start_is = refl; length_is = refl; drop_is = refl };
    }
