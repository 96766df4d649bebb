-- Demand 2's examples, by computing; the list of 45 points, which takes too many steps, by what it says.
use mathlib.Core.Path.{◌≡◌, refl, ap}
use mathlib.Core.Bool.{false}
use native.Mathlib.Omega.{arith}
use lib.ListN.{take}
use Rattle.digits.specs.Digits.{worth_of, byte_of, capital}
use Rattle.digits.specs.Text.{text}
use Rattle.frames.specs.Frame.{normal, reply_of}
use Rattle.points.specs.Axes.{axes_from, axes_of}
use Rattle.points.specs.Point.{length_of}
use Rattle.std.specs.Prelude.{Some}
use Rattle.table.specs.Table.{message_of}
use Rattle.refusals.specs.Refusals.{refusal_of}
use Rattle.link.specs.Answer.{answer_of}
use Rattle.demands.specs.Reading.{Host, sent, fitting}
use Rattle.demands.specs.Survive.{Accepted}
use Rattle.trials.specs.SurviveExamples.{code_call, many_call, replied, Examples}
use Rattle.demands.proofs.Commands.{writing, clearing, changing, changing_integers, setting}
use Rattle.trials.proofs.Computing.{a_call}
use Rattle.trials.proofs.Useless.{zero_bytes}
use Rattle.demands.proofs.Survived.{every_digit_survives}

host : Host code_call.sent
unfolding a_call
host = record { reply_long = omega arith; axes_fit_lem = refl; release_fits_lem = refl; station_byte = omega arith }

many_known : message_of 1 many_call.sent.frame ≡ Some writing
unfolding a_call
many_known = refl

many_accepted : refusal_of many_call ≡ 0
unfolding a_call
many_accepted = refl

abbrev many : Accepted 0x244 many_call
many = record { message = writing; named = refl; known = many_known; number = many_accepted; bytes = zero_bytes 32768 }

many_listed : take 9 (replied (answer_of many_call).areas (text "!9920900102D@@\r\n")) ≡ text "#99209028"
unfolding worth_of byte_of capital reply_of sent fitting length_of axes_from axes_of
many_listed = ap (take 9) ((((every_digit_survives.next 0x244 many_call many).points refl).listed refl).text code_call.sent host false refl)

last_read : replied (answer_of many_call).areas (text "!9920902D001@@\r\n") ≡ reply_of normal 0x99 (text "20900102D010000000000000000002D")
unfolding a_call
last_read = refl

pub examples : Examples
unfolding a_call
examples =
    record {
      host = host;
      code = record { message = changing; named = refl; known = refl; number = refl; bytes = zero_bytes 32768 };
      point = record { message = writing; named = refl; known = refl; number = refl; bytes = zero_bytes 32768 };
      clear = record { message = clearing; named = refl; known = refl; number = refl; bytes = zero_bytes 32768 };
      many = many;
      integers = record { message = changing_integers; named = refl; known = refl; number = refl; bytes = zero_bytes 32768 };
      flag = record { message = setting; named = refl; known = refl; number = refl; bytes = zero_bytes 32768 };
      code_back = refl;
      code_part = refl;
      code_within = refl;
      point_back = refl;
      range_listed = refl;
      others_read = refl;
      clear_back = refl;
      integers_back = refl;
      integer_alone = refl;
      not_held_lem = refl;
      flag_alone = refl;
      flag_within = refl;
      flag_first = refl;
      integers_overlap = refl;
      integer_spared = (refl, refl);
      flag_spared = (refl, refl);
      flag_off_lem = refl;
      many_listed = many_listed;
      last_read = last_read;
      stands = refl;
      not_touched = refl;
      still_read = refl;
      point_stands = refl;
      point_not_touched = refl;
      point_read = refl;
      touched = refl;
      first_two = refl;
      two_read = refl;
    }
