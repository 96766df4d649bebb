-- No statement is true for an empty reason: calls that meet the premises of the statements of Refused.antt and Replied.antt in demands, values that meet
-- those of five laws of other crates, and results that meet the contracts.
use Rattle.std.specs.Prelude.{ℕ, ◌+◌, ◌*◌, ◌≤◌, ◌≡◌, true, false, List, length, replicate}
use Rattle.digits.specs.Text.{text}
use Rattle.frames.specs.Frame.{message_in}
use Rattle.kinds.specs.Kinds.{columns_of, place_of}
use Rattle.points.specs.Point.{point_of}
use Rattle.points.specs.Laws.{Fits}
use Rattle.points.specs.Cases.{bench_digits}
use Rattle.finder.specs.declared.Found.{Found}
use Rattle.finder.specs.Find.{drop_of}
use Rattle.axes.specs.declared.AxisRecord.{AxisRecord}
use Rattle.axes.specs.Records.{zero_record}
use Rattle.axes.specs.Run.{lent_axes}
use Rattle.calls.specs.Calls.{Areas, Call, call_of, fresh}
use Rattle.link.specs.Answer.{asked, answer_of}
use Rattle.back.specs.Back.{back_of, StepsBack}
use Rattle.board.specs.Calls.{code_of, start_of, length_of, Receives}
use Rattle.demands.specs.Refused.{SameError, asks_write}
use Rattle.trials.specs.Cases.{blank, bench, columns_holding}

-- a 208H to the bench with its axis records as a lent run
abbrev pub lent_bench : List AxisRecord → Call
lent_bench records =
    call_of (text "!99208@@\r\n") (lent_axes records) (record { station = 0x99; release = 1; unchecked = true; fitted = 0xFF }) (replicate 1024 0) blank

-- the bench fresh with other first numbers, and with a journal of so many bytes
abbrev pub numbering : ℕ → ℕ → ℕ → Areas
numbering integer flag size = fresh (record { points = 500; firsts = record { integer = integer; flag = flag } }) size

pub record Examples : Type 0 where
  -- `ChangesNothing` and `OneReply`: a frame refused with a reply, one without, and a step back with nothing left
  pub with_reply : (answer_of (bench blank (text "!99299@@\r\n"))).number ≡ 101
  pub without_reply_lem : (answer_of (bench blank (text "!9920900100555\r\n"))).number ≡ 7
  pub no_step_back : (back_of blank).number ≡ 9
  -- 10 (02, a), for a frame and a step back: FED5H + 299 is past FFFFH and F9DH + 99 past FFFH; one less, and the last flag and integer are held
  pub flags_past : ((answer_of (bench (numbering 200 0xFED5 32768) (text "!9920D00FFFF0001@@\r\n"))).number ≡ 10)
      × ((answer_of (bench (numbering 200 0xFED4 32768) (text "!9920D00FFFF0001@@\r\n"))).number ≡ 0)
  pub integers_past : ((answer_of (bench (numbering 0xF9D 600 32768) (text "!9920E00FFF01@@\r\n"))).number ≡ 10)
      × ((answer_of (bench (numbering 0xF9C 600 32768) (text "!9920E00FFF01@@\r\n"))).number ≡ 0)
  pub back_past : (back_of (numbering 200 0xFED5 32768)).number ≡ 10
  -- it is given where 4 holds too; and 20,499 bytes of journal are too few for 500 points
  pub ten_before_four : ((answer_of (bench (numbering 200 0xFED5 20499) (text "!99208@@\r\n"))).number ≡ 10)
      × ((answer_of (bench (numbering 200 600 20499) (text "!99208@@\r\n"))).number ≡ 4)
      × ((answer_of (bench (numbering 200 600 20500) (text "!99208@@\r\n"))).number ≡ 0)
  -- 108: change type 2
  pub not_listed : (answer_of (bench blank (text "!9924B0002582@@\r\n"))).number ≡ 108
  -- "an error reply may depend on settings too": flag 600 with change type 2 where the first flag is 600, and where it is 601
  pub by_settings : ((answer_of (bench (numbering 200 600 32768) (text "!9924B0002582@@\r\n"))).number ≡ 108)
      × ((answer_of (bench (numbering 200 601 32768) (text "!9924B0002582@@\r\n"))).number ≡ 106)
  -- `ErrorsAgree`: the same frame to two boards whose columns differ
  pub same_error : SameError (bench blank (text "!99299@@\r\n")) (bench (columns_holding 300 (replicate 700 0x41)) (text "!99299@@\r\n"))
  -- `QueryChangesNothing`: a 208H; `EveryReply`, `NormalReply` and `TestCallBack`: a 200H
  pub query : asks_write (asked (bench blank (text "!99208@@\r\n"))) ≡ false
  pub test_call_lem : message_in (text "!99200001234567829\r\n") ≡ text "200"
  pub test_reply : (answer_of (bench blank (text "!99200001234567829\r\n"))).number ≡ 0
  -- a lent run of seven records is refusal 5, one of eight is accepted
  pub seven_lent : (answer_of (lent_bench (replicate 7 zero_record))).number ≡ 5
  pub eight_lent : (answer_of (lent_bench (replicate 8 zero_record))).number ≡ 0
  -- the laws `TrueSC`, `EveryRun` with `EveryUndone`, and `EverySlot`: the listing's first frame, four columns from 300 on, and the listing's point
  pub four_bytes : 4 ≤ length (text "!99200001234567829\r\n")
  pub run_fits : (length (text "0047") ≡ 4 * columns_of.unit) × (place_of columns_of 300 + length (text "0047") ≤ length blank.columns)
  pub slot_fits : Fits (point_of bench_digits)
  -- and `HighFirst`: eight digits
  pub eight_digits : length (text "0000002A") ≡ 8
  -- the other contracts can be met, for every call, as `answer`'s can (`can_be_met` in Useless.antt): what they say is not too much; by values of the
  -- code's own types too (MetByCode.antt)
  pub step_back_lem : (a : Areas) → StepsBack a (record { number = (back_of a).number; kept = (back_of a).areas.kept }) (back_of a).areas
  pub receive : (f : Found) → Receives f (code_of f) (start_of f) (length_of f) (drop_of f)
