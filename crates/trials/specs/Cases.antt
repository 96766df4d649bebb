-- Document 01, "Proved cases", together: one table and one statement, in the documents' own strings.
use Rattle.std.specs.Prelude.{ℕ, ◌≡◌, true, false, List, [], ◌∷◌, ◌++◌, pos, negsuc, replicate}
use Rattle.digits.specs.Text.{text}
use Rattle.frames.specs.Frame.{sum_of, sc_of}
use Rattle.finder.specs.declared.Found.TheVariants.{Nothing}
use Rattle.finder.specs.Find.{find_in}
use Rattle.kinds.specs.declared.Held.{Held}
use Rattle.kinds.specs.Kinds.{points_tag, columns_tag, points_of, held_in, run_of}
use Rattle.journal.specs.Journal.{entry_for}
use Rattle.points.specs.declared.point.Point.{Point}
use Rattle.points.specs.Units.{position, acceleration, speed}
use Rattle.points.specs.Point.{position_of, point_in}
use Rattle.axes.specs.Records.{zero_record, eight_axes}
use Rattle.table.specs.declared.Follows.TheVariants.{Nothing as NoMore}
use Rattle.table.specs.declared.Action.TheVariants.{ListPoints}
use Rattle.table.specs.declared.Message.{Message}
use Rattle.messages.specs.Asked.{Refused, Order, asked_of}
use Rattle.table.specs.Table.{row}
use Rattle.calls.specs.Calls.{Areas, Sent, Call, fresh, lengths_of, put_in}
use Rattle.link.specs.Answer.{answer_of}

-- what a board of so many points holds, with the bench's first integer 200 and first flag 600 (02, a)
abbrev pub holding : ℕ → Held
holding n = record { points = n; firsts = record { integer = 200; flag = 600 } }

-- "station 99H, N = 500, all eight axes, zero records, journal 32,768, fresh" ("Bench listing")
abbrev pub blank : Areas
blank = fresh (holding 500) 32768

-- a frame to a station of a cabinet release (02, l) with all that comes beside one, '@@' allowed (02, f); to the bench, release 1; and the call that this
-- makes
abbrev pub sending_to : ℕ → ℕ → List ℕ → Sent
sending_to station release frame =
    record {
      frame = frame;
      axes = eight_axes (replicate 8 zero_record);
      settings = record { station = station; release = release; unchecked = true; fitted = 0xFF };
      reply = replicate 1024 0;
    }

abbrev pub sending : List ℕ → Sent
sending frame = sending_to 0x99 1 frame

abbrev pub bench : Areas → List ℕ → Call
bench areas frame = record { sent = sending frame; areas = areas }

-- the same, with columns from a number on "holding" these bytes
abbrev pub columns_holding : ℕ → List ℕ → Areas
columns_holding start bytes = put_in (holding 500) (entry_for columns_tag start bytes) blank

-- "N from 1 to 1,500", a journal "to 65,536 bytes" ("The areas"): both at their most, fresh
abbrev pub largest : Areas
largest = fresh (holding 1500) 65536

-- frames one after the other, each over the areas that the one before it left ("Bench listing"): the replies, and what is left
abbrev pub replies_to : Areas → List (List ℕ) → List (List ℕ)
replies_to areas [] = []
replies_to areas (frame ∷ frames) = (answer_of (bench areas frame)).text ∷ replies_to (answer_of (bench areas frame)).areas frames

abbrev pub left_by : Areas → List (List ℕ) → Areas
left_by areas [] = areas
left_by areas (frame ∷ frames) = left_by (answer_of (bench areas frame)).areas frames

-- "Input, in order" ("Bench listing")
abbrev pub bench_input : List (List ℕ)
bench_input = text "!99200001234567829\r\n" ∷ text "!9924400100103001E001E00640000C350FFFFFFFFF3\r\n" ∷ text "!99299@@\r\n" ∷ []

-- the point in the slot of a number ("The areas")
abbrev pub point_at : ℕ → Areas → Point
point_at number a = point_in (run_of (points_of (held_in (lengths_of a))) number 1 a.points)

-- 209H, "effective point query" ("What the board answers"; 000, section 4-3-5): its row of the table
abbrev pub list_points : Message
list_points = row 0x209 0 3 3 points_tag NoMore ListPoints false

pub record ProvedCases : Type 0 where
  -- (1) "the sum of `!99209001005` is 254H, SC 54"; with that SC it is accepted
  pub case1 : (sum_of (text "!99209001005") ≡ 0x254) × (sc_of (text "!99209001005") ≡ text "54")
  pub case1_accepted : (answer_of (bench blank (text "!9920900100554\r\n"))).number ≡ 0
  -- (2) "same with SC 55: refusal 7"; (3) "with @@: not refused for its SC"
  pub case2 : (answer_of (bench blank (text "!9920900100555\r\n"))).number ≡ 7
  pub case3 : (answer_of (bench blank (text "!99209001005@@\r\n"))).number ≡ 0
  -- (4) to (6) "the bench frames": each alone
  pub case4 : (answer_of (bench blank (text "!99200001234567829\r\n"))).text ≡ text "#9920000123456782B\r\n"
  pub case5 : (answer_of (bench blank (text "!9924400100103001E001E00640000C350FFFFFFFFF3\r\n"))).text ≡ text "#9924400100151\r\n"
  pub case6 : (answer_of (bench blank (text "!99299@@\r\n"))).text ≡ text "&991012A\r\n"
  -- and one after the other on one bench: the "Whole output"; "The second frame sets point 1, axes 1 and 2, 0.30 G both, 100 mm/sec, 50.000 mm and -0.001 mm"
  pub cases4_6 :
      replies_to blank bench_input
      ≡ text "#9920000123456782B\r\n" ∷ text "#9924400100151\r\n" ∷ text "&991012A\r\n" ∷ []
  pub cases4_6_point :
      point_at 1 (left_by blank bench_input)
      ≡ record {
        pattern = 0x03;
        acceleration = acceleration 30;
        deceleration = acceleration 30;
        speed = speed 100;
        positions = position (pos 50000) ∷ position (negsuc 0) ∷ replicate 6 (position (pos 0));
      }
  -- (7) "`!992100012C0490` with columns 300 to 303 holding 30 30 34 37 (hexadecimal) replies `#992100012C043030343729`"
  pub case7 : (answer_of (bench (columns_holding 300 (0x30 ∷ 0x30 ∷ 0x34 ∷ 0x37 ∷ [])) (text "!992100012C0490\r\n"))).text ≡ text "#992100012C043030343729\r\n"
  -- (8) "start 3E7 count 01 is column 999, count 02 is 106"
  pub case8 : ((answer_of (bench (columns_holding 999 (0x41 ∷ [])) (text "!99210003E701@@\r\n"))).text ≡ text "#99210003E70141FD\r\n")
      × ((answer_of (bench blank (text "!99210003E702@@\r\n"))).number ≡ 106)
  -- (9) "number 010 is point 16": a 244H at 010 sets the sixteenth slot, 40 bytes at 600, and no other; a 209H of 010 then lists it
  pub case9 : asked_of (holding 500) 0xFF 1 (text "!99209010001@@\r\n") ≡ Order list_points 16 1
  pub case9_slot :
      (answer_of (bench blank (text "!9924401000101001E001E00640000C350C1\r\n"))).areas.points
      ≡ replicate 600 0
      ++ (0x01 ∷ 0x00 ∷ 0x00 ∷ 0x1E ∷ 0x00 ∷ 0x1E ∷ 0x00 ∷ 0x64 ∷ 0x00 ∷ 0x00 ∷ 0xC3 ∷ 0x50 ∷ replicate 28 0)
      ++ replicate 19360 0
  pub case9_listed :
      replies_to blank (text "!9924401000101001E001E00640000C350C1\r\n" ∷ text "!9920901000150\r\n" ∷ [])
      ≡ text "#9924401000151\r\n" ∷ text "#9920900101001001E001E00640000C350C4\r\n" ∷ []
  -- (10) "position 80000000 is -2,147,483,648": as it is read, as a 244H stores it in point 1, and a 209H then lists its digits
  pub case10 : position_of (text "80000000") ≡ position (negsuc 2147483647)
  pub case10_stored :
      (point_at 1 (answer_of (bench blank (text "!9924400100101001E001E006480000000AE\r\n"))).areas).positions
      ≡ position (negsuc 2147483647) ∷ replicate 7 (position (pos 0))
  pub case10_listed :
      replies_to blank (text "!9924400100101001E001E006480000000AE\r\n" ∷ text "!9920900100150\r\n" ∷ [])
      ≡ text "#9924400100151\r\n" ∷ text "#9920900100101001E001E006480000000B1\r\n" ∷ []
  -- (11) "empty input: nothing found"
  pub case11 : find_in [] ≡ Nothing 0
  -- (12) "start 5DC is held with N = 1,500, 5DD isn't": a 209H of the one is accepted, of the other 106
  pub case12 : (asked_of (holding 1500) 0xFF 1 (text "!992095DC001@@\r\n") ≡ Order list_points 1500 1)
      × (asked_of (holding 1500) 0xFF 1 (text "!992095DD001@@\r\n") ≡ Refused 106)
  pub case12_answered : ((answer_of (bench largest (text "!992095DC001@@\r\n"))).number ≡ 0)
      × ((answer_of (bench largest (text "!992095DD001@@\r\n"))).number ≡ 106)
