-- Demand 2 worked through by computing: calls and histories that meet its premises, and what is read after them. Only the list of 45 points is too
-- long to be computed; it is what demand 2 says.
use Rattle.std.specs.Prelude.{ℕ, ◌≡◌, true, false, List, [], ◌∷◌, ◌++◌, take, replicate}
use Rattle.digits.specs.Text.{text}
use Rattle.frames.specs.Frame.{normal, reply_of}
use Rattle.kinds.specs.Kinds.{points_tag, columns_tag, integers_tag, flags_tag}
use Rattle.listing.specs.Listing.{joined}
use Rattle.calls.specs.Calls.{Areas, Sent, Call}
use Rattle.link.specs.Answer.{answer_of}
use Rattle.trials.specs.Cases.{bench, blank}
use Rattle.demands.specs.History.{ours, Event, frame, step_back, call_on}
use Rattle.demands.specs.Reading.{Host, untouched}
use Rattle.demands.specs.Survive.{Accepted}
use Rattle.trials.specs.Broken.{send, lot_code, point_one, clear_one, count, two_integers, one_flag, small}

-- each to a fresh bench: a 24EH of the lot code 0047, the bench listing's 244H of point 1, a 246H of point 1, a 244H of 45 one-axis points
abbrev pub code_call : Call
code_call = call_on blank lot_code

abbrev pub point_call : Call
point_call = bench blank (text "!9924400100103001E001E00640000C350FFFFFFFFF3\r\n")

abbrev pub clear_call : Call
clear_call = call_on blank clear_one

abbrev pub many_call : Call
many_call = bench blank (text "!9924400102D" ++ (joined (replicate 44 (text "0100000000000000000001")) ++ text "010000000000000000002D@@\r\n"))

-- integers 200 and 201 set to 1 and 2, and flag 607 set (02, a)
abbrev pub integers_call : Call
integers_call = call_on blank two_integers

abbrev pub flag_call : Call
flag_call = call_on blank one_flag

-- integer 201 set to -1, flag 608 set, flag 607 set to 0
abbrev pub next_integer : Sent
next_integer = send "!9924C000C901FFFFFFFF@@\r\n"

abbrev pub next_flag : Sent
next_flag = send "!9924B0002601@@\r\n"

abbrev pub flag_off : Sent
flag_off = send "!9924B00025F0@@\r\n"

-- column 302 changed, and a history of a small board: the lot code, column 302, a step back, point 1, the count
abbrev pub one_column : Sent
one_column = send "!9924E0012E0141@@\r\n"

abbrev pub events : List Event
events = frame lot_code ∷ frame one_column ∷ step_back ∷ frame point_one ∷ frame count ∷ []

-- what is replied over areas
abbrev pub replied : Areas → List ℕ → List ℕ
replied a asked = (answer_of (bench a asked)).text

pub record Examples : Type 0 where
  pub host : Host code_call.sent
  pub code : Accepted 0x24E code_call
  pub point : Accepted 0x244 point_call
  pub clear : Accepted 0x246 clear_call
  pub many : Accepted 0x244 many_call
  pub integers : Accepted 0x24C integers_call
  pub flag : Accepted 0x24B flag_call
  -- the frame of proved case 7; columns 301 and 302 of these; columns 300 to 305
  pub code_back : replied (answer_of code_call).areas (text "!992100012C0490\r\n") ≡ text "#992100012C043030343729\r\n"
  pub code_part : replied (answer_of code_call).areas (text "!992100012D02@@\r\n") ≡ reply_of normal 0x99 (text "2100012D023034")
  pub code_within : replied (answer_of code_call).areas (text "!992100012C06@@\r\n") ≡ reply_of normal 0x99 (text "2100012C06303034370000")
  -- a 209H of point 1
  pub point_back : replied (answer_of point_call).areas (text "!99209001001@@\r\n") ≡ reply_of normal 0x99 (text "20900100103001E001E00640000C350FFFFFFFF")
  -- of points 1 to 16, and of columns 310 and 311, which nobody wrote
  pub range_listed :
      replied (answer_of point_call).areas (text "!99209001010@@\r\n") ≡ reply_of normal 0x99 (text "20900100103001E001E00640000C350FFFFFFFF")
  pub others_read : replied (answer_of point_call).areas (text "!992100013602@@\r\n") ≡ reply_of normal 0x99 (text "21000136020000")
  pub clear_back : replied (answer_of clear_call).areas (text "!99209001001@@\r\n") ≡ reply_of normal 0x99 (text "209000")
  -- a 20EH of integers 200 and 201, of 201 alone, and of 199 to 201, which is not held from its first number on
  pub integers_back : replied (answer_of integers_call).areas (text "!9920E000C802@@\r\n") ≡ reply_of normal 0x99 (text "20E000C8020000000100000002")
  pub integer_alone : replied (answer_of integers_call).areas (text "!9920E000C901@@\r\n") ≡ reply_of normal 0x99 (text "20E000C90100000002")
  pub not_held_lem : (answer_of (bench (answer_of integers_call).areas (text "!9920E000C703@@\r\n"))).number ≡ 106
  -- a 20DH of flag 607 alone, of flags 600 to 608, and of 607 to 615: it stands in bit 0, in bit 7 and in bit 0, and bits beyond the count are 0
  pub flag_alone : replied (answer_of flag_call).areas (text "!9920D00025F0001@@\r\n") ≡ reply_of normal 0x99 (text "20D00025F000101")
  pub flag_within : replied (answer_of flag_call).areas (text "!9920D0002580009@@\r\n") ≡ reply_of normal 0x99 (text "20D00025800098000")
  pub flag_first : replied (answer_of flag_call).areas (text "!9920D00025F0009@@\r\n") ≡ reply_of normal 0x99 (text "20D00025F00090100")
  -- of integers 201 to 203, of which the first was written
  pub integers_overlap : replied (answer_of integers_call).areas (text "!9920E000C903@@\r\n") ≡ reply_of normal 0x99 (text "20E000C903000000020000000000000000")
  -- integer 200 and flag 607 where others were written behind them, and the flag set to 0 again
  pub integer_spared : (untouched integers_tag 200 1 (next_integer ∷ []) ≡ true)
      × (replied (small ours (frame two_integers ∷ frame next_integer ∷ [])).areas (text "!9920E000C802@@\r\n") ≡ reply_of normal 0x99 (text "20E000C80200000001FFFFFFFF"))
  pub flag_spared : (untouched flags_tag 607 1 (next_flag ∷ []) ≡ true)
      × (replied (small ours (frame one_flag ∷ frame next_flag ∷ [])).areas (text "!9920D00025F0003@@\r\n") ≡ reply_of normal 0x99 (text "20D00025F000303"))
  pub flag_off_lem : replied (small ours (frame one_flag ∷ frame flag_off ∷ [])).areas (text "!9920D00025F0001@@\r\n") ≡ reply_of normal 0x99 (text "20D00025F000100")
  -- of the 45 points a 209H lists 40, and the last one is read alone
  pub many_listed : take 9 (replied (answer_of many_call).areas (text "!9920900102D@@\r\n")) ≡ text "#99209028"
  pub last_read : replied (answer_of many_call).areas (text "!9920902D001@@\r\n") ≡ reply_of normal 0x99 (text "20900102D010000000000000000002D")
  -- after the history the lot code stands, no later write touches it, and it is read with every digit
  pub stands : (small ours events).standing_writes ≡ [] ++ (lot_code ∷ point_one ∷ [])
  pub not_touched : untouched columns_tag 300 4 (point_one ∷ []) ≡ true
  pub still_read : replied (small ours events).areas (text "!992100012C0490\r\n") ≡ text "#992100012C043030343729\r\n"
  -- and point 1, written before the lot code
  pub point_stands : (small ours (frame point_one ∷ frame lot_code ∷ [])).standing_writes ≡ [] ++ (point_one ∷ lot_code ∷ [])
  pub point_not_touched : untouched points_tag 1 1 (lot_code ∷ []) ≡ true
  pub point_read :
      replied (small ours (frame point_one ∷ frame lot_code ∷ [])).areas (text "!99209001001@@\r\n")
      ≡ reply_of normal 0x99 (text "2090010010100000000000000000001")
  -- with column 302 changed behind it, and standing, the first two columns still are its own
  pub touched : untouched columns_tag 300 4 (one_column ∷ []) ≡ false
  pub first_two : untouched columns_tag 300 2 (one_column ∷ []) ≡ true
  pub two_read :
      replied (small ours (frame lot_code ∷ frame one_column ∷ [])).areas (text "!992100012C0490\r\n") ≡ reply_of normal 0x99 (text "2100012C0430304137")
