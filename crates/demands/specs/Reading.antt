-- Demand 2: how a board is asked, and what its answers say of the numbers that a write named.
use Rattle.std.specs.Prelude.{ℕ, zero, suc, ◌+◌, ◌-◌, ◌*◌, ◌<◌, ◌≤◌, ◌≡◌, Bool, true, cond, not, ◌&&◌, ◌||◌, List, [], ◌∷◌, ◌++◌, leb, eqb, length, take, drop, get_or, Option, Some, None}
use Rattle.digits.specs.Digits.{capitals, number_of, digits_of}
use Rattle.digits.specs.Text.{text}
use Rattle.frames.specs.Frame.{command, normal, CR, LF, content_in, sc_of, reply_of}
use Rattle.areas.specs.Bytes.{four_at}
use Rattle.kinds.specs.declared.Kind.{Kind}
use Rattle.kinds.specs.Kinds.{points_tag, columns_tag, integers_tag, flags_tag, points_of, kind_of, held_in, holds, place_of, run_of}
use Rattle.pairs.specs.Pairs.{digits_in}
use Rattle.flags.specs.Flags.{eights, bit_at}
use Rattle.points.specs.Point.{length_of}
use Rattle.table.specs.declared.Message.{Message}
use Rattle.table.specs.Table.{start_in, count_in, rest_in}
use Rattle.listing.specs.Listing.{listed as listedIn, joined}
use Rattle.calls.specs.Calls.{Areas, Sent, Call, call_of, lengths_of, area_in}
use Rattle.refusals.specs.Refusals.{axes_fit, release_fits}
use Rattle.demands.specs.History.{Conduct, message_by, effective_of, CountTrue}

-- a frame's content ("Frame"), and the start number, the count and what follows them as its message reads these ("Each message")
abbrev pub content : Sent → List ℕ
content s = content_in s.frame

abbrev pub start_of : Message → Sent → ℕ
start_of m s = start_in m (content s)

abbrev pub count_of : Message → Sent → ℕ
count_of m s = count_in m (content s)

abbrev pub rest_of : Message → Sent → List ℕ
rest_of m s = rest_in m (content s)

-- a frame ("Frame"): header, any bytes as its station, what it says (ID and content), any bytes as its SC, CR LF
abbrev pub frame_with : List ℕ → List ℕ → List ℕ → List ℕ
frame_with station said sc = command ∷ (station ++ (said ++ (sc ++ (CR ∷ LF ∷ []))))

-- a command: the digits of its station, an SC that is true or '@@'
abbrev pub before : ℕ → List ℕ → List ℕ
before station said = command ∷ (digits_of 2 station ++ said)

abbrev pub command_of : Bool → ℕ → List ℕ → List ℕ
command_of checked station said = frame_with (digits_of 2 station) said (cond checked (sc_of (before station said)) (text "@@"))

-- a host whose commands are heard where the areas pass, with a true SC at least: its reply area is long enough (refusal 1), its axes fit (5), its release
-- is 1 or 2 (13; 02, l), and two digits write its station
pub record Host (h : Sent) : Type 0 where
  pub reply_long : 1024 ≤ length h.reply
  pub axes_fit_lem : axes_fit h.axes h.settings.fitted ≡ true
  pub release_fits_lem : release_fits h.settings.release ≡ true
  pub station_byte : h.settings.station < 256

-- a true SC, or '@@' where it is allowed (02, f)
abbrev pub allowed : Sent → Bool → Bool
allowed h checked = checked || h.settings.unchecked

-- what it asks of areas
abbrev pub asking : Areas → Sent → Bool → List ℕ → Call
asking a h checked asked = call_of (command_of checked h.settings.station asked) h.axes h.settings h.reply a

-- asked this over areas, by any such host, with a true SC or with '@@' where that is allowed, a board accepts it ("An accepted call has number 0")
-- and says that
pub record Says (board : Conduct) (a : Areas) (asked said : List ℕ) : Type 0 where
  pub number : (h : Sent) → Host h → (checked : Bool) → allowed h checked ≡ true → (board.answer (asking a h checked asked)).number ≡ 0
  pub text :
      (h : Sent) → Host h → (checked : Bool) → allowed h checked ≡ true
      → (board.answer (asking a h checked asked)).text ≡ reply_of normal h.settings.station said

-- a message with its content names none of so many numbers of a kind: it names another kind, or numbers before them, or behind them
abbrev pub spares : ℕ → ℕ → ℕ → Option Message → List ℕ → Bool
spares tag number many None content = true
spares tag number many (Some m) content =
    not (eqb m.tag tag) || (leb (start_in m content + count_in m content) number || leb (number + many) (start_in m content))

-- no later write touches them
abbrev pub untouched : ℕ → ℕ → ℕ → List Sent → Bool
untouched tag number many [] = true
untouched tag number many (s ∷ later) = spares tag number many (message_by s) (content s) && untouched tag number many later

-- a kind's query, 210H of columns or 20EH of integers: its ID, program number 00, start and count; the reply repeats these ("Each message"; 02, a)
abbrev pub asks_run : List ℕ → ℕ → ℕ → List ℕ
asks_run id start count = id ++ (text "00" ++ (digits_of 3 start ++ digits_of 2 count))

-- the digits of so many things of so many bytes each, two for a byte, in digits whose first thing is a given one
abbrev pub digits_from : ℕ → ℕ → ℕ → ℕ → List ℕ → List ℕ
digits_from unit first number many digits = take (2 * (many * unit)) (drop (2 * ((number - first) * unit)) digits)

-- the kind of a tag, over areas
abbrev pub kind_in : ℕ → Areas → Kind
kind_in tag a = kind_of (held_in (lengths_of a)) tag

-- a query of some numbers of a kind says, of all those that a change named and no later write touched, the very digits that were sent, in their place and
-- in capitals (02, l)
pub record RunSaid (board : Conduct) (a : Areas) (id : List ℕ) (tag : ℕ) (m : Message) (s : Sent) (later : List Sent) (start count : ℕ) : Type 0 where
  pub digits : List ℕ
  pub says : Says board a (asks_run id start count) (asks_run id start count ++ digits)
  pub as_many : length digits ≡ 2 * (count * (kind_in tag a).unit)
  pub in_place :
      (number many : ℕ) → start_of m s ≤ number → number + many ≤ start_of m s + count_of m s → start ≤ number → number + many ≤ start + count
      → untouched tag number many later ≡ true
      → digits_from (kind_in tag a).unit start number many digits ≡ digits_from (kind_in tag a).unit (start_of m s) number many (capitals (rest_of m s))

-- demand 2, after a change of a kind's run: a query of the same numbers says the very content that was sent, in capitals (02, l); one of any part of
-- them, or of any numbers that hold them or a part of them, says these digits in their place
pub record RunRead (board : Conduct) (a : Areas) (id : List ℕ) (tag : ℕ) (m : Message) (s : Sent) (later : List Sent) : Type 0 where
  pub kind : m.tag ≡ tag
  pub whole : untouched tag (start_of m s) (count_of m s) later ≡ true → Says board a (id ++ capitals (take 7 (content s))) (id ++ capitals (content s))
  pub any_run : (start count : ℕ) → 1 ≤ count → count ≤ 255 → holds (kind_in tag a) start count ≡ true → RunSaid board a id tag m s later start count

-- and each integer that a 24CH changed stands in its area as the number that its eight digits write, "four bytes an integer, high byte first" (02, a)
abbrev pub IntegersStored : Areas → Message → Sent → List Sent → Type 0
IntegersStored a m s later =
    (i : ℕ) → i < count_of m s → untouched integers_tag (start_of m s + i) 1 later ≡ true
    → four_at a.integers (place_of (kind_in integers_tag a) (start_of m s + i)) ≡ number_of (take 8 (drop (8 * i) (rest_of m s)))

-- 20DH of flags: program number 00, start and count; the reply repeats these (02, a)
abbrev pub asks_flags : ℕ → ℕ → List ℕ
asks_flags start count = text "20D00" ++ (digits_of 4 start ++ digits_of 4 count)

-- a 20DH of some flags shows a flag's value in its bit
pub record FlagShown (board : Conduct) (a : Areas) (start count number value : ℕ) : Type 0 where
  pub bytes : List ℕ
  pub says : Says board a (asks_flags start count) (asks_flags start count ++ digits_in bytes)
  pub bit : bit_at (number - start) bytes ≡ value

-- demand 2, after a 24BH: every 20DH of flags among which its flag is shows the change type that was sent
pub record FlagRead (board : Conduct) (a : Areas) (m : Message) (s : Sent) (later : List Sent) : Type 0 where
  pub kind : m.tag ≡ flags_tag
  pub shown :
      untouched flags_tag (start_of m s) 1 later ≡ true → (start count : ℕ) → holds (kind_in flags_tag a) start count ≡ true → start ≤ start_of m s
      → start_of m s < start + count → FlagShown board a start count (start_of m s) (number_of (rest_of m s))

-- and its byte is the change type, 00 or 01 (02, a; 4-3-27)
abbrev pub FlagStored : Areas → Message → Sent → List Sent → Type 0
FlagStored a m s later =
    untouched flags_tag (start_of m s) 1 later ≡ true → get_or a.flags (place_of (kind_in flags_tag a) (start_of m s)) 0 ≡ number_of (rest_of m s)

-- the points that digits write, each with its number before its very digits (as 209H lists them, 4-3-5)
unfoldable pub sent : ℕ → ℕ → List ℕ → List (List ℕ)
sent zero number digits = []
sent (suc count) number digits = (digits_of 3 number ++ take (length_of digits) digits) ∷ sent count (suc number) (drop (length_of digits) digits)

-- those that a 244H sends, in capitals (02, l)
abbrev pub sent_by : Message → Sent → List (List ℕ)
sent_by m s = sent (count_of m s) (start_of m s) (capitals (rest_of m s))

-- the leading ones that fit into so much room ("as many leading ones as keep the reply within 1,024 bytes")
unfoldable pub fitting : ℕ → List (List ℕ) → List (List ℕ)
fitting room [] = []
fitting room (s ∷ ss) = cond (leb (length s) room) (s ∷ fitting (room - length s) ss) []

-- what a 209H lists: how many, and each
abbrev pub lists : List (List ℕ) → List ℕ
lists points = text "209" ++ (digits_of 3 (length points) ++ joined points)

-- the room that a list has in 1,024 bytes: thirteen of them are header, station, ID, count, SC, CR and LF ("Each message", 209H)
abbrev pub list_room : ℕ
list_room = 1011

-- 209H of points: start and count ("Each message")
abbrev pub asks_points : ℕ → ℕ → List ℕ
asks_points start count = text "209" ++ (digits_of 3 start ++ digits_of 3 count)

-- demand 2, after a 244H: a 209H of the same points lists each, as many as fit, with the very digits that were sent, in
-- capitals; and of any one of them, its own
pub record PointsRead (board : Conduct) (a : Areas) (m : Message) (s : Sent) (later : List Sent) : Type 0 where
  pub kind : m.tag ≡ points_tag
  pub listed :
      untouched points_tag (start_of m s) (count_of m s) later ≡ true → Says board a (text "209" ++ capitals (take 6 (content s))) (lists (fitting list_room (sent_by m s)))
  pub each :
      (i : ℕ) → i < count_of m s → untouched points_tag (start_of m s + i) 1 later ≡ true
      → Says board a (asks_points (start_of m s + i) 1) (lists (get_or (sent_by m s) i [] ∷ []))

-- demand 2, after a 246H: those points are not listed, all of them and each
pub record PointsGone (board : Conduct) (a : Areas) (m : Message) (s : Sent) (later : List Sent) : Type 0 where
  pub kind : m.tag ≡ points_tag
  pub listed : untouched points_tag (start_of m s) (count_of m s) later ≡ true → Says board a (text "209" ++ capitals (content s)) (text "209000")
  pub each :
      (i : ℕ) → i < count_of m s → untouched points_tag (start_of m s + i) 1 later ≡ true → Says board a (asks_points (start_of m s + i) 1) (text "209000")

-- what is read, over areas, of the numbers that a write named, where later writes have not touched them
pub record Reads (board : Conduct) (a : Areas) (m : Message) (s : Sent) (later : List Sent) : Type 0 where
  pub codes : m.id ≡ 0x24E → RunRead board a (text "210") columns_tag m s later
  pub integers : m.id ≡ 0x24C → RunRead board a (text "20E") integers_tag m s later
  pub stored : m.id ≡ 0x24C → IntegersStored a m s later
  pub flag : m.id ≡ 0x24B → FlagRead board a m s later
  pub flag_stored : m.id ≡ 0x24B → FlagStored a m s later
  pub points : m.id ≡ 0x244 → PointsRead board a m s later
  pub cleared : m.id ≡ 0x246 → PointsGone board a m s later

-- the slots from a number on
abbrev pub slots_from : ℕ → Areas → List ℕ
slots_from number a = drop (place_of (points_of (held_in (lengths_of a))) number) a.points

-- two digits for each byte of any numbers of a kind
abbrev pub RunTold : Conduct → Areas → List ℕ → ℕ → Type 0
RunTold board a id tag =
    (start count : ℕ) → 1 ≤ count → count ≤ 255 → holds (kind_in tag a) start count ≡ true
    → Says board a (asks_run id start count) (asks_run id start count ++ digits_in (run_of (kind_in tag a) start count (area_in tag a)))

-- what is told of all that is held, whoever wrote it ("Each message"; 02, a): 208H the number of effective points, "with a count that is true" (02, b),
-- 209H of any points lists those among them, as many leading ones as fit, 210H of any columns and 20EH of any integers say two digits for each byte, 20DH
-- of any flags shows each eight
pub record Tells (board : Conduct) (a : Areas) : Type 0 where
  pub counted : CountTrue a → Says board a (text "208") (text "208" ++ digits_of 3 (effective_of a))
  pub listed :
      (start count : ℕ) → 1 ≤ count → holds (points_of (held_in (lengths_of a))) start count ≡ true
      → Says board a (asks_points start count) (lists (listedIn list_room count start (slots_from start a)))
  pub columns : RunTold board a (text "210") columns_tag
  pub integers : RunTold board a (text "20E") integers_tag
  pub flags :
      (start count : ℕ) → 1 ≤ count → holds (kind_in flags_tag a) start count ≡ true
      → Says board a (asks_flags start count) (asks_flags start count ++ digits_in (eights 0 (run_of (kind_in flags_tag a) start count a.flags)))
