-- Document 01, "What the board answers" and "Each message", and document 02, requests a and l; source document 000, sections 4-3-2 to 4-3-30: which frames
-- are commands, and the fields of each.
use Rattle.std.specs.Prelude.{ℕ, zero, suc, ◌+◌, ◌*◌, ◌≤◌, Bool, true, false, cond, not, ◌&&◌, List, [], ◌∷◌, leb, eqb, length, take, drop, Option, Some, None}
use Rattle.std.specs.Int.Bits.{bit_and}
use Rattle.digits.specs.Digits.{admitted, number_of}
use Rattle.frames.specs.Frame.{message_in}
use Rattle.kinds.specs.declared.Held.{Held}
use Rattle.kinds.specs.Kinds.{points_tag, columns_tag, integers_tag, flags_tag, kind_of}
use Rattle.points.specs.Point.{length_of, fills_of}
use Rattle.table.specs.declared.Follows.{Follows}
use Rattle.table.specs.declared.Follows.TheVariants.{Nothing, TenBytes, AxisPattern, Points, RunBytes, ChangeType}
use Rattle.table.specs.declared.Action.{Action}
use Rattle.table.specs.declared.Action.TheVariants.{SayBack, CountPoints, ListPoints, ReadRun, AxisStatus, WritePoints, ClearRun, ChangeRun, ShowFlags, SetFlag}
use Rattle.table.specs.declared.Message.{Message}

-- a row: ID; how many digits program number, start number and count have, 0 where it has none; the tag of the kind that it asks of, 0 where it asks of none; what follows
-- these fields; what it has the board do; whether the reply repeats the fields
abbrev pub row : ℕ → ℕ → ℕ → ℕ → ℕ → Follows → Action → Bool → Message
row id program start count tag follows does repeats =
    record { id = id; program = program; start = start; count = count; tag = tag; follows = follows; does = does; repeats = repeats }

-- "Messages: 200H test call, 208H number of effective points, 209H effective point query, 210H string query, 212H axis status, 244H point range
-- write, 246H point clear, 24EH string change."; "20DH, 20EH, 24BH and 24CH" (02, a): flags and integers asked for, a flag set, integers changed
abbrev pub messages : List Message
messages =
    row 0x200 0 0 0 0 TenBytes SayBack false
    ∷ row 0x208 0 0 0 points_tag Nothing CountPoints false
    ∷ row 0x209 0 3 3 points_tag Nothing ListPoints false
    ∷ row 0x20D 2 4 4 flags_tag Nothing ShowFlags true
    ∷ row 0x20E 2 3 2 integers_tag Nothing ReadRun true
    ∷ row 0x210 2 3 2 columns_tag Nothing ReadRun true
    ∷ row 0x212 0 0 0 0 AxisPattern AxisStatus false
    ∷ row 0x244 0 3 3 points_tag Points WritePoints true
    ∷ row 0x246 0 3 3 points_tag Nothing ClearRun false
    ∷ row 0x24B 2 4 0 flags_tag ChangeType SetFlag false
    ∷ row 0x24C 2 3 2 integers_tag RunBytes ChangeRun true
    ∷ row 0x24E 2 3 2 columns_tag RunBytes ChangeRun false
    ∷ []

-- "Any other message is unknown to it."
abbrev pub named_in : ℕ → List Message → Option Message
named_in id [] = None
named_in id (m ∷ ms) = cond (eqb id m.id) (Some m) (named_in id ms)

unfoldable pub message_numbered : ℕ → Option Message
message_numbered id = named_in id messages

-- the message of a frame, its ID in the digits that a release admits (02, l)
unfoldable pub message_of : ℕ → List ℕ → Option Message
message_of release frame = cond (admitted release (message_in frame)) (message_numbered (number_of (message_in frame))) None

-- the fields of a content, and what follows them
abbrev pub fields_of : Message → ℕ
fields_of m = m.program + m.start + m.count

abbrev pub program_in : Message → List ℕ → ℕ
program_in m content = number_of (take m.program content)

abbrev pub start_in : Message → List ℕ → ℕ
start_in m content = number_of (take m.start (drop m.program content))

-- a 24BH has no count (4-3-27) and names one
abbrev pub count_in : Message → List ℕ → ℕ
count_in m content = cond (eqb m.count 0) 1 (number_of (take m.count (drop (m.program + m.start) content)))

abbrev pub rest_in : Message → List ℕ → List ℕ
rest_in m content = drop (fields_of m) content

-- what follows is as long as this message's (refusal 103): none, "ten bytes", "axis pattern 2 digits", "exactly count points, each as long as its
-- own pattern says", two digits for each byte of the run, a change type of one digit (4-3-27)
abbrev pub follows_right : Follows → ℕ → ℕ → List ℕ → Bool
follows_right Nothing unit count rest = eqb (length rest) 0
follows_right TenBytes unit count rest = eqb (length rest) 10
follows_right AxisPattern unit count rest = eqb (length rest) 2
follows_right Points unit count rest = fills_of count rest
follows_right RunBytes unit count rest = eqb (length rest) (2 * (count * unit))
follows_right ChangeType unit count rest = eqb (length rest) 1

abbrev pub length_right : Held → Message → List ℕ → Bool
length_right held m content =
    leb (fields_of m) (length content) && follows_right m.follows (kind_of held m.tag).unit (count_in m content) (rest_in m content)

-- "(not 200H)" (refusal 102): the ten bytes are any
abbrev pub any_bytes : Follows → Bool
any_bytes Nothing = false
any_bytes TenBytes = true
any_bytes AxisPattern = false
any_bytes Points = false
any_bytes RunBytes = false
any_bytes ChangeType = false

-- "in 244H" (refusal 107): points follow
abbrev pub have_points : Follows → Bool
have_points Nothing = false
have_points TenBytes = false
have_points AxisPattern = false
have_points Points = true
have_points RunBytes = false
have_points ChangeType = false

-- in 24BH (refusal 108): a change type follows
abbrev pub have_type : Follows → Bool
have_type Nothing = false
have_type TenBytes = false
have_type AxisPattern = false
have_type Points = false
have_type RunBytes = false
have_type ChangeType = true

-- neither "a pattern 00" nor one "with an unfitted axis" (refusal 107)
unfoldable pub pattern_fits : ℕ → ℕ → Bool
pattern_fits fitted pattern = not (eqb pattern 0) && eqb (bit_and pattern fitted) pattern

unfoldable pub patterns_fit : ℕ → ℕ → List ℕ → Bool
patterns_fit fitted zero digits = true
patterns_fit fitted (suc count) digits = pattern_fits fitted (number_of (take 2 digits)) && patterns_fit fitted count (drop (length_of digits) digits)

-- fields that a number can be read from: at most four digits each
pub record Narrow (m : Message) : Type 0 where
  pub program : m.program ≤ 4
  pub start : m.start ≤ 4
  pub count : m.count ≤ 4
