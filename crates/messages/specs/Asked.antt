-- Document 01, "Refusal numbers, in the order tested", 101 to 107, and document 02, requests a, 108, and l: what a message with its content asks.
use Rattle.std.specs.Prelude.{ℕ, Bool, true, cond, not, ◌&&◌, List, [], ◌∷◌, leb, eqb, Result, Ok, Err, Option, Some, None}
use Rattle.digits.specs.Digits.{admitted, number_of}
use Rattle.frames.specs.Frame.{content_in}
use Rattle.kinds.specs.declared.Held.{Held}
use Rattle.kinds.specs.Kinds.{kind_of, holds}
use Rattle.table.specs.declared.Message.{Message}
use Rattle.messages.specs.declared.refusal.Refusal.{Refusal}
use Rattle.messages.specs.declared.Request.{Request}
use Rattle.messages.specs.Refusal.{refusal_number}
use Rattle.messages.specs.Rows.{Row, ◌when◌, first_of}
use Rattle.table.specs.Table.{message_of, program_in, start_in, count_in, rest_in, length_right, any_bytes, have_points, have_type, patterns_fit}

-- what a frame asks: a refusal, by its number, or a message's order with its start number and count
pub data Asked : Type 0 where
  Refused : (number : ℕ) → Asked
  Order : (message : Message) → (start count : ℕ) → Asked

-- what an answer says that a frame asks
abbrev pub asked_by : Result Request Refusal → Asked
asked_by (Ok r) = Order r.message r.start r.count
asked_by (Err refusal) = Refused (refusal_number refusal)

-- and one that has the refusal's number itself, whatever number that is
abbrev pub asked_with : Result Request ℕ → Asked
asked_with (Ok r) = Order r.message r.start r.count
asked_with (Err number) = Refused number

-- 102: "a content byte isn't a digit (not 200H)", as a release admits it (02, l)
abbrev pub not_digits : ℕ → Message → List ℕ → Bool
not_digits release m content = not (any_bytes m.follows) && not (admitted release content)

-- 103: "content length isn't this message's"; never a 200H's, which 6 has tested (02, c)
abbrev pub wrong_length : Held → Message → List ℕ → Bool
wrong_length held m content = not (length_right held m content)

-- 104: "program number not 00"
abbrev pub wrong_program : Message → List ℕ → Bool
wrong_program m content = not (eqb (program_in m content) 0)

-- 105: "count zero"
abbrev pub count_zero : Message → List ℕ → Bool
count_zero m content = leb 1 m.count && eqb (count_in m content) 0

-- 106: "a number from start to start+count-1 not held"
abbrev pub not_held : Held → Message → List ℕ → Bool
not_held held m content = leb 1 m.start && not (holds (kind_of held m.tag) (start_in m content) (count_in m content))

-- 107: "in 244H, a pattern 00 or with an unfitted axis"
abbrev pub wrong_pattern : ℕ → Message → List ℕ → Bool
wrong_pattern fitted m content = have_points m.follows && not (patterns_fit fitted (count_in m content) (rest_in m content))

-- 108: "a flag value the section doesn't list" (02, a): a change type other than 0 and 1
abbrev pub wrong_type : Message → List ℕ → Bool
wrong_type m content = have_type m.follows && not (leb (number_of (rest_in m content)) 1)

-- 101: "message unknown"; then the rows of a message that is known
unfoldable pub asked_rows : Held → ℕ → ℕ → Option Message → List ℕ → List Row
asked_rows held fitted release None content = (101 when true) ∷ []
asked_rows held fitted release (Some m) content =
    (102 when (not_digits release m content))
    ∷ (103 when (wrong_length held m content))
    ∷ (104 when (wrong_program m content))
    ∷ (105 when (count_zero m content))
    ∷ (106 when (not_held held m content))
    ∷ (107 when (wrong_pattern fitted m content))
    ∷ (108 when (wrong_type m content))
    ∷ []

-- the refusal's number, or, where none is given, the order with its numbers
unfoldable pub judged : Held → ℕ → ℕ → Option Message → List ℕ → Asked
judged held fitted release None content = Refused (first_of (asked_rows held fitted release None content))
judged held fitted release (Some m) content =
    cond (eqb (first_of (asked_rows held fitted release (Some m) content)) 0)
    (Order m (start_in m content) (count_in m content))
    (Refused (first_of (asked_rows held fitted release (Some m) content)))

-- what a frame asks of a board that holds so much, with these axes fitted, under a release
unfoldable pub asked_of : Held → ℕ → ℕ → List ℕ → Asked
asked_of held fitted release frame = judged held fitted release (message_of release frame) (content_in frame)

-- the number of each case: a refusal's own, and 0 for an order
abbrev pub number_given : Asked → ℕ
number_given (Refused number) = number
number_given (Order m start count) = 0
