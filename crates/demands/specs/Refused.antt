-- Demand 1: a refused frame or step back changes nothing; "a refusal has one number and one fixed reply, or none".
use Rattle.std.specs.Prelude.{ℕ, ◌≤◌, ◌<◌, ◌≡◌, Bool, true, false, ◌||◌, List, [], ◌∷◌, eqb, length, drop}
use Rattle.digits.specs.Laid.{laid}
use Rattle.frames.specs.Frame.{error_of}
use Rattle.messages.specs.Asked.{Asked, Refused, Order}
use Rattle.calls.specs.Calls.{Areas, Call}
use Rattle.refusals.specs.Refusals.{silent_of, refusal_of, back_refusal_of}
use Rattle.link.specs.Answer as link
use Rattle.orders.specs.Orders.{writes}
use Rattle.link.specs.Answer.{asked, answer_of}
use Rattle.back.specs.Back.{back_of}

-- the number that comes back is the table's, for a frame and for a step back ("Refusal numbers")
pub record OneNumber : Type 0 where
  pub frame : (c : Call) → (answer_of c).number ≡ refusal_of c
  pub back : (a : Areas) → (back_of a).number ≡ back_refusal_of a

-- a frame's numbers ("Refusal numbers"; 02, a, b, f and l): "An accepted call has number 0", 1 to 8 and 10 to 13 come without a reply, 101 to 108 with
-- the error reply
abbrev pub frame_numbers : List ℕ
frame_numbers = 0 ∷ 1 ∷ 2 ∷ 3 ∷ 10 ∷ 4 ∷ 5 ∷ 13 ∷ 6 ∷ 12 ∷ 7 ∷ 8 ∷ 11 ∷ 101 ∷ 102 ∷ 103 ∷ 104 ∷ 105 ∷ 106 ∷ 107 ∷ 108 ∷ []

-- the step back's: it "tests 2, 3, 4, then 9" ("Refusal numbers"), 10 after 3 (02, a) and 11 after 4 (02, b)
abbrev pub back_numbers : List ℕ
back_numbers = 0 ∷ 2 ∷ 3 ∷ 10 ∷ 4 ∷ 11 ∷ 9 ∷ []

-- a number stands in such a list
abbrev pub among : ℕ → List ℕ → Bool
among n [] = false
among n (k ∷ ks) = eqb n k || among n ks

-- no other number comes back ("Refusal numbers")
pub record NoOtherNumber : Type 0 where
  pub frame : (c : Call) → among (answer_of c).number frame_numbers ≡ true
  pub back : (a : Areas) → among (back_of a).number back_numbers ≡ true

-- "A frame that is refused changes no point, no column and nothing in the journal" (demand 1), no integer and no flag (02, a); the step back neither
pub record ChangesNothing : Type 0 where
  pub frame : (c : Call) → ((answer_of c).number ≡ 0 → ⊥) → (answer_of c).areas ≡ c.areas
  pub back : (a : Areas) → ((back_of a).number ≡ 0 → ⊥) → (back_of a).areas ≡ a

-- "one fixed reply, or none": below 100 none, from 101 the ten bytes that number and station give
pub record OneReply : Type 0 where
  pub none : (c : Call) → ((answer_of c).number ≡ 0 → ⊥) → (answer_of c).number < 100 → (answer_of c).text ≡ []
  pub ten :
      (c : Call) → 101 ≤ (answer_of c).number
      → ((answer_of c).text ≡ error_of c.sent.settings.station (answer_of c).number) × (length (answer_of c).text ≡ 10)
  -- so the reply area is left as it was, or beyond its first ten bytes
  pub area_left : (c : Call) → ((answer_of c).number ≡ 0 → ⊥) → (answer_of c).number < 100 → laid c.sent.reply 0 (answer_of c).text ≡ c.sent.reply
  pub beyond_ten : (c : Call) → 101 ≤ (answer_of c).number → drop 10 (laid c.sent.reply 0 (answer_of c).text) ≡ drop 10 c.sent.reply
  pub back : (a : Areas) → (back_of a).text ≡ []

-- "Granted that no refusal without a reply holds for the call, an error reply depends on frame, station, N and fitted axes only", and "may depend on
-- settings too" (02, a), the first numbers and the release (02, l), and not on `unchecked` (02, f): two such calls
pub record SameError (c d : Call) : Type 0 where
  pub frame : c.sent.frame ≡ d.sent.frame
  pub station : c.sent.settings.station ≡ d.sent.settings.station
  pub release : c.sent.settings.release ≡ d.sent.settings.release
  pub held : link.held c ≡ link.held d
  pub fitted : c.sent.settings.fitted ≡ d.sent.settings.fitted
  pub heard : (silent_of c ≡ 0) × (silent_of d ≡ 0)

abbrev pub ErrorsAgree : Type 0
ErrorsAgree = (c d : Call) → SameError c d → ((answer_of c).number ≡ (answer_of d).number) × (101 ≤ (answer_of c).number → (answer_of c).text ≡ (answer_of d).text)

-- a write is asked, 244H, 246H, 24EH, 24BH or 24CH
abbrev pub asks_write : Asked → Bool
asks_write (Refused number) = false
asks_write (Order m start count) = writes m.does

-- a query changes nothing of these either, so it is never stepped back ("Slips we have seen")
abbrev pub QueryChangesNothing : Type 0
QueryChangesNothing = (c : Call) → asks_write (asked c) ≡ false → (answer_of c).areas ≡ c.areas
