-- Demand 2 of the sum, for service: "take a frame with a true SC that passes tests 6 and 7, and change exactly one of its bytes to any other value."
-- (02, n)
use Rattle.std.specs.Prelude.{ℕ, ◌+◌, ◌-◌, ◌<◌, ◌≡◌, ◌⊎◌, Bool, true, cond, not, ◌||◌, List, eqb, length, get_or, None, Some}
use Rattle.digits.specs.Digits.{capital}
use Rattle.frames.specs.declared.checks.Sum.TheVariants.{Wrong}
use Rattle.frames.specs.Frame.{test_call_fits, sum_true}
use Rattle.messages.specs.Rows.{first_of}
use Rattle.calls.specs.Calls.{Call, Outcome, unanswered}
use Rattle.refusals.specs.Refusals.{early}
use Rattle.demands.specs.History.{Conduct}
use Rattle.demands.specs.TestCalls.{handed}

-- "a frame with a true SC that passes tests 6 and 7", where "nothing before 6 refuses the call": no test up to 6 does, and 7 is passed by that SC
pub record Passes (release : ℕ) (c : Call) : Type 0 where
  pub release_is : c.sent.settings.release ≡ release
  pub to_six : first_of (early c) ≡ 0
  pub true_sc : sum_true release c.sent.frame ≡ true

-- "change exactly one of its bytes to any other value": two frames of the same length that differ at one place, where each has a byte
pub record Changed (place : ℕ) (frame frame' : List ℕ) : Type 0 where
  pub same_length : length frame' ≡ length frame
  pub differs : get_or frame' place 0 ≡ get_or frame place 0 → ⊥
  pub elsewhere : (other : ℕ) → (other ≡ place → ⊥) → get_or frame' other 0 ≡ get_or frame other 0
  pub bytes : (get_or frame place 0 < 256) × (get_or frame' place 0 < 256)

-- what a board answers to the call with another frame
abbrev pub to_changed : Conduct → Call → List ℕ → Outcome
to_changed board c frame' = board.answer (handed c.areas c.sent frame')

-- test 6 isn't passed any more: '!', CR or LF is changed, or the frame is now "a 200H frame of another length" (02, c)
abbrev pub misshapen : ℕ → List ℕ → Bool
misshapen place frame' =
    eqb place 0 || (eqb place (length frame' - 2) || (eqb place (length frame' - 1) || not (test_call_fits frame')))

-- "the changed frame is refused by 6 or 7": by 6, the sum untested, where it is misshapen, else by 7; nothing is changed and nothing is replied
abbrev pub Caught : Conduct → Call → ℕ → List ℕ → Type 0
Caught board c place frame' =
    to_changed board c frame' ≡ cond (misshapen place frame') (unanswered None 6 c.areas) (unanswered (Some Wrong) 7 c.areas)

-- so it is "under the release 1 rule"
abbrev pub CaughtUnderOne : Conduct → Type 0
CaughtUnderOne board =
    (c : Call) → Passes 1 c → (place : ℕ) (frame' : List ℕ) → Changed place c.sent.frame frame' → Caught board c place frame'

-- "the byte is an SC letter that only changed between capital and small": one of the two SC places, and two bytes that are the same in capitals; where
-- they differ, as in a changed frame, that is one letter, once small and once capital
pub record OnlySize (place : ℕ) (frame frame' : List ℕ) : Type 0 where
  pub of_sc : (place + 4 ≡ length frame) ⊎ (place + 3 ≡ length frame)
  pub same_letter : capital (get_or frame' place 0) ≡ capital (get_or frame place 0)

-- "Under release 2 the same holds unless" it is such a letter
abbrev pub CaughtUnderTwo : Conduct → Type 0
CaughtUnderTwo board =
    (c : Call) → Passes 2 c → (place : ℕ) (frame' : List ℕ) → Changed place c.sent.frame frame' → (OnlySize place c.sent.frame frame' → ⊥)
    → Caught board c place frame'

-- and where it is, neither 6 nor 7 refuses the changed frame: it is answered as the frame was
pub record Unnoticed (board : Conduct) (c : Call) (frame' : List ℕ) : Type 0 where
  pub not_six : (to_changed board c frame').number ≡ 6 → ⊥
  pub not_seven : (to_changed board c frame').number ≡ 7 → ⊥
  pub same_answer : to_changed board c frame' ≡ board.answer c

abbrev pub SizeUnnoticed : Conduct → Type 0
SizeUnnoticed board =
    (c : Call) → Passes 2 c → (place : ℕ) (frame' : List ℕ) → Changed place c.sent.frame frame' → OnlySize place c.sent.frame frame'
    → Unnoticed board c frame'

pub record OneByte (board : Conduct) : Type 0 where
  pub under_one : CaughtUnderOne board
  pub under_two : CaughtUnderTwo board
  pub size_unnoticed : SizeUnnoticed board
