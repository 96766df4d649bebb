-- Demand 2 of the sum: "One site wants '@@' forbidden, and the service log should say which frames used it." (02, f)
use Rattle.std.specs.Prelude.{ℕ, ◌≡◌, ◌↔◌, Bool, true, false, cond, not, ◌||◌, List, [], ◌∷◌, ◌++◌, eqb, length, None, Some}
use Rattle.digits.specs.Laid.{laid}
use Rattle.digits.specs.Text.{text}
use Rattle.frames.specs.declared.checks.Sum.TheVariants.{SwitchedOff, Wrong}
use Rattle.frames.specs.Frame.{sc_in, sum_true, sum_off, sum_said, station_passes}
use Rattle.messages.specs.Rows.{◌when◌, first_of}
use Rattle.messages.specs.Asked.{number_given}
use Rattle.calls.specs.Calls.{Areas, Sent, Call, Outcome, call_of, unanswered}
use Rattle.refusals.specs.Refusals.{early, count_rows, told_of}
use Rattle.link.specs.Answer.{asked, text_of, areas_after}
use Rattle.link.specs.Contract.{GivenBack, Answers}
use Rattle.demands.specs.Refused.{among}
use Rattle.demands.specs.History.{Conduct}
use Rattle.demands.specs.Reading.{asking}

-- a call with '@@' allowed or forbidden, whatever it was handed over with
abbrev pub allowing : Bool → Call → Call
allowing unchecked c =
    let s = c.sent.settings in
    call_of c.sent.frame c.sent.axes (record { station = s.station; release = s.release; unchecked = unchecked; fitted = s.fitted })
    c.sent.reply c.areas

-- the refusals without a reply as they were before: 1 to 6, 10 and 13, then 7, "SC neither true nor '@@'", and 8; and 11 behind them (02, b)
abbrev pub silent_before : Call → ℕ
silent_before c =
    let s = c.sent.settings in
    let f = c.sent.frame in
    first_of
    (early c
    ++ ((7 when (not (sum_true s.release f || sum_off f)))
    ∷ (8 when (not (station_passes s.release s.station f)))
    ∷ count_rows s f c.areas.points c.areas.kept))

-- and what came back: number, reply and areas
pub record Before : Type 0 where
  pub number : ℕ
  pub text : List ℕ
  pub areas : Areas

abbrev pub answer_before : Call → Before
answer_before c =
    cond (eqb (silent_before c) 0) (record { number = number_given (asked c); text = text_of c (asked c); areas = areas_after c (asked c) })
    (record { number = silent_before c; text = []; areas = c.areas })

abbrev pub but_sum : Outcome → Before
but_sum o = record { number = o.number; text = o.text; areas = o.areas }

-- "With the setting on, demand 2 reads as before": whole calls are those of before, which knew no setting, but that the sum is told
abbrev pub AsBefore : Conduct → Type 0
AsBefore board = (c : Call) → but_sum (board.answer (allowing true c)) ≡ answer_before c

-- '@@' where it is allowed "is then not checked" ("Frame"): the command with it is answered as the one with a true SC, but for what is told of the sum
abbrev pub OffAsTrue : Conduct → Type 0
OffAsTrue board =
    (a : Areas) (h : Sent) → h.settings.unchecked ≡ true → (said : List ℕ)
    → but_sum (board.answer (asking a h false said)) ≡ but_sum (board.answer (asking a h true said))

-- '@@' is sent
abbrev pub Off : Call → Type 0
Off c = sc_in c.sent.frame ≡ text "@@"

-- where it is forbidden, nothing is changed and nothing replied: the number is 12, or that of what refuses before the sum
abbrev pub Forbidden : Conduct → Type 0
Forbidden board =
    (c : Call) → Off c → board.answer (allowing false c) ≡ unanswered (told_of c) (first_of (early c ++ ((12 when true) ∷ []))) c.areas

-- and of any other frame the setting says nothing: all that holds of it with the setting on holds with it off
abbrev pub OthersSame : Conduct → Type 0
OthersSame board = (c : Call) → (Off c → ⊥) → board.answer (allowing false c) ≡ board.answer (allowing true c)

-- the numbers of what is tested before the sum, "an earlier one": 1 to 6, 10 and 13
abbrev pub early_numbers : List ℕ
early_numbers = 1 ∷ 2 ∷ 3 ∷ 10 ∷ 4 ∷ 5 ∷ 13 ∷ 6 ∷ []

-- "The answer to a frame says which it was, also where a later refusal follows, or that an earlier one left it untested."
pub record SumTold (c : Call) (o : Outcome) : Type 0 where
  pub untested : among o.number early_numbers ≡ true → o.sum ≡ None
  pub tested : among o.number early_numbers ≡ false → o.sum ≡ Some (sum_said c.sent.settings.release c.sent.frame)
  -- "the service log should say which frames used it"
  pub used_off : among o.number early_numbers ≡ false → (o.sum ≡ Some SwitchedOff) ↔ Off c
  -- 7 is a wrong SC's number, and 12 is of '@@' where it is forbidden
  pub seven : (o.number ≡ 7) ↔ (o.sum ≡ Some Wrong)
  pub twelve : (o.number ≡ 12) ↔ ((o.sum ≡ Some SwitchedOff) × (c.sent.settings.unchecked ≡ false))

pub record SwitchedOffRule (board : Conduct) : Type 0 where
  pub as_before : AsBefore board
  pub off_as_true_lem : OffAsTrue board
  pub forbidden : Forbidden board
  pub others_same : OthersSame board
  pub sum_told : (c : Call) → SumTold c (board.answer c)

-- so for the contract of `answer`, with the setting on: every number and every lent byte as before
pub record AnsweredBefore (c : Call) (r : GivenBack) (areas' : Areas) (reply' : List ℕ) : Type 0 where
  pub number_is : r.number ≡ (answer_before c).number
  pub length_is : r.length ≡ length (answer_before c).text
  pub kept_is : r.kept ≡ (answer_before c).areas.kept
  pub areas_are : areas' ≡ (answer_before c).areas
  pub reply_is : reply' ≡ laid c.sent.reply 0 (answer_before c).text

abbrev pub ContractAsBefore : Type 0
ContractAsBefore =
    (c : Call) (r : GivenBack) (areas' : Areas) (reply' : List ℕ) → Answers (allowing true c) r areas' reply' → AnsweredBefore c r areas' reply'
