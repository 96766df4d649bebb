-- The contract of each public call: one record of equations that determines every number, what is told of the sum, and every lent byte; a check, which
-- leaves no byte, has one equation, with `check_of`.
use Rattle.std.specs.Prelude.{ℕ, ◌≡◌, List, length, Option}
use Rattle.digits.specs.Laid.{laid}
use Rattle.frames.specs.declared.checks.Sum.{Sum}
use Rattle.calls.specs.Calls.{Areas, Call, Outcome}
use Rattle.link.specs.declared.Answered.{Answered}
use Rattle.calls.specs.declared.Kept.{Kept}
use Rattle.messages.specs.Refusal.{number_by}
use Rattle.messages.specs.Asked as asks
use Rattle.refusals.specs.Refusals.{silent_of, told_of}
use Rattle.orders.specs.declared.Order.{Order}
use Rattle.orders.specs.declared.Done.{Done}
use Rattle.link.specs.Answer.{held, asked, answer_of}
use Rattle.link.specs.Check.{act_of}

-- a call whose frame is heard, no refusal holding, and orders this
pub record Heard (c : Call) (o : Order) : Type 0 where
  pub silent_0 : silent_of c ≡ 0
  pub held_is : o.held ≡ held c
  pub order : asked c ≡ asks.Order o.message o.start o.count

-- what a call gives back: its number, the reply's length, what is handed on, what is told of the sum
pub record GivenBack : Type 0 where
  pub number : ℕ
  pub length : ℕ
  pub kept : Kept
  pub sum : Option Sum

-- so the answer to a frame does
abbrev pub given_by : Answered → GivenBack
given_by r = record { number = number_by r.outcome; length = r.length; kept = r.kept; sum = r.sum }

-- an order that was carried out: "An accepted call has number 0."
abbrev pub accepted : Done → Option Sum → GivenBack
accepted done told = record { number = 0; length = done.length; kept = done.kept; sum = told }

-- what a call gives and leaves is its outcome; the reply is laid over the front of the reply area, and what is beyond it stays
pub record Gives (outcomeOf : Call → Outcome) (c : Call) (r : GivenBack) (areas' : Areas) (reply' : List ℕ) : Type 0 where
  pub number_is : r.number ≡ (outcomeOf c).number
  pub length_is : r.length ≡ length (outcomeOf c).text
  pub kept_is : r.kept ≡ (outcomeOf c).areas.kept
  pub sum_is : r.sum ≡ (outcomeOf c).sum
  pub areas_are : areas' ≡ (outcomeOf c).areas
  pub reply_is : reply' ≡ laid c.sent.reply 0 (outcomeOf c).text

-- so an answer, and an act (02, g)
abbrev pub Answers : Call → GivenBack → Areas → List ℕ → Type 0
Answers = Gives answer_of

abbrev pub Acts : Call → GivenBack → Areas → List ℕ → Type 0
Acts = Gives act_of

-- an order of a call that was carried out, with what is told of the sum beside it, is its answer
abbrev pub Performs : Call → Done → Areas → List ℕ → Type 0
Performs c done areas' reply' = Answers c (accepted done (told_of c)) areas' reply'
