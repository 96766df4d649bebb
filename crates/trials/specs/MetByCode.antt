-- The public contracts can be met by what the code gives: for every call there is a value of the code's own type, with a refusal of its table or none, that
-- says just what the definitions say. (Useless.antt, Examples.antt and LookExamples.antt show it of the definitions' records, which have any number.)
use Rattle.std.specs.Prelude.{◌≡◌, Result, ⊤}
use Rattle.messages.specs.declared.refusal.Refusal.{Refusal}
use Rattle.messages.specs.Refusal.{number_by}
use Rattle.calls.specs.Calls.{Areas, Call, Outcome}
use Rattle.link.specs.declared.Answered.{Answered}
use Rattle.link.specs.declared.Checked.{Checked}
use Rattle.link.specs.Answer.{answer_of}
use Rattle.link.specs.Check.{check_of, checked_by, act_of}
use Rattle.link.specs.Contract.{given_by, Gives}
use Rattle.back.specs.Back.{back_of, backed, StepsBack}
use Rattle.trials.specs.Useless.{given}

-- an answer of the code's type gives back what an outcome says, so with the areas and the reply that the outcome leaves it meets a contract that cites it
pub record Gave (outcomeOf : Call → Outcome) (c : Call) : Type 0 where
  pub answered : Answered
  pub given_back : given_by answered ≡ (given outcomeOf c).answered
  pub gives : Gives outcomeOf c (given_by answered) (given outcomeOf c).areas (given outcomeOf c).reply

-- what a check answers, of the code's type, says what the frame asks and what is told of the sum
pub record Checks (c : Call) : Type 0 where
  pub checked : Checked
  pub says : checked_by checked ≡ check_of c

-- a step back's answer, of the code's type: done, or a refusal; with the areas and the kept numbers that it leaves it meets the contract
pub record Stepped (a : Areas) : Type 0 where
  pub outcome : Result ⊤ Refusal
  pub steps_back : StepsBack a (backed (number_by outcome) (back_of a).areas.kept) (back_of a).areas

pub record MetByCode : Type 0 where
  -- the contract of `answer` and of `answer_lent`, `Answers`, for every call
  pub answers_met : (c : Call) → Gave answer_of c
  -- that of `act`, `Acts`
  pub acts_met : (c : Call) → Gave act_of c
  -- that of `check`
  pub checks_met : (c : Call) → Checks c
  -- that of `step_back`, for all areas
  pub steps_back_met : (a : Areas) → Stepped a
