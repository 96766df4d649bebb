-- Document 02, request g, "Look before storing": "One call checks, answers what would be done or the refusal, and changes nothing; a second checks again
-- by the same rules and does it."
use Rattle.std.specs.Prelude.{ℕ, cond, List, [], eqb, ltb, length, None, Option}
use Rattle.frames.specs.Frame.{error_of}
use Rattle.messages.specs.Asked.{Asked, Refused, Order, number_given, asked_by}
use Rattle.frames.specs.declared.checks.Sum.{Sum}
use Rattle.calls.specs.Calls.{Call, Outcome, unanswered}
use Rattle.refusals.specs.Refusals.{too_short, check_silent_of, check_told_of}
use Rattle.link.specs.declared.Checked.{Checked}
use Rattle.link.specs.Answer.{asked, text_of, areas_after}

-- what a check says: what the frame asks, and what it tells of the sum
pub record Looked : Type 0 where
  pub asked : Asked
  pub sum : Option Sum

-- so what its answer says
abbrev pub checked_by : Checked → Looked
checked_by r = record { asked = asked_by r.asked; sum = r.sum }

-- what a check answers: the refusal, or where none without a reply holds what the frame asks; and what the sum test said
unfoldable pub check_of : Call → Looked
check_of c = record { asked = cond (eqb (check_silent_of c) 0) (asked c) (Refused (check_silent_of c)); sum = check_told_of c }

-- a refusal's reply, as the table's column "Reply" has it ("Refusal numbers"): none below 101, then the error reply
abbrev pub refused_text : ℕ → ℕ → List ℕ
refused_text station number = cond (ltb number 101) [] (error_of station number)

-- the reply to what a check answered
abbrev pub act_text : Call → Asked → List ℕ
act_text c (Refused number) = refused_text c.sent.settings.station number
act_text c (Order m start count) = text_of c (Order m start count)

-- an act: 1 where the reply area is too short, else what the check answers is done
unfoldable pub act_of : Call → Outcome
act_of c =
    let k = check_of c in
    cond (too_short (length c.sent.reply)) (unanswered None 1 c.areas)
    (record { number = number_given k.asked; text = act_text c k.asked; areas = areas_after c k.asked; sum = k.sum })
