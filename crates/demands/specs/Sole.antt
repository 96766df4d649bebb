-- Document 01, "What the promises say": "Show that two results which satisfy it are equal." Each public call's contract, in turn.
use Rattle.std.specs.Prelude.{ℕ, ◌≡◌, List, Result, ⊤}
use Rattle.finder.specs.declared.Found.{Found}
use Rattle.finder.specs.Find.{find_in, part_of}
use Rattle.messages.specs.declared.refusal.Refusal.{Refusal}
use Rattle.messages.specs.Refusal.{refusal_number, number_by}
use Rattle.messages.specs.declared.Request.{Request}
use Rattle.messages.specs.Asked.{Asked}
use Rattle.messages.specs.declared.Shown.{Shown}
use Rattle.messages.specs.Shown.{shown_of, Shows}
use Rattle.calls.specs.Calls.{Areas, Call, Outcome}
use Rattle.link.specs.declared.Checked.{Checked}
use Rattle.back.specs.Back.{Back}
use Rattle.link.specs.Check.{checked_by, check_of}
use Rattle.link.specs.declared.Answered.{Answered}
use Rattle.link.specs.Contract.{GivenBack, given_by, Gives}
use Rattle.back.specs.Back.{StepsBack}
use Rattle.board.specs.Calls.{Receives, CabinetGives, CabinetChecks, backed_of}

-- `answer`, `answer_lent` and `act`, whatever outcome a contract cites: every number, what is told of the sum, and every lent byte
abbrev pub OneAnswer : Type 0
OneAnswer =
    (outcomeOf : Call → Outcome) (c : Call) (r r' : GivenBack) (a a' : Areas) (reply reply' : List ℕ)
    → Gives outcomeOf c r a reply → Gives outcomeOf c r' a' reply' → (r ≡ r') × (a ≡ a') × (reply ≡ reply')

-- and an answer is told by what it gives back, a step back's by its number: their refusals have a number each
abbrev pub OneAnswered : Type 0
OneAnswered = (r r' : Answered) → given_by r ≡ given_by r' → r ≡ r'

abbrev pub OneStepped : Type 0
OneStepped = (r r' : Result ⊤ Refusal) → number_by r ≡ number_by r' → r ≡ r'

-- `check`, and what `show` makes of what it answers, or of a number that stands for the refusal
pub record OneCheck (c : Call) : Type 0 where
  pub checked : (r r' : Checked) → checked_by r ≡ check_of c → checked_by r' ≡ check_of c → r ≡ r'
  pub shown : (asked : Asked) (r r' : Shown) → r ≡ shown_of asked → r' ≡ shown_of asked → r ≡ r'
  pub shown_refusal :
      (asked : Result Request Refusal) (r r' : Shown)
      → Shows (λ refusal number. number ≡ refusal_number refusal) asked r → Shows (λ refusal number. number ≡ refusal_number refusal) asked r' → r ≡ r'
  pub shown_number :
      (asked : Result Request ℕ) (r r' : Shown) → Shows (λ given number. number ≡ given) asked r → Shows (λ given number. number ≡ given) asked r' → r ≡ r'

-- `step_back`
abbrev pub OneStepBack : Type 0
OneStepBack =
    (before : Areas) (r r' : Back) (a a' : Areas) → StepsBack before r a → StepsBack before r' a' → (r ≡ r') × (a ≡ a')

-- the finder, `find` and `frame_in`: what is found, and the part of the received bytes where that was found
pub record OneFound (received : List ℕ) : Type 0 where
  pub found : (r r' : Found) → r ≡ find_in received → r' ≡ find_in received → r ≡ r'
  pub part : (f : Found) (r r' : List ℕ) → r ≡ part_of f received → r' ≡ part_of f received → r ≡ r'

-- `cabinet_receive`: its code, and the numbers behind its three pointers
abbrev pub OneReceive : Type 0
OneReceive =
    (f : Found) (code code' start start' length length' drop drop' : ℕ) → Receives f code start length drop → Receives f code' start' length' drop'
    → (code ≡ code') × (start ≡ start') × (length ≡ length') × (drop ≡ drop')

-- `cabinet_answer` and `cabinet_act`: the number, `*reply_length`, `*used`, `*effective`, `*sum`, and every lent byte
abbrev pub OneCabinetAnswer : Type 0
OneCabinetAnswer =
    (outcomeOf : Call → Outcome) (c : Call) (n n' l l' u u' v v' s s' : ℕ) (a a' : Areas) (reply reply' : List ℕ)
    → CabinetGives outcomeOf c n l u v s a reply → CabinetGives outcomeOf c n' l' u' v' s' a' reply'
    → (n ≡ n') × (l ≡ l') × (u ≡ u') × (v ≡ v') × (s ≡ s') × (a ≡ a') × (reply ≡ reply')

-- `cabinet_check`: its number, `*sum`, `*message`, `*start` and `*count`
abbrev pub OneCabinetCheck : Type 0
OneCabinetCheck =
    (c : Call) (n n' s s' m m' start start' count count' : ℕ) → CabinetChecks c n s m start count → CabinetChecks c n' s' m' start' count'
    → (n ≡ n') × (s ≡ s') × (m ≡ m') × (start ≡ start') × (count ≡ count')

-- `cabinet_step_back`: its number, `*used`, `*effective`, and every lent byte
abbrev pub OneCabinetBack : Type 0
OneCabinetBack =
    (before : Areas) (n n' u u' v v' : ℕ) (a a' : Areas)
    → StepsBack before (backed_of n u v) a → StepsBack before (backed_of n' u' v') a' → (n ≡ n') × (u ≡ u') × (v ≡ v') × (a ≡ a')
