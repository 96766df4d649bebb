-- The C calls (include/cabinet.h): what stands behind each number that is handed over or back.
use Rattle.std.specs.Prelude.{ℕ, ◌-◌, ◌≡◌, not, List, eqb, Option}
use Rattle.finder.specs.declared.Found.{Found}
use Rattle.finder.specs.declared.Found.TheVariants.{Frame, Nothing, Wait, TooLong}
use Rattle.finder.specs.Find.{drop_of}
use Rattle.kinds.specs.declared.Firsts.{Firsts}
use Rattle.calls.specs.declared.Settings.{Settings}
use Rattle.calls.specs.declared.Kept.{Kept}
use Rattle.frames.specs.declared.checks.Sum.{Sum}
use Rattle.calls.specs.Calls.{Areas, Call, Outcome, sum_code}
use Rattle.messages.specs.declared.Shown.{Shown}
use Rattle.messages.specs.Shown.{shown_of}
use Rattle.back.specs.Back.{Back}
use Rattle.link.specs.Answer.{answer_of}
use Rattle.link.specs.Check.{check_of, act_of}
use Rattle.link.specs.Contract.{GivenBack, Gives}

-- document 01, "Finding a frame in the received bytes": 0 a frame, 1 nothing, 2 wait, 3 too long
abbrev pub code_of : Found → ℕ
code_of (Frame start used) = 0
code_of (Nothing drop) = 1
code_of (Wait drop) = 2
code_of (TooLong drop) = 3

-- where the frame starts and how many bytes it has; "With no frame the part is empty."
abbrev pub start_of : Found → ℕ
start_of (Frame start used) = start
start_of (Nothing drop) = 0
start_of (Wait drop) = 0
start_of (TooLong drop) = 0

abbrev pub length_of : Found → ℕ
length_of (Frame start used) = used - start
length_of (Nothing drop) = 0
length_of (Wait drop) = 0
length_of (TooLong drop) = 0

-- what `cabinet_receive` gives of what is found
pub record Receives (f : Found) (code start length drop : ℕ) : Type 0 where
  pub code_is : code ≡ code_of f
  pub start_is : start ≡ start_of f
  pub length_is : length ≡ length_of f
  pub drop_is : drop ≡ drop_of f

-- the settings, and what a call gives back; '@@' is forbidden where `unchecked` is 0, and any other value allows it (02, f)
abbrev pub settings_of : ℕ → ℕ → ℕ → ℕ → Settings
settings_of fitted station release unchecked = record { station = station; release = release; unchecked = not (eqb unchecked 0); fitted = fitted }

-- the used length, and the count of effective points (02, b)
abbrev pub kept_of : ℕ → ℕ → Kept
kept_of used effective = record { used = used; effective = effective }

-- the first numbers (02, a)
abbrev pub firsts_of : ℕ → ℕ → Firsts
firsts_of integer flag = record { integer = integer; flag = flag }

abbrev pub answered_of : ℕ → ℕ → Kept → Option Sum → GivenBack
answered_of number length kept told = record { number = number; length = length; kept = kept; sum = told }

-- what `cabinet_answer` and `cabinet_act` give of a call: its outcome, with the code of what it tells
pub record CabinetGives (outcomeOf : Call → Outcome) (c : Call) (number length used effective sum : ℕ) (areas' : Areas) (reply' : List ℕ) : Type 0 where
  pub gives : Gives outcomeOf c (answered_of number length (kept_of used effective) (outcomeOf c).sum) areas' reply'
  pub sum_is : sum ≡ sum_code (outcomeOf c).sum

abbrev pub CabinetAnswers : Call → ℕ → ℕ → ℕ → ℕ → ℕ → Areas → List ℕ → Type 0
CabinetAnswers = CabinetGives answer_of

abbrev pub CabinetActs : Call → ℕ → ℕ → ℕ → ℕ → ℕ → Areas → List ℕ → Type 0
CabinetActs = CabinetGives act_of

-- what `cabinet_check` gives of a call: what is shown of what the check answers, and the code of what it tells (02, g)
abbrev pub shown : Call → Shown
shown c = shown_of (check_of c).asked

pub record CabinetChecks (c : Call) (number sum message start count : ℕ) : Type 0 where
  pub number_is : number ≡ (shown c).number
  pub sum_is : sum ≡ sum_code (check_of c).sum
  pub message_is : message ≡ (shown c).message
  pub start_is : start ≡ (shown c).start
  pub count_is : count ≡ (shown c).count

abbrev pub backed_of : ℕ → ℕ → ℕ → Back
backed_of number used effective = record { number = number; kept = kept_of used effective }
