-- The sum's three answers worked through by computing (02, f): what is told where the frame is accepted, where an earlier and where a later test
-- refuses it, what meets the premises of demand 2's statements, and boards that break these.
use Rattle.std.specs.Prelude.{ℕ, ◌≡◌, Bool, true, false, cond, not, ◌&&◌, List, [], ◌∷◌, eqb, get_or, replicate, Option, None, Some}
use Prim.Native.String.{String}
use Rattle.digits.specs.Text.{text}
use Rattle.frames.specs.declared.checks.Sum.TheVariants.{True, SwitchedOff, Wrong}
use Rattle.frames.specs.Frame.{sc_in, sum_off, sum_said, station_passes}
use Rattle.axes.specs.Records.{no_axes}
use Rattle.messages.specs.Asked.{number_given}
use Rattle.frames.specs.declared.checks.Sum.{Sum}
use Rattle.calls.specs.Calls.{Sent, Call, Outcome, call_of, fresh, unanswered}
use Rattle.link.specs.Answer.{asked, text_of, areas_after, answer_of}
use Rattle.back.specs.Back.{back_of}
use Rattle.demands.specs.Refused.{SameError, asks_write}
use Rattle.demands.specs.History.{Conduct, ours, frame, step_back}
use Rattle.demands.specs.Releases.{under}
use Rattle.demands.specs.SwitchedOff.{allowing, Off, AsBefore, OffAsTrue, Forbidden, OthersSame, SumTold}
use Rattle.trials.specs.Cases.{holding, sending_to, bench}
use Rattle.trials.specs.Broken.{smallest, small}
use Rattle.trials.specs.Useless.{honest_but}

-- a frame to a bench of two points with '@@' allowed or forbidden, its number and what it tells
abbrev pub sends : Bool → String → Call
sends unchecked f = allowing unchecked (bench smallest (text f))

abbrev pub Answer : Bool → String → ℕ → Option Sum → Type 0
Answer unchecked f number told = ((answer_of (sends unchecked f)).number ≡ number) × ((answer_of (sends unchecked f)).sum ≡ told)

-- the same with either
abbrev pub Both : String → ℕ → Option Sum → Type 0
Both f number told = (unchecked : Bool) → Answer unchecked f number told

-- '@@' forbidden, and a reply area, areas, axis records or a release that are refused
abbrev pub refused_early : Call → ℕ → Type 0
refused_early c number = ((answer_of (allowing false c)).number ≡ number) × ((answer_of (allowing false c)).sum ≡ None)

abbrev pub axes_less : List ℕ → Call
axes_less reply = call_of (text "!99208@@\r\n") no_axes (sends true "").sent.settings reply smallest

-- the lot code 0 for column 300, with '@@'
abbrev pub writing : Bool → Sent
writing unchecked = (sends unchecked "!9924E0012C0130@@\r\n").sent

pub record SumExamples : Type 0 where
  -- a true SC, '@@' and a wrong SC
  pub is_true : Both "!992082D\r\n" 0 (Some True)
  pub is_off_lem : Answer true "!99208@@\r\n" 0 (Some SwitchedOff) × Answer false "!99208@@\r\n" 12 (Some SwitchedOff)
  pub is_wrong_lem : Both "!992082E\r\n" 7 (Some Wrong)
  -- '@' once, before or behind a digit of the SC
  pub once : Both "!99208@D\r\n" 7 (Some Wrong) × Both "!992082@\r\n" 7 (Some Wrong)
  -- 12 and 7 are tested before 8, and 6 before them; it is told where 8 refuses, and not where 6 does
  pub before_eight : Answer false "!9A208@@\r\n" 12 (Some SwitchedOff) × Answer true "!9A208@@\r\n" 8 (Some SwitchedOff)
  pub seven_before_eight : Both "!9A2082D\r\n" 7 (Some Wrong)
  pub eight : Both "!9A20835\r\n" 8 (Some True)
  pub after_six : Both "!99208@@\r" 6 None × Both "!992082E" 6 None × Both "!99200123456789@@\r\n" 6 None
  -- nor where 13, 5, 4, 2 and 1 refuse
  pub untested :
      refused_early (record { sent = sending_to 0x99 3 (text "!99208@@\r\n"); areas = smallest }) 13 × refused_early (axes_less (replicate 1024 0)) 5
      × refused_early (bench (fresh (holding 2) 579) (text "!99208@@\r\n")) 4 × refused_early (bench (fresh (holding 0) 580) (text "!99208@@\r\n")) 2
      × refused_early (axes_less []) 1
  -- an SC in small letters is true under release 2, and wrong under release 1
  pub small_letters :
      ((answer_of (under 2 (sends false "!992082d\r\n"))).sum ≡ Some True) × ((answer_of (under 1 (sends false "!992082d\r\n"))).sum ≡ Some Wrong)
  -- told where the message is refused: 101, 102, 103, 106 and 108
  pub later :
      Answer true "!99299@@\r\n" 101 (Some SwitchedOff) × Both "!9929937\r\n" 101 (Some True) × Answer true "!99208G@@\r\n" 102 (Some SwitchedOff)
      × Answer true "!992081@@\r\n" 103 (Some SwitchedOff) × Answer true "!9920D0002580400@@\r\n" 106 (Some SwitchedOff)
      × Answer true "!9924B0002582@@\r\n" 108 (Some SwitchedOff)
  -- a write with '@@' where it is forbidden leaves all as it was; with a true SC it is done: column 300 is '0'
  pub not_written : answer_of (sends false "!9924E0012C0130@@\r\n") ≡ unanswered (Some SwitchedOff) 12 smallest
  pub written : get_or (answer_of (sends false "!9924E0012C013008\r\n")).areas.columns 0 0 ≡ 0x30
  -- a history in which the setting changes: a write with '@@', the same where it is forbidden, and a step back, after which nothing stands
  pub history :
      (small ours (frame (writing true) ∷ frame (writing false) ∷ [])).standing_writes ≡ writing true ∷ []
  pub stepped_back_lem : (small ours (frame (writing true) ∷ frame (writing false) ∷ step_back ∷ [])).areas ≡ smallest
  -- the premises: '@@', and another SC; an error reply whatever the setting
  pub is_sent : Off (sends false "!99208@@\r\n")
  pub not_off : Off (sends false "!992082D\r\n") → ⊥
  pub same_error : SameError (sends true "!9929937\r\n") (sends false "!9929937\r\n")

-- another number, or another sum told
abbrev pub numbering : ℕ → Outcome → Outcome
numbering number o = record { number = number; text = o.text; areas = o.areas; sum = o.sum }

abbrev pub telling : Option Sum → Outcome → Outcome
telling told o = record { number = o.number; text = o.text; areas = o.areas; sum = told }

-- 12 for a wrong SC; '@@' taken though it is forbidden, and refused though it is allowed
abbrev pub twelve_for_wrong : Conduct
twelve_for_wrong = honest_but (λ c o. cond (eqb o.number 7) (numbering 12 o) o)

abbrev pub allows_always : Conduct
allows_always = record { answer = λ c. answer_of (allowing true c); back = back_of }

abbrev pub forbids_always : Conduct
forbids_always = record { answer = λ c. answer_of (allowing false c); back = back_of }

-- 12 tested after 8
abbrev pub twelve_last : Conduct
twelve_last =
    honest_but (λ c o.
    cond (eqb o.number 12 && not (station_passes c.sent.settings.release c.sent.settings.station c.sent.frame)) (numbering 8 o) o)

-- 12 tested first of all
abbrev pub twelve_first : Conduct
twelve_first = honest_but (λ c o. cond (sum_off c.sent.frame && not c.sent.settings.unchecked) (numbering 12 o) o)

-- '@' once, before a digit, taken as switched off
abbrev pub once_is_off : Conduct
once_is_off =
    honest_but (λ c o.
    cond (eqb o.number 7 && eqb (get_or (sc_in c.sent.frame) 0 0) 0x40)
    (cond c.sent.settings.unchecked
    (record { number = number_given (asked c); text = text_of c (asked c); areas = areas_after c (asked c); sum = Some SwitchedOff })
    (numbering 12 (telling (Some SwitchedOff) o)))
    o)

-- '@@' taken for queries alone
abbrev pub off_writes_nothing : Conduct
off_writes_nothing = honest_but (λ c o. cond (sum_off c.sent.frame && asks_write (asked c)) (unanswered o.sum 7 c.areas) o)

-- '@@' told as true, a wrong SC as untested, the sum told where 6 refused, and told only where the frame is accepted
abbrev pub off_as_true : Conduct
off_as_true = honest_but (λ c o. cond (sum_off c.sent.frame) (telling (Some True) o) o)

abbrev pub wrong_untested : Conduct
wrong_untested = honest_but (λ c o. cond (eqb o.number 7) (telling None o) o)

abbrev pub told_at_six : Conduct
told_at_six = honest_but (λ c o. cond (eqb o.number 6) (telling (Some (sum_said c.sent.settings.release c.sent.frame)) o) o)

abbrev pub told_if_accepted : Conduct
told_if_accepted = honest_but (λ c o. cond (eqb o.number 0) o (telling None o))

-- and one that does what a frame with '@@' asks, and then gives 12
abbrev pub writes_first : Conduct
writes_first =
    honest_but (λ c o. cond (eqb o.number 12) (record { number = 12; text = []; areas = (answer_of (allowing true c)).areas; sum = o.sum }) o)

-- one whose setting forbids more than '@@': frames with a true SC are refused too
abbrev pub forbids_all : Conduct
forbids_all = honest_but (λ c o. cond c.sent.settings.unchecked o (unanswered o.sum 12 c.areas))

-- the sum is told rightly of every call
abbrev pub TellsSum : Conduct → Type 0
TellsSum board = (c : Call) → SumTold c (board.answer c)

pub record SumBroken : Type 0 where
  pub twelve_for_wrong_lem : TellsSum twelve_for_wrong → ⊥
  pub allows_always_lem : Forbidden allows_always → ⊥
  pub forbids_always_lem : AsBefore forbids_always → ⊥
  pub twelve_last_lem : Forbidden twelve_last → ⊥
  pub twelve_first_lem : Forbidden twelve_first → ⊥
  pub once_is_off_lem : (AsBefore once_is_off → ⊥) × (TellsSum once_is_off → ⊥)
  pub off_writes_nothing_lem : OffAsTrue off_writes_nothing → ⊥
  pub off_as_true_lem : TellsSum off_as_true → ⊥
  pub wrong_untested_lem : TellsSum wrong_untested → ⊥
  pub told_at_six_lem : TellsSum told_at_six → ⊥
  pub told_if_accepted_lem : TellsSum told_if_accepted → ⊥
  pub writes_first_lem : Forbidden writes_first → ⊥
  pub forbids_all_lem : OthersSame forbids_all → ⊥
