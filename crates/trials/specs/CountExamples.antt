-- A count that is kept, worked through by computing (02, b): what is handed on, what 208H replies, refusal 11 in its place; and boards that break a
-- statement each.
use Rattle.std.specs.Prelude.{ℕ, ◌+◌, ◌-◌, ◌≡◌, Bool, cond, not, ◌&&◌, List, [], ◌∷◌, ◌++◌, eqb, leb, replicate, Option, Some, None}
use Prim.Native.String.{String}
use Rattle.digits.specs.Digits.{digits_of}
use Rattle.digits.specs.Text.{text}
use Rattle.frames.specs.Frame.{normal, reply_of}
use Rattle.frames.specs.declared.checks.Sum.TheVariants.{True}
use Rattle.kinds.specs.Kinds.{points_tag}
use Rattle.journal.specs.Journal.{last_entry, entry_for}
use Rattle.table.specs.declared.Message.{Message}
use Rattle.messages.specs.Asked.{Refused}
use Rattle.calls.specs.Calls.{Areas, Sent, Call, Outcome, put_in, unanswered}
use Rattle.link.specs.Answer.{held, answer_of}
use Rattle.link.specs.Check.{check_of, act_of}
use Rattle.back.specs.Back.{back_of}
use Rattle.demands.specs.History.{Conduct, ours, Event, frame, step_back, effective_of, entries, message_by, EveryHistory}
use Rattle.demands.specs.Reading.{count_of}
use Rattle.demands.specs.KeptCount.{id_named, KeptCount}
use Rattle.demands.specs.LookFirst.{Panel, our_panel, SameRefusals}
use Rattle.trials.specs.Cases.{holding, bench}
use Rattle.trials.specs.Broken.{smallest, small, lot_code, point_one, clear_one, two_points, send}
use Rattle.trials.specs.Useless.{handing_on, honest_but, saying}

-- the count after a history of the bench of two points
abbrev pub count_by : List Event → ℕ
count_by events = (small ours events).areas.kept.effective

-- areas with another count, and a frame to a bench of two empty slots that is handed one
abbrev pub counting : ℕ → Areas → Areas
counting n a = handing_on (record { used = a.kept.used; effective = n }) a

abbrev pub handed : ℕ → String → Call
handed n f = bench (counting n smallest) (text f)

abbrev pub Number : ℕ → String → ℕ → Type 0
Number n f number = (answer_of (handed n f)).number ≡ number

-- points 1 and 2 cleared
abbrev pub clear_both : Event
clear_both = frame (send "!99246001002@@\r\n")

-- the areas after point 1 was written, with one entry
abbrev pub one : Areas
one = (small ours (frame point_one ∷ [])).areas

pub record CountExamples : Type 0 where
  -- two points written, one of them again: an effective slot counts once
  pub written : (count_by (frame two_points ∷ []) ≡ 2) × (count_by (frame two_points ∷ frame point_one ∷ []) ≡ 2)
  -- cleared: of two points one, and of two slots that one which is effective
  pub cleared : (count_by (frame two_points ∷ frame clear_one ∷ []) ≡ 1) × (count_by (frame point_one ∷ clear_both ∷ []) ≡ 0)
  -- stepped back: a clear, and a write; a lot code leaves it
  pub stepped : (count_by (frame two_points ∷ frame clear_one ∷ step_back ∷ []) ≡ 2) × (count_by (frame two_points ∷ step_back ∷ []) ≡ 0)
      × (count_by (frame two_points ∷ frame lot_code ∷ step_back ∷ []) ≡ 2)
  -- 208H replies what it is handed, to N, over empty slots; above N it is refused, also with a content, which is 103 else
  pub replied : ((answer_of (handed 1 "!99208@@\r\n")).text ≡ text "#99208001C0\r\n") × ((answer_of (handed 2 "!99208@@\r\n")).text ≡ text "#99208002C1\r\n")
  pub above : Number 3 "!99208@@\r\n" 11 × Number 3 "!99208000@@\r\n" 11 × Number 2 "!99208000@@\r\n" 103
  -- 244H and 246H with a wrong count, whatever their content; no other message
  pub wrong : Number 1 "!992440010010100000000000000000001@@\r\n" 11 × Number 1 "!99246001001@@\r\n" 11 × Number 1 "!99244@@\r\n" 11
      × Number 1 "!99246003001@@\r\n" 11
  pub true_count : Number 0 "!99244@@\r\n" 103 × Number 0 "!99246003001@@\r\n" 106
  pub other : Number 3 "!9924E0012C0430303437@@\r\n" 0 × Number 3 "!9924B00025F1@@\r\n" 0 × Number 3 "!99209001001@@\r\n" 0 × Number 3 "!99299@@\r\n" 101
  -- a lot code hands back the count given, and so does what is refused
  pub given_back : ((answer_of (handed 3 "!9924E0012C0430303437@@\r\n")).areas.kept.effective ≡ 3)
      × ((answer_of (handed 1 "!99246001001@@\r\n")).areas.kept.effective ≡ 1)
  -- after the station and the sum, which is told
  pub in_order : Number 1 "!9A246001001@@\r\n" 8 × Number 1 "!99246001001FF\r\n" 7
      × (answer_of (handed 1 "!9924600100151\r\n") ≡ unanswered (Some True) 11 (counting 1 smallest))
  -- a check gives it too
  pub checked : check_of (handed 1 "!9924600100151\r\n") ≡ record { asked = Refused 11; sum = Some True }
  -- a step back of any kind, before 9 and after 4
  pub back : (back_of (counting 0 one) ≡ unanswered None 11 (counting 0 one)) × ((back_of (counting 2 (small ours (frame lot_code ∷ [])).areas)).number ≡ 11)
      × ((back_of (counting 1 smallest)).number ≡ 11) × ((back_of (handing_on (record { used = 1; effective = 1 }) smallest)).number ≡ 4)

-- a board that hands on another count, after a frame and after a step back
abbrev pub hands_on : ℕ → Outcome → Outcome
hands_on n o = record { number = o.number; text = o.text; areas = counting n o.areas; sum = o.sum }

abbrev pub id_sent : Call → ℕ
id_sent c = id_named (message_by c.sent)

abbrev pub when : ℕ → (Call → Outcome → Outcome) → Conduct
when id change = honest_but (λ c o. cond (eqb o.number 0 && eqb (id_sent c) id) (change c o) o)

-- how many numbers a frame names; an unknown message names none
abbrev pub named : Sent → Option Message → ℕ
named s None = 0
named s (Some m) = count_of m s

abbrev pub many : Call → ℕ
many c = named c.sent (message_by c.sent)

-- a write that adds its points, also where others stood; a clear that takes off the slots that it names, effective or not; a step back that hands back the
-- count given
abbrev pub counts_twice : Conduct
counts_twice = when 0x244 (λ c. hands_on (c.areas.kept.effective + many c))

abbrev pub takes_named : Conduct
takes_named = when 0x246 (λ c. hands_on (c.areas.kept.effective - many c))

abbrev pub back_given : Conduct
back_given = record { answer = answer_of; back = λ a. cond (eqb (back_of a).number 0) (hands_on a.kept.effective (back_of a)) (back_of a) }

-- a lot code after which the slots are counted; an unknown message that is accepted and forgets the count; a refusal that hands back 0, of a frame and of a
-- step back
abbrev pub code_counts : Conduct
code_counts = when 0x24E (λ c o. hands_on (effective_of o.areas) o)

abbrev pub unknown_forgets : Conduct
unknown_forgets = honest_but (λ c o. cond (eqb o.number 101) (record { number = 0; text = o.text; areas = counting 0 o.areas; sum = o.sum }) o)

abbrev pub refusal_forgets : Conduct
refusal_forgets = honest_but (λ c o. cond (eqb o.number 0) o (hands_on 0 o))

abbrev pub back_forgets : Conduct
back_forgets = record { answer = answer_of; back = λ a. cond (eqb (back_of a).number 0) (back_of a) (hands_on 0 (back_of a)) }

-- a 208H that walks
abbrev pub walks : Conduct
walks = when 0x208 (λ c. saying (reply_of normal c.sent.settings.station (text "208" ++ digits_of 3 (effective_of c.areas))))

-- 11 before 8; 11 at 24EH; 11 at 208H with N itself
abbrev pub refusing : (Call → Outcome → Bool) → Conduct
refusing holds = honest_but (λ c o. cond (holds c o) (unanswered o.sum 11 c.areas) o)

abbrev pub miscount : Call → Bool
miscount c = not (eqb c.areas.kept.effective (effective_of c.areas))

abbrev pub eleven_first : Conduct
eleven_first = refusing (λ c o. eqb o.number 8 && (eqb (id_sent c) 0x246 && miscount c))

abbrev pub eleven_at_code : Conduct
eleven_at_code = refusing (λ c o. eqb o.number 0 && (eqb (id_sent c) 0x24E && miscount c))

abbrev pub eleven_atN : Conduct
eleven_atN = refusing (λ c o. eqb o.number 0 && (eqb (id_sent c) 0x208 && leb (held c).points c.areas.kept.effective))

-- at 11, the answer that the true count would have had: of a 246H, and, of a 244H, where its content is refused; a 208H above N is replied
abbrev pub with_true : Call → Outcome
with_true c = answer_of (record { sent = c.sent; areas = counting (effective_of c.areas) c.areas })

abbrev pub at_eleven : ℕ → (Call → Outcome → Outcome) → Conduct
at_eleven id change = honest_but (λ c o. cond (eqb o.number 11 && eqb (id_sent c) id) (change c o) o)

abbrev pub clears_untested : Conduct
clears_untested = at_eleven 0x246 (λ c o. with_true c)

abbrev pub content_first : Conduct
content_first = at_eleven 0x244 (λ c o. cond (eqb (with_true c).number 0) o (record { number = (with_true c).number; text = (with_true c).text; areas = c.areas; sum = o.sum }))

abbrev pub replies_above : Conduct
replies_above =
    at_eleven 0x208 (λ c o.
    record {
      number = 0;
      text = reply_of normal c.sent.settings.station (text "208" ++ digits_of 3 c.areas.kept.effective);
      areas = c.areas;
      sum = o.sum;
    })

-- 11 with an error reply, and with the points cleared, of a frame and of a step back
abbrev pub cleared : Areas → Areas
cleared a = put_in (holding 2) (entry_for points_tag 1 (replicate 80 0)) a

abbrev pub replies_eleven : Conduct
replies_eleven = at_eleven 0x246 (λ c o. saying (text "&990110C\r\n") o)

abbrev pub wipes_at_eleven : Conduct
wipes_at_eleven = at_eleven 0x246 (λ c o. record { number = o.number; text = o.text; areas = cleared o.areas; sum = o.sum })

abbrev pub back_wipes : Conduct
back_wipes =
    record { answer = answer_of; back = λ a. cond (eqb (back_of a).number 11) (unanswered None 11 (cleared a)) (back_of a) }

-- a step back with 9 before 11, and one that looks at the count for entries of points alone
abbrev pub back_at_eleven : (Areas → Bool) → (Areas → Outcome) → Conduct
back_at_eleven holds change = record { answer = answer_of; back = λ a. cond (eqb (back_of a).number 11 && holds a) (change a) (back_of a) }

abbrev pub nine_first : Conduct
nine_first = back_at_eleven (λ a. eqb a.kept.used 0) (unanswered None 9)

abbrev pub points_alone : Conduct
points_alone =
    back_at_eleven (λ a. not (eqb a.kept.used 0) && not (eqb (last_entry (entries a)).tag points_tag)) (λ a. back_of (counting (effective_of a) a))

-- a check that doesn't look at the count
abbrev pub checks_no_count : Panel
checks_no_count =
    record {
      check = λ c.
          cond (eqb (our_panel.check c).shown.number 11)
          (our_panel.check (record { sent = c.sent; areas = counting (effective_of c.areas) c.areas })) (our_panel.check c);
      act = act_of;
      answer = answer_of;
    }

pub record CountBroken : Type 0 where
  pub counts_twice_lem : (KeptCount counts_twice → ⊥) × (EveryHistory counts_twice → ⊥)
  pub takes_named_lem : (KeptCount takes_named → ⊥) × (EveryHistory takes_named → ⊥)
  pub back_given_lem : (KeptCount back_given → ⊥) × (EveryHistory back_given → ⊥)
  pub code_counts_lem : KeptCount code_counts → ⊥
  pub unknown_forgets_lem : KeptCount unknown_forgets → ⊥
  pub refusal_forgets_lem : KeptCount refusal_forgets → ⊥
  pub back_forgets_lem : KeptCount back_forgets → ⊥
  pub walks_slots : KeptCount walks → ⊥
  pub eleven_first_lem : KeptCount eleven_first → ⊥
  pub eleven_at_code_lem : KeptCount eleven_at_code → ⊥
  pub eleven_at_n : KeptCount eleven_atN → ⊥
  pub clears_untested_lem : KeptCount clears_untested → ⊥
  pub content_first_lem : KeptCount content_first → ⊥
  pub replies_above_lem : KeptCount replies_above → ⊥
  pub replies_eleven_lem : KeptCount replies_eleven → ⊥
  pub wipes_at_eleven_lem : KeptCount wipes_at_eleven → ⊥
  pub back_wipes_lem : KeptCount back_wipes → ⊥
  pub nine_first_lem : KeptCount nine_first → ⊥
  pub points_alone_lem : KeptCount points_alone → ⊥
  pub checks_no_count_lem : SameRefusals checks_no_count → ⊥
