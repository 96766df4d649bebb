-- Looking before storing worked through by computing (02, g): what a check shows of each message and of refused frames, what acting then does, and boards
-- that break a statement each.
use Rattle.std.specs.Prelude.{ℕ, zero, suc, ◌≡◌, Bool, false, cond, ◌&&◌, List, [], ◌∷◌, ◌++◌, eqb, length, replicate, Option, Some, None}
use Prim.Native.String.{String}
use Rattle.digits.specs.Text.{text}
use Rattle.digits.specs.Laid.{laid}
use Rattle.frames.specs.declared.checks.Sum.TheVariants.{True, SwitchedOff, Wrong}
use Rattle.frames.specs.Frame.{content_in}
use Rattle.kinds.specs.Kinds.{columns_tag}
use Rattle.journal.specs.Journal.{entry_for}
use Rattle.table.specs.declared.Message.{Message}
use Rattle.messages.specs.Asked.{not_held, number_given}
use Rattle.frames.specs.declared.checks.Sum.{Sum}
use Rattle.calls.specs.Calls.{Call, Outcome, fresh, put_in, with_entries, entries_of, sum_code, unanswered}
use Rattle.refusals.specs.Refusals.{too_short}
use Rattle.link.specs.Answer.{held, asked, text_of, areas_after, answer_of}
use Rattle.link.specs.Check.{check_of, act_of}
use Rattle.link.specs.Contract.{Acts}
use Rattle.board.specs.Calls.{shown, CabinetChecks}
use Rattle.demands.specs.Refused.{asks_write}
use Rattle.demands.specs.History.{message_by}
use Rattle.demands.specs.LookFirst.{Look, Panel, our_panel, replying_in, AsOne, SameRefusals, AnyReplyArea, DoesWhatIsShown}
use Rattle.trials.specs.Cases.{holding, bench}
use Rattle.trials.specs.Broken.{smallest}
use Rattle.trials.specs.Useless.{saying, storing}

-- a frame to a bench of two points, and the same with a reply area of so many bytes
abbrev pub looked : String → Call
looked f = bench smallest (text f)

abbrev pub replying : ℕ → String → Call
replying size f = replying_in (replicate size 0) (looked f)

-- what a check says of it
abbrev pub looks : ℕ → ℕ → ℕ → ℕ → Option Sum → Look
looks number message start count told = record { shown = record { number = number; message = message; start = start; count = count }; sum = told }

abbrev pub Says : String → Look → Type 0
Says f look = our_panel.check (looked f) ≡ look

-- it would be done: this message, with this run
abbrev pub Shows : String → ℕ → ℕ → ℕ → Type 0
Shows f message start count = Says f (looks 0 message start count (Some SwitchedOff))

-- it is refused, by the check and by the act
abbrev pub Refuses : String → ℕ → Option Sum → Type 0
Refuses f number told = Says f (looks number 0 0 0 told) × ((act_of (looked f)).number ≡ number)

-- "write 45 points from 001", to a board of 46: each on axis 1, at 0.001 mm
abbrev pub times : ℕ → List ℕ → List ℕ
times zero s = []
times (suc n) s = s ++ times n s

abbrev pub forty_five : Call
forty_five = bench (fresh (holding 46) 2340) (text "!9924400102D" ++ (times 45 (text "0100000000000000000001") ++ text "@@\r\n"))

abbrev pub one_slot : List ℕ
one_slot = 1 ∷ (replicate 10 0 ++ (1 ∷ replicate 28 0))

pub record LookExamples : Type 0 where
  -- each message, with its run where it names one; of 24BH its flag and 1
  pub no_run : Shows "!992000123456789@@\r\n" 0x200 0 0 × Shows "!99208@@\r\n" 0x208 0 0 × Shows "!9921203@@\r\n" 0x212 0 0
  pub query_runs :
      Shows "!99209002001@@\r\n" 0x209 2 1 × Shows "!9920D0002590008@@\r\n" 0x20D 601 8 × Shows "!9920E000C963@@\r\n" 0x20E 201 99
      × Shows "!992100012CFF@@\r\n" 0x210 300 255
  pub write_runs :
      Shows "!992440020010100000000000000000001@@\r\n" 0x244 2 1 × Shows "!99246001002@@\r\n" 0x246 1 2 × Shows "!9924B00025F1@@\r\n" 0x24B 607 1
      × Shows "!9924C000C8020000000100000002@@\r\n" 0x24C 200 2 × Shows "!9924E0012C0430303437@@\r\n" 0x24E 300 4
  -- "write 45 points from 001", and that is done: 45 slots, and the 46th is as it was
  pub forty_five_lem : our_panel.check forty_five ≡ looks 0 0x244 1 45 (Some SwitchedOff)
  pub forty_five_slots : (act_of forty_five).areas.points ≡ times 45 one_slot ++ replicate 40 0
  -- refused frames: no message is shown; what the sum test said is told
  pub silent : Refuses "!992082E\r\n" 7 (Some Wrong) × Refuses "!9A20835\r\n" 8 (Some True) × Refuses "!99208" 6 None
  pub error : Refuses "!9929937\r\n" 101 (Some True) × Refuses "!99246003001@@\r\n" 106 (Some SwitchedOff)
  -- 105 before 106: no count, of a point that is not held
  pub in_order : Refuses "!99246005000@@\r\n" 105 (Some SwitchedOff)
  -- a reply area of 1,023 bytes: 0 or its number by the check, 1 by the act
  pub short : (our_panel.check (replying 1023 "!99208@@\r\n") ≡ looks 0 0x208 0 0 (Some SwitchedOff))
      × (act_of (replying 1023 "!99208@@\r\n") ≡ unanswered None 1 smallest) × ((act_of (replying 1023 "!9929937\r\n")).number ≡ 1)
      × ((act_of (replying 1024 "!9929937\r\n")).number ≡ 101)
  -- the contracts can be met, for every call (by values of the code's own types too: MetByCode.antt)
  pub act_met :
      (c : Call)
      → Acts c (record { number = (act_of c).number; length = length (act_of c).text; kept = (act_of c).areas.kept; sum = (act_of c).sum }) (act_of c).areas
      (laid c.sent.reply 0 (act_of c).text)
  pub check_met : (c : Call) → CabinetChecks c (shown c).number (sum_code (check_of c).sum) (shown c).message (shown c).start (shown c).count

-- a board whose check says something else, and one that does something else, in one call as in two
abbrev pub showing : (Call → Look → Look) → Panel
showing change = record { check = λ c. change c (our_panel.check c); act = act_of; answer = answer_of }

abbrev pub acting : (Call → Outcome → Outcome) → Panel
acting change = record { check = our_panel.check; act = λ c. change c (act_of c); answer = λ c. change c (answer_of c) }

-- a check that gives 1; one that answers 106 before 105; one that tells a message of a refused frame
abbrev pub gives_one : Panel
gives_one = showing (λ c k. cond (too_short (length c.sent.reply)) (looks 1 0 0 0 None) k)

abbrev pub beyond : Call → Option Message → Bool
beyond c None = false
beyond c (Some m) = not_held (held c) m (content_in c.sent.frame)

abbrev pub beyond_first : Panel
beyond_first = showing (λ c k. cond (eqb k.shown.number 105 && beyond c (message_by c.sent)) (looks 106 0 0 0 k.sum) k)

abbrev pub tells_refused : Panel
tells_refused = showing (λ c k. cond (eqb k.shown.number 0) k (looks k.shown.number 0x246 0 0 k.sum))

-- one that shows start and count exchanged, one that shows a count of 1 where no run is named, and one that shows a point clear as a query
abbrev pub exchanged : Panel
exchanged = showing (λ c k. looks k.shown.number k.shown.message k.shown.count k.shown.start k.sum)

abbrev pub counts_one : Panel
counts_one = showing (λ c k. cond (eqb k.shown.message 0x208) (looks 0 0x208 0 1 k.sum) k)

abbrev pub as_query : Panel
as_query = showing (λ c k. cond (eqb k.shown.message 0x246) (looks 0 0x209 k.shown.start k.shown.count k.sum) k)

-- one that tells nothing of the sum, and one that shows nothing where the reply area is too short
abbrev pub untold : Panel
untold = showing (λ c k. record { shown = k.shown; sum = None })

abbrev pub by_reply_area : Panel
by_reply_area = showing (λ c k. cond (too_short (length c.sent.reply)) (looks k.shown.number 0 0 0 k.sum) k)

-- an act without the check, which goes by the message alone; an act without its reply
abbrev pub without_check : Panel
without_check =
    record {
      check = our_panel.check;
      act = λ c. record { number = number_given (asked c); text = text_of c (asked c); areas = areas_after c (asked c); sum = (check_of c).sum };
      answer = answer_of;
    }

abbrev pub without_reply : Panel
without_reply = record { check = our_panel.check; act = λ c. saying [] (act_of c); answer = answer_of }

-- column 999 spoiled: where a frame is refused, where the reply area is too short, by a query, beside the columns that a 24EH writes, and by a 246H
abbrev pub spoiling : Outcome → Outcome
spoiling o = storing (put_in (holding 2) (entry_for columns_tag 999 (0xFF ∷ [])) o.areas) o

abbrev pub spoils_refused : Panel
spoils_refused = acting (λ c o. cond (eqb o.number 101) (spoiling o) o)

abbrev pub spoils_short : Panel
spoils_short = acting (λ c o. cond (eqb o.number 1) (spoiling o) o)

abbrev pub spoils_query : Panel
spoils_query = acting (λ c o. cond (eqb o.number 0) (cond (asks_write (asked c)) o (spoiling o)) o)

abbrev pub spoils_beside : Panel
spoils_beside = acting (λ c o. cond (eqb (our_panel.check c).shown.message 0x24E) (spoiling o) o)

abbrev pub spoils_other : Panel
spoils_other = acting (λ c o. cond (eqb (our_panel.check c).shown.message 0x246) (spoiling o) o)

-- a write without its entry, and a 24EH that clears column 303, the last of the lot code's
abbrev pub without_entry : Panel
without_entry =
    acting (λ c o. record { number = o.number; text = o.text; areas = with_entries (entries_of (held c) c.areas) o.areas; sum = o.sum })

abbrev pub not_the_last : Panel
not_the_last =
    acting (λ c o.
    cond (eqb (our_panel.check c).shown.message 0x24E) (storing (put_in (holding 2) (entry_for columns_tag 303 (0 ∷ [])) o.areas) o) o)

pub record LookBroken : Type 0 where
  pub gives_one_lem : SameRefusals gives_one → ⊥
  pub beyond_first_lem : SameRefusals beyond_first → ⊥
  pub tells_refused_lem : SameRefusals tells_refused → ⊥
  pub exchanges : DoesWhatIsShown exchanged → ⊥
  pub counts_one_lem : DoesWhatIsShown counts_one → ⊥
  pub as_query_lem : DoesWhatIsShown as_query → ⊥
  pub untold_sum : SameRefusals untold → ⊥
  pub by_reply_area_lem : AnyReplyArea by_reply_area → ⊥
  pub without_check_lem : (SameRefusals without_check → ⊥) × (AsOne without_check → ⊥)
  pub without_reply_lem : AsOne without_reply → ⊥
  pub spoils_refused_lem : SameRefusals spoils_refused → ⊥
  pub spoils_short_lem : SameRefusals spoils_short → ⊥
  pub spoils_query_lem : DoesWhatIsShown spoils_query → ⊥
  pub spoils_beside_lem : DoesWhatIsShown spoils_beside → ⊥
  pub spoils_other_lem : DoesWhatIsShown spoils_other → ⊥
  pub without_entry_lem : DoesWhatIsShown without_entry → ⊥
  pub not_the_last_lem : DoesWhatIsShown not_the_last → ⊥
