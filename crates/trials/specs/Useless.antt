-- Document 01, "What the promises say": "Try these useless boards against it". Each is named by what is wrong with it, whatever else it does, and is
-- ruled out by the contract of `answer` and, where document 01 says so, by demand 2; demand 3 is tried in Broken.antt.
use Rattle.std.specs.Prelude.{ℕ, suc, ◌+◌, ◌-◌, ◌≡◌, Bool, true, cond, ◌&&◌, List, ◌++◌, eqb, length, take}
use Rattle.digits.specs.Digits.{digits_of}
use Rattle.digits.specs.Laid.{laid}
use Rattle.digits.specs.Text.{text}
use Rattle.frames.specs.Frame.{normal, reply_of}
use Rattle.kinds.specs.Kinds.{kind_of, run_of}
use Rattle.journal.specs.Journal.{encodes, added, entry_for}
use Rattle.table.specs.declared.Message.{Message}
use Rattle.messages.specs.Asked.{Asked, Refused, Order}
use Rattle.calls.specs.declared.Kept.{Kept}
use Rattle.calls.specs.Calls.{Areas, Sent, Call, Outcome, areas_of, area_in, put_in, unanswered}
use Rattle.orders.specs.Orders.{rest, writes, new_bytes}
use Rattle.link.specs.Answer.{held, asked, answer_of}
use Rattle.link.specs.Contract.{GivenBack, Answers}
use Rattle.back.specs.Back.{back_of}
use Rattle.demands.specs.Refused.{asks_write}
use Rattle.demands.specs.History.{Conduct, entries, effective_of, CountTrue, entry_by}
use Rattle.demands.specs.Reading.{start_of, count_of, Host, allowed, asking}
use Rattle.demands.specs.Survive.{Accepted, EveryDigitSurvives}

-- "one that refuses all frames"
abbrev pub RefusesAll : (Call → Outcome) → Type 0
RefusesAll answer = (c : Call) → (answer c).number ≡ 0 → ⊥

-- "one with a constant reply": to all frames that it accepts
abbrev pub SameReply : (Call → Outcome) → Type 0
SameReply answer = (c d : Call) → (answer c).number ≡ 0 → (answer d).number ≡ 0 → (answer c).text ≡ (answer d).text

-- "one that stores nothing": no point changes
abbrev pub StoresNothing : (Call → Outcome) → Type 0
StoresNothing answer = (c : Call) → (answer c).areas.points ≡ c.areas.points

-- "one that stores a bulk write's first point and only acknowledges the rest": what a 244H names, from the second on, stays; and so what a 24CH names
-- (02, a): a board that stores its first integer only
abbrev pub behind_first : Message → Call → Areas → List ℕ
behind_first m c a = run_of (kind_of (held c) m.tag) (suc (start_of m c.sent)) (count_of m c.sent - 1) (area_in m.tag a)

abbrev pub StoresFirst : ℕ → (Call → Outcome) → Type 0
StoresFirst id answer = (c : Call) (a : Accepted id c) → behind_first a.message c (answer c).areas ≡ behind_first a.message c c.areas

-- "one that invents the 208H count": asked for it after some accepted frame that was handed "a count that is true" (02, b), it does not tell how many of
-- the slots that it left are effective
pub record InventsCount (answer : Call → Outcome) : Type 0 where
  pub id : ℕ
  pub call : Call
  pub accepted : Accepted id call
  pub counted : CountTrue call.areas
  pub host : Sent
  pub heard : Host host
  pub checked : Bool
  pub lets : allowed host checked ≡ true
  pub other :
      (answer (asking (answer call).areas host checked (text "208"))).text
      ≡ reply_of normal host.settings.station (text "208" ++ digits_of 3 (effective_of (answer call).areas)) → ⊥

-- "or the used length (the journal rule)": after some accepted write it is not that of the journal with the write's entry added
abbrev pub used_after : Call → ℕ
used_after c = length (encodes (added (length c.areas.journal) (entries c.areas) (entry_by (held c) c.areas c.sent)))

pub record InventsUsed (answer : Call → Outcome) : Type 0 where
  pub id : ℕ
  pub call : Call
  pub accepted : Accepted id call
  pub is_write : writes accepted.message.does ≡ true
  pub other : (answer call).areas.kept.used ≡ used_after call → ⊥

-- all that a board gives for a call
pub record Given : Type 0 where
  pub answered : GivenBack
  pub areas : Areas
  pub reply : List ℕ

abbrev pub Board : Type 0
Board = Call → Given

-- areas with other kept numbers
abbrev pub handing_on : Kept → Areas → Areas
handing_on kept a = areas_of a.points a.columns a.integers a.flags a.journal kept a.firsts

-- it meets the contract of `answer` for every call
abbrev pub Meets : Board → Type 0
Meets board = (c : Call) → Answers c (board c).answered (board c).areas (board c).reply

-- its outcome: the number, the bytes that it replies, the areas with the used length and the count that it hands on, what it tells of the sum
abbrev pub outcome_by : Board → Call → Outcome
outcome_by board c =
    record {
      number = (board c).answered.number;
      text = take (board c).answered.length (board c).reply;
      areas = handing_on (board c).answered.kept (board c).areas;
      sum = (board c).answered.sum;
    }

-- a board that gives an outcome: the reply laid over the front of the reply area
abbrev pub given : (Call → Outcome) → Board
given answer c =
    record {
      answered = record { number = (answer c).number; length = length (answer c).text; kept = (answer c).areas.kept; sum = (answer c).sum };
      areas = (answer c).areas;
      reply = laid c.sent.reply 0 (answer c).text;
    }

-- the contract rules them out; it can be met, so it isn't for an empty reason (by a value of the code's own type too: MetByCode.antt)
pub record Useless : Type 0 where
  pub can_be_met : Meets (given answer_of)
  pub refuses_all : (board : Board) → RefusesAll (outcome_by board) → Meets board → ⊥
  pub same_reply : (board : Board) → SameReply (outcome_by board) → Meets board → ⊥
  pub stores_nothing_lem : (board : Board) → StoresNothing (outcome_by board) → Meets board → ⊥
  pub stores_first_lem : (board : Board) → StoresFirst 0x244 (outcome_by board) → Meets board → ⊥
  pub stores_first_integer : (board : Board) → StoresFirst 0x24C (outcome_by board) → Meets board → ⊥
  pub invents_count : (board : Board) → InventsCount (outcome_by board) → Meets board → ⊥
  pub invents_used : (board : Board) → InventsUsed (outcome_by board) → Meets board → ⊥

-- "demand 2 shuts out all three", the boards that store the first point or integer only, and the one that invents the count: "slots are counted"
pub record ShutOut : Type 0 where
  pub refuses_all : (board : Conduct) → RefusesAll board.answer → EveryDigitSurvives board → ⊥
  pub same_reply : (board : Conduct) → SameReply board.answer → EveryDigitSurvives board → ⊥
  pub stores_nothing_lem : (board : Conduct) → StoresNothing board.answer → EveryDigitSurvives board → ⊥
  pub stores_first_lem : (board : Conduct) → StoresFirst 0x244 board.answer → EveryDigitSurvives board → ⊥
  pub stores_first_integer : (board : Conduct) → StoresFirst 0x24C board.answer → EveryDigitSurvives board → ⊥
  pub invents_count : (board : Conduct) → InventsCount board.answer → EveryDigitSurvives board → ⊥

-- such boards, each honest in all that is not its defect
abbrev pub honest_but : (Call → Outcome → Outcome) → Conduct
honest_but change = record { answer = λ c. change c (answer_of c); back = back_of }

abbrev pub saying : List ℕ → Outcome → Outcome
saying said o = record { number = o.number; text = said; areas = o.areas; sum = o.sum }

abbrev pub storing : Areas → Outcome → Outcome
storing a o =
    record {
      number = o.number;
      text = o.text;
      areas =
          areas_of a.points a.columns a.integers a.flags o.areas.journal
          (record { used = o.areas.kept.used; effective = a.kept.effective })
          o.areas.firsts;
      sum = o.sum;
    }

abbrev pub handing : ℕ → Outcome → Outcome
handing used o =
    let kept : Kept = record { used = used; effective = o.areas.kept.effective } in
    record { number = o.number; text = o.text; areas = handing_on kept o.areas; sum = o.sum }

-- in what is accepted alone, and in accepted writes alone
abbrev pub when_accepted : Call → (Outcome → Outcome) → Outcome → Outcome
when_accepted c change o = cond (eqb o.number 0) (change o) o

abbrev pub when_written : Call → (Outcome → Outcome) → Outcome → Outcome
when_written c change o = cond (eqb o.number 0 && asks_write (asked c)) (change o) o

-- a message of an ID that is accepted stores the bytes of the first thing that it names alone
abbrev pub first_bytes : Call → Message → ℕ → List ℕ
first_bytes c m count = take (kind_of (held c) m.tag).unit (new_bytes m.does (kind_of (held c) m.tag).unit count (rest c.sent m))

abbrev pub first_only : ℕ → Call → Asked → Outcome → Outcome
first_only id c (Refused number) o = o
first_only id c (Order m start count) o =
    cond (eqb m.id id && eqb o.number 0) (storing (put_in (held c) (entry_for m.tag start (first_bytes c m count)) c.areas) o) o

-- a 208H that is accepted tells a given count
abbrev pub tells : ℕ → Call → Asked → Outcome → Outcome
tells count c (Refused number) o = o
tells count c (Order m start many) o =
    cond (eqb m.id 0x208 && eqb o.number 0) (saying (reply_of normal c.sent.settings.station (text "208" ++ digits_of 3 count)) o) o

abbrev pub refuser : Conduct
refuser = honest_but (λ c o. unanswered o.sum 8 c.areas)

abbrev pub parrot : Conduct
parrot = honest_but (λ c o. when_accepted c (saying (text "#9920000123456782B\r\n")) o)

abbrev pub stores_nothing : Conduct
stores_nothing = honest_but (λ c o. storing c.areas o)

abbrev pub stores_first : ℕ → Conduct
stores_first id = honest_but (λ c o. first_only id c (asked c) o)

-- five, and one more than there are
abbrev pub five_always : Conduct
five_always = honest_but (λ c o. tells 5 c (asked c) o)

abbrev pub one_more : Conduct
one_more = honest_but (λ c o. tells (effective_of c.areas + 1) c (asked c) o)

-- the journal's length for the used length, and one more than it should be
abbrev pub used_all : Conduct
used_all = honest_but (λ c o. when_written c (handing (length c.areas.journal)) o)

abbrev pub used_more : Conduct
used_more = honest_but (λ c o. when_written c (handing (o.areas.kept.used + 1)) o)

pub record Made : Type 0 where
  -- each of them, as a board that the contract is asked of, has the outcome that it gives
  pub given_so : (answer : Call → Outcome) (c : Call) → outcome_by (given answer) c ≡ answer c
  pub refuses_all : RefusesAll refuser.answer
  pub same_reply : SameReply parrot.answer
  pub stores_nothing_lem : StoresNothing stores_nothing.answer
  pub stores_first_lem : StoresFirst 0x244 (stores_first 0x244).answer
  pub stores_first_integer : StoresFirst 0x24C (stores_first 0x24C).answer
  pub five_always_lem : InventsCount five_always.answer
  pub one_more_lem : InventsCount one_more.answer
  pub used_all_lem : InventsUsed used_all.answer
  pub used_more_lem : InventsUsed used_more.answer
