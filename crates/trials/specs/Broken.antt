-- Demand 3 worked through: a history of a small board, and boards that break the demand. Each is ruled out by a history.
use Rattle.std.specs.Prelude.{ℕ, ◌≡◌, cond, ◌&&◌, List, [], ◌∷◌, eqb, length, take, get_or, replicate, None}
use Prim.Native.String.{String}
use Rattle.digits.specs.Text.{text}
use Rattle.kinds.specs.Kinds.{points_tag, columns_tag, held_in}
use Rattle.journal.specs.Journal.{added, entry_for}
use Rattle.calls.specs.Calls.{Areas, Sent, Call, Outcome, fresh, lengths_of, put_in, old_entry, with_entries, unanswered}
use Rattle.messages.specs.Asked.{Asked, Refused, Order}
use Rattle.orders.specs.Orders.{writes}
use Rattle.link.specs.Answer.{held, asked, answer_of}
use Rattle.back.specs.Back.{back_of}
use Rattle.trials.specs.Cases.{holding, sending}
use Rattle.trials.specs.Useless.{RefusesAll, StoresNothing, StoresFirst, honest_but, stores_nothing, stores_first, used_all, used_more}
use Rattle.demands.specs.History.{Conduct, ours, Event, frame, step_back, call_on, Past, past, entries, account, EveryHistory}

-- a frame to the bench's station, as it is printed
abbrev pub send : String → Sent
send s = sending (text s)

-- the lot code 0047 from column 300 on; point 1; point 1 cleared; the count; an unknown message; points 1 and 2
abbrev pub lot_code : Sent
lot_code = send "!9924E0012C0430303437@@\r\n"

abbrev pub point_one : Sent
point_one = send "!992440010010100000000000000000001@@\r\n"

abbrev pub clear_one : Sent
clear_one = send "!99246001001@@\r\n"

abbrev pub count : Sent
count = send "!99208@@\r\n"

abbrev pub unknown : Sent
unknown = send "!99299@@\r\n"

abbrev pub two_points : Sent
two_points = send "!9924400100201000000000000000000010100000000000000000001@@\r\n"

-- integers 200 and 201 set to 1 and 2; flag 607 set
abbrev pub two_integers : Sent
two_integers = send "!9924C000C8020000000100000002@@\r\n"

abbrev pub one_flag : Sent
one_flag = send "!9924B00025F1@@\r\n"

-- two points and the least journal, from fresh
abbrev pub smallest : Areas
smallest = fresh (holding 2) 580

abbrev pub small : Conduct → List Event → Past
small board events = past board (record { areas = smallest; standing_writes = [] }) events

pub record Worked : Type 0 where
  -- two writes, a query and a refused frame, and a step back: it takes away the second write, and nothing else
  pub one_taken : (small ours (frame lot_code ∷ frame point_one ∷ frame count ∷ frame unknown ∷ step_back ∷ [])).standing_writes ≡ lot_code ∷ []
  pub code_stays :
      take 4 (small ours (frame lot_code ∷ frame point_one ∷ frame count ∷ frame unknown ∷ step_back ∷ [])).areas.columns
      ≡ 0x30 ∷ 0x30 ∷ 0x34 ∷ 0x37 ∷ []
  -- the account of what stands says the same, and of two points both
  pub accounted :
      take 4 (account (holding 2) smallest (small ours (frame lot_code ∷ frame point_one ∷ step_back ∷ [])).standing_writes).columns
      ≡ 0x30 ∷ 0x30 ∷ 0x34 ∷ 0x37 ∷ []
  pub both_slots :
      (get_or (account (holding 2) smallest (two_points ∷ [])).points 0 0 ≡ 1) × (get_or (account (holding 2) smallest (two_points ∷ [])).points 40 0 ≡ 1)
  -- a second one takes away the first, and all is fresh; a third is refused
  pub all_taken : (small ours (frame lot_code ∷ frame point_one ∷ step_back ∷ step_back ∷ [])).areas ≡ smallest
  pub none_left : (back_of (small ours (frame lot_code ∷ frame point_one ∷ step_back ∷ step_back ∷ [])).areas).number ≡ 9
  -- a flag set over two integers: a step back takes the flag away, a second one the integers
  pub flag_set : get_or (small ours (frame two_integers ∷ frame one_flag ∷ [])).areas.flags 7 0 ≡ 1
  pub flag_taken : (small ours (frame two_integers ∷ frame one_flag ∷ step_back ∷ [])).areas.flags ≡ replicate 300 0
  pub integers_stay : take 8 (small ours (frame two_integers ∷ frame one_flag ∷ step_back ∷ [])).areas.integers ≡ 0 ∷ 0 ∷ 0 ∷ 1 ∷ 0 ∷ 0 ∷ 0 ∷ 2 ∷ []
  pub integers_taken : (small ours (frame two_integers ∷ frame one_flag ∷ step_back ∷ step_back ∷ [])).areas ≡ smallest
  -- thirteen writes of 45 bytes each: the journal has room for twelve
  pub oldest_dropped : length (entries (small ours (replicate 13 (frame clear_one))).areas) ≡ 12

-- every column set to a byte
abbrev pub columns_all : ℕ → Areas → Areas
columns_all b a = put_in (held_in (lengths_of a)) (entry_for columns_tag 300 (replicate 700 b)) a

-- an entry with the new bytes in place of the old: the write is done over areas that have it already
abbrev pub enters_new : Conduct
enters_new = record { answer = λ c. answer_of (call_on (with_entries (entries c.areas) (answer_of c).areas) c.sent); back = back_of }

-- a step back that also clears the columns
abbrev pub clears : Conduct
clears = record { answer = answer_of; back = λ a. unanswered None (back_of a).number (columns_all 0 (back_of a).areas) }

-- a refusal that writes
abbrev pub refusal_writes : Conduct
refusal_writes =
    record {
      answer = λ c.
          cond (eqb (answer_of c).number 0) (answer_of c)
          (record { number = (answer_of c).number; text = (answer_of c).text; areas = columns_all 0x30 (answer_of c).areas; sum = (answer_of c).sum });
      back = back_of;
    }

-- a board that forgets its entries at each frame
abbrev pub forgets : Conduct
forgets = record { answer = λ c. answer_of (call_on (with_entries [] c.areas) c.sent); back = back_of }

-- a step back that takes nothing away
abbrev pub takes_nothing : Conduct
takes_nothing = record { answer = answer_of; back = λ a. unanswered None (back_of a).number a }

-- "demand 3 counts whole writes", whatever else a board does
pub record NotWhole : Type 0 where
  pub refuses_all : (board : Conduct) → RefusesAll board.answer → EveryHistory board → ⊥
  pub stores_nothing_lem : (board : Conduct) → StoresNothing board.answer → EveryHistory board → ⊥
  pub stores_first_lem : (board : Conduct) → StoresFirst 0x244 board.answer → EveryHistory board → ⊥
  pub stores_first_integer : (board : Conduct) → StoresFirst 0x24C board.answer → EveryHistory board → ⊥

-- a write of points that enters all points: the journal then holds fewer writes than it should
abbrev pub more_entered : Call → Asked → Outcome → Outcome
more_entered c (Refused number) o = o
more_entered c (Order m start count) o =
    cond (eqb o.number 0 && (writes m.does && eqb m.tag points_tag))
    (record {
      number = o.number;
      text = o.text;
      areas =
          with_entries (added (length c.areas.journal) (entries c.areas) (old_entry (held c) points_tag 1 (held c).points c.areas)) o.areas;
      sum = o.sum;
    })
    o

abbrev pub enters_all : Conduct
enters_all = honest_but (λ c o. more_entered c (asked c) o)

pub record Broken : Type 0 where
  pub enters_new_lem : EveryHistory enters_new → ⊥
  pub enters_all_lem : EveryHistory enters_all → ⊥
  pub clears_too : EveryHistory clears → ⊥
  pub refusal_writes_lem : EveryHistory refusal_writes → ⊥
  pub forgets_entries : EveryHistory forgets → ⊥
  pub takes_nothing_lem : EveryHistory takes_nothing → ⊥
  -- boards that journal and step back as they should, and don't do writes whole
  pub stores_first_lem : EveryHistory (stores_first 0x244) → ⊥
  pub stores_first_integer : EveryHistory (stores_first 0x24C) → ⊥
  pub stores_nothing_lem : EveryHistory stores_nothing → ⊥
  -- a used length that is not that of the entries
  pub used_all_lem : EveryHistory used_all → ⊥
  pub used_more_lem : EveryHistory used_more → ⊥
