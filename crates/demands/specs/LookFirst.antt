-- Document 02, request g: "The panel wants to show "write 45 points from 001" and ask." A check, and then an act with nothing between, over whole calls.
use Rattle.std.specs.Prelude.{ℕ, ◌≤◌, ◌≡◌, true, false, cond, List, [], length, Some, Option, None}
use Rattle.kinds.specs.declared.Kind.{Kind}
use Rattle.kinds.specs.Kinds.{kind_of, run_of}
use Rattle.table.specs.declared.Message.{Message}
use Rattle.messages.specs.declared.Shown.{Shown}
use Rattle.messages.specs.Shown.{names_run}
use Rattle.frames.specs.declared.checks.Sum.{Sum}
use Rattle.calls.specs.Calls.{Areas, Call, Outcome, call_of, area_in, written}
use Rattle.refusals.specs.Refusals.{too_short}
use Rattle.orders.specs.Orders.{rest, writes, new_bytes}
use Rattle.link.specs.Answer.{held, answer_of}
use Rattle.link.specs.Check.{check_of, act_of}
use Rattle.link.specs.Contract.{GivenBack, Answers, Acts}
use Rattle.board.specs.Calls.{shown, CabinetAnswers, CabinetActs, CabinetChecks}
use Rattle.demands.specs.History.{message_by}
use Rattle.demands.specs.Reading.{start_of, count_of}
use Rattle.demands.specs.Survive.{Outside}

-- what a check tells the panel: what is shown, and what the sum test said
pub record Look : Type 0 where
  pub shown : Shown
  pub sum : Option Sum

-- what a board does for a panel: a check, to which everything is lent to be only read, an act, and "the old single call"
pub record Panel : Type 0 where
  pub check : Call → Look
  pub act : Call → Outcome
  pub answer : Call → Outcome

-- the board's own, that its contracts cite
abbrev pub our_panel : Panel
our_panel = record { check = λ c. record { shown = shown c; sum = (check_of c).sum }; act = act_of; answer = answer_of }

-- a call with this reply area
abbrev pub replying_in : List ℕ → Call → Call
replying_in reply c = call_of c.sent.frame c.sent.axes c.sent.settings reply c.areas

-- a check of a call, and then the outcome of an act on it: "Refusals: as before in each half"
pub record Halves (c : Call) (k : Look) (o : Outcome) : Type 0 where
  -- "checking never gives 1, as it writes no reply"
  pub never_one : k.shown.number ≡ 1 → ⊥
  -- acting gives 1 where the reply area is too short, else the check's number, and tells the same of the sum
  pub number : o.number ≡ cond (too_short (length c.sent.reply)) 1 k.shown.number
  pub sum : o.sum ≡ cond (too_short (length c.sent.reply)) None k.sum
  -- of a refused frame no message and no run is shown, and an act that is refused, by 1 too, changes nothing
  pub nothing_shown : (k.shown.number ≡ 0 → ⊥) → (k.shown.message ≡ 0) × (k.shown.start ≡ 0) × (k.shown.count ≡ 0)
  pub nothing_done : (o.number ≡ 0 → ⊥) → o.areas ≡ c.areas

-- the kind of what a message names, and the bytes that a frame with it says for so many of that
abbrev pub kind_named : Message → Call → Kind
kind_named m c = kind_of (held c) m.tag

abbrev pub bytes_said : Message → ℕ → Call → List ℕ
bytes_said m count c = new_bytes m.does (kind_named m c).unit count (rest c.sent m)

-- what is shown of a frame is what acting on it then does: the areas that it leaves
pub record ShownIsDone (c : Call) (w : Shown) (after : Areas) : Type 0 where
  -- the message whose ID is shown is the frame's own; start and count are as the frame says, or 0 where the message names no run
  pub message : Message
  pub id : w.message ≡ message.id
  pub named : message_by c.sent ≡ Some message
  pub start : w.start ≡ cond (names_run message) (start_of message c.sent) 0
  pub count : w.count ≡ cond (names_run message) (count_of message c.sent) 0
  -- one that is shown as a query changes nothing
  pub query : writes message.does ≡ false → after ≡ c.areas
  -- one that is shown as a write is just that write: its bytes are put in from the number shown on, with one entry of what they replace
  pub write :
      writes message.does ≡ true
      → after ≡ written (held c) message.tag w.start w.count (bytes_said message w.count c) c.areas
  -- so "write 45 points from 001" writes these 45 slots: the run shown then holds what the frame says,
  pub these :
      writes message.does ≡ true
      → run_of (kind_named message c) w.start w.count (area_in message.tag after) ≡ bytes_said message w.count c
  -- and no other: all that stands outside it, and every other kind, is as before
  pub no_other : Outside (kind_named message c) w.start w.count (area_in message.tag c.areas) (area_in message.tag after)
  pub no_other_kind : (tag : ℕ) → (tag ≡ message.tag → ⊥) → area_in tag after ≡ area_in tag c.areas

-- "Checking and then doing, with nothing between, equals the old single call": number, reply, every lent byte, what is kept and the sum told
abbrev pub AsOne : Panel → Type 0
AsOne board = (c : Call) → board.act c ≡ board.answer c

abbrev pub SameRefusals : Panel → Type 0
SameRefusals board = (c : Call) → Halves c (board.check c) (board.act c)

-- a check looks at no reply area
abbrev pub AnyReplyArea : Panel → Type 0
AnyReplyArea board = (c : Call) (reply : List ℕ) → board.check (replying_in reply c) ≡ board.check c

abbrev pub DoesWhatIsShown : Panel → Type 0
DoesWhatIsShown board =
    (c : Call) → (board.check c).shown.number ≡ 0 → 1024 ≤ length c.sent.reply → ShownIsDone c (board.check c).shown (board.act c).areas

pub record LookFirst (board : Panel) : Type 0 where
  pub as_one : AsOne board
  pub same_refusals : SameRefusals board
  pub any_reply_area : AnyReplyArea board
  pub does_what_is_shown : DoesWhatIsShown board

-- so for the contracts of `act` and `answer`: every number and every lent byte is the same, whichever of the two is called
abbrev pub ContractsAsOne : Type 0
ContractsAsOne =
    (c : Call) (r r' : GivenBack) (a a' : Areas) (reply reply' : List ℕ)
    → Acts c r a reply → Answers c r' a' reply' → (r ≡ r') × (a ≡ a') × (reply ≡ reply')

-- and for the C calls
abbrev pub CabinetAsOne : Type 0
CabinetAsOne =
    (c : Call) (n n' l l' u u' v v' s s' : ℕ) (a a' : Areas) (reply reply' : List ℕ)
    → CabinetActs c n l u v s a reply → CabinetAnswers c n' l' u' v' s' a' reply'
    → (n ≡ n') × (l ≡ l') × (u ≡ u') × (v ≡ v') × (s ≡ s') × (a ≡ a') × (reply ≡ reply')

-- `cabinet_check`, which is handed no reply area, and then `cabinet_act`: the number, `*sum`, and what is left
pub record CabinetHalves (c : Call) (k told m start count n s : ℕ) (after : Areas) : Type 0 where
  pub number : n ≡ cond (too_short (length c.sent.reply)) 1 k
  pub sum : s ≡ cond (too_short (length c.sent.reply)) 0 told
  pub done : k ≡ 0 → 1024 ≤ length c.sent.reply → ShownIsDone c (record { number = k; message = m; start = start; count = count }) after

abbrev pub CabinetLooks : Type 0
CabinetLooks =
    (c : Call) (k told m start count n l u v s : ℕ) (a : Areas) (reply : List ℕ)
    → CabinetChecks (replying_in [] c) k told m start count → CabinetActs c n l u v s a reply → CabinetHalves c k told m start count n s a
