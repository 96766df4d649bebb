-- Demand 2: "the store's numbers and codes survive writing and reading back with every digit", over calls as they are made, one after the other, and
-- over histories.
use Rattle.std.specs.Prelude.{ℕ, ◌+◌, ◌*◌, ◌<◌, ◌≤◌, ◌≡◌, true, false, List, [], ◌∷◌, ◌++◌, length, get_or, Some}
use Rattle.digits.specs.Text.{text}
use Rattle.frames.specs.Frame.{sc_in}
use Rattle.kinds.specs.declared.Kind.{Kind}
use Rattle.kinds.specs.Kinds.{points_of, kind_of, place_of, run_of}
use Rattle.points.specs.Point.{effective_in}
use Rattle.table.specs.declared.Message.{Message}
use Rattle.calls.specs.Calls.{Sent, Call, area_in}
use Rattle.refusals.specs.Refusals.{refusal_of}
use Rattle.orders.specs.Orders.{writes}
use Rattle.link.specs.Answer.{held}
use Rattle.demands.specs.History.{Conduct, effective_of, CountTrue, message_by, Past, AfterAny}
use Rattle.demands.specs.Reading.{start_of, count_of, Host, allowed, Reads, Tells}

-- a frame of a message ("What the board answers"), by the ID of its row in the table, for which no refusal holds, whatever a board makes of it; what is
-- lent as the journal is bytes
pub record Accepted (id : ℕ) (c : Call) : Type 0 where
  pub message : Message
  pub named : message.id ≡ id
  pub known : message_by c.sent ≡ Some message
  pub number : refusal_of c ≡ 0
  pub bytes : (i : ℕ) → get_or c.areas.journal i 0 < 256

-- whoever sent one is a host that is heard again, with '@@' too where it was sent so (02, f)
abbrev pub HeardAgain : Type 0
HeardAgain = (id : ℕ) (c : Call) → Accepted id c → Host c.sent × (sc_in c.sent.frame ≡ text "@@" → allowed c.sent false ≡ true)

-- what stands before a run of a kind and behind it is as before
pub record Outside (k : Kind) (start count : ℕ) (area area' : List ℕ) : Type 0 where
  pub before_it : (i : ℕ) → i < place_of k start → get_or area' i 0 ≡ get_or area i 0
  pub behind_it : (i : ℕ) → place_of k start + count * k.unit ≤ i → get_or area' i 0 ≡ get_or area i 0
  pub as_long : length area' ≡ length area

-- nothing is changed but what a message names, neither the rest of its kind's area nor the area of another kind nor a setting, and a query changes
-- nothing
pub record OnlyNamed (board : Conduct) (m : Message) (c : Call) : Type 0 where
  pub outside :
      Outside (kind_of (held c) m.tag) (start_of m c.sent) (count_of m c.sent) (area_in m.tag c.areas)
      (area_in m.tag (board.answer c).areas)
  pub others : (tag : ℕ) → (tag ≡ m.tag → ⊥) → area_in tag (board.answer c).areas ≡ area_in tag c.areas
  pub firsts : (board.answer c).areas.firsts ≡ c.areas.firsts
  pub query : writes m.does ≡ false → (board.answer c).areas ≡ c.areas

-- "slots with a non-zero pattern" among those that a message names, before it
abbrev pub effective_named : Message → Call → ℕ
effective_named m c =
    effective_in (count_of m c.sent) (run_of (points_of (held c)) (start_of m c.sent) (count_of m c.sent) c.areas.points)

-- each effective slot is counted once: those that were named are gone, and so many are new
abbrev pub Once : Conduct → Message → Call → ℕ → Type 0
Once board m c new = effective_of (board.answer c).areas + effective_named m c ≡ effective_of c.areas + new

-- what is read after a history: what is told of all that is held, the count being true, and all that a standing write named and no later standing write
-- touched
pub record Lasts (board : Conduct) (p : Past) : Type 0 where
  pub counted : CountTrue p.areas
  pub tells : Tells board p.areas
  pub read :
      (earlier later : List Sent) (s : Sent) (m : Message) → p.standing_writes ≡ earlier ++ (s ∷ later) → message_by s ≡ Some m
      → Reads board p.areas m s later

pub record EveryDigitSurvives (board : Conduct) : Type 0 where
  -- what the table accepts is accepted
  pub accepted : (id : ℕ) (c : Call) → Accepted id c → (board.answer c).number ≡ 0
  -- by the very next call after an accepted one, over any areas
  pub next : (id : ℕ) (c : Call) (a : Accepted id c) → Reads board (board.answer c).areas a.message c.sent []
  pub tells : (id : ℕ) (c : Call) → Accepted id c → Tells board (board.answer c).areas
  -- "with a count that is true" (02, b): an accepted call leaves such a count true, so that no board has its count invented by handing on another
  pub count_kept : (id : ℕ) (c : Call) → Accepted id c → CountTrue c.areas → CountTrue (board.answer c).areas
  -- a 244H's points are new, a 246H's are none
  pub written_once : (c : Call) (a : Accepted 0x244 c) → Once board a.message c (count_of a.message c.sent)
  pub cleared_once : (c : Call) (a : Accepted 0x246 c) → Once board a.message c 0
  -- whatever the message, all that it does not name is as before
  pub others : (id : ℕ) (c : Call) (a : Accepted id c) → OnlyNamed board a.message c
  -- and after any history from fresh
  pub later : AfterAny board (λ held size p. Lasts board p)
