-- What carrying an order out needs, and what it leaves of the reply area, of the area of the message's kind, of the journal and of the count.
use Rattle.std.specs.Prelude.{ℕ, ◌≤◌, ◌≡◌, true, false, cond, List, eqb, length}
use Rattle.frames.specs.Frame.{content_in}
use Rattle.kinds.specs.declared.Kind.{Kind}
use Rattle.kinds.specs.Kinds.{points_tag, Sound, kind_of, holds, size_of}
use Rattle.points.specs.Point.{effective_in}
use Rattle.slots.specs.Counted.{effective_among}
use Rattle.table.specs.Table.{rest_in}
use Rattle.messages.specs.Asked as asked
use Rattle.messages.specs.Asked.{asked_of}
use Rattle.heads.specs.Laws.{Replied}
use Rattle.writes.specs.Writes.{Written}
use Rattle.calls.specs.declared.Kept.{Kept}
use Rattle.calls.specs.Calls.{Sent}
use Rattle.orders.specs.declared.Order.{Order}
use Rattle.orders.specs.Orders.{writes, new_bytes, said_by}

-- the kind of what an order's message asks of
abbrev pub kind_in : Order → Kind
kind_in o = kind_of o.held o.message.tag

-- a frame that orders this, with the area of the message's kind; a message that asks of no kind is handed any area
pub record Ordered (o : Order) (frame area : List ℕ) : Type 0 where
  pub sound : Sound o.held
  pub fitted : ℕ
  pub release : ℕ
  pub frame_long : 10 ≤ length frame
  pub order : asked_of o.held fitted release frame ≡ asked.Order o.message o.start o.count
  pub area_long : 1 ≤ (kind_in o).held → length area ≡ size_of (kind_in o)

-- what it says: the reply's length, and every byte of the reply area
abbrev pub Says : Order → Sent → Kept → List ℕ → ℕ → List ℕ → Type 0
Says o s kept area long reply' =
    Replied s.reply reply' long s.settings.station (said_by o.message.does o.held s kept o.message o.start o.count area)

-- what it stores: a write puts its bytes into the area and adds its entry; a query leaves area, journal and used length as they were
pub record Stores (o : Order) (frame area area' journal journal' : List ℕ) (used used' : ℕ) : Type 0 where
  pub wrote : writes o.message.does ≡ true
      → Written o.held (kind_in o) o.start o.count
      (new_bytes o.message.does (kind_in o).unit o.count (rest_in o.message (content_in frame))) area area' journal journal' used used'
  pub stayed : writes o.message.does ≡ false → (area' ≡ area) × (journal' ≡ journal) × (used' ≡ used)

-- the run that a write names lies in its area
abbrev pub Within : Order → List ℕ → Type 0
Within o area = writes o.message.does ≡ true → (holds (kind_in o) o.start o.count ≡ true) × (length area ≡ size_of (kind_in o))

-- the effective slots that a write names; a query writes none
abbrev pub count_named : Order → List ℕ → ℕ
count_named o area = cond (writes o.message.does) (effective_among (kind_in o) o.start o.count area) 0

-- the count that is handed on: of a write of points the number of effective slots after it, else the count given (02, b)
abbrev pub count_left : Order → List ℕ → ℕ → ℕ
count_left o area' effective =
    cond (writes o.message.does) (cond (eqb o.message.tag points_tag) (effective_in o.held.points area') effective) effective
