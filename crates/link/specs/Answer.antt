-- Document 01, "Each message", "Refusal numbers" and "Journal", and document 02, requests a, b, f and l: what an answer leaves.
use Rattle.std.specs.Prelude.{ℕ, cond, List, eqb}
use Rattle.frames.specs.Frame.{reply_of, error_of, normal}
use Rattle.kinds.specs.declared.Held.{Held}
use Rattle.kinds.specs.Kinds.{kind_of, held_in}
use Rattle.table.specs.declared.Message.{Message}
use Rattle.messages.specs.Asked.{Asked, Refused, Order, asked_of, number_given}
use Rattle.calls.specs.Calls.{Areas, Call, Outcome, lengths_of, area_in, written, unanswered}
use Rattle.refusals.specs.Refusals.{silent_of, told_of}
use Rattle.orders.specs.Orders.{rest, writes, new_bytes, said_by}

-- what the board of a call holds, and what its frame asks
abbrev pub held : Call → Held
held c = held_in (lengths_of c.areas)

abbrev pub asked : Call → Asked
asked c = asked_of (held c) c.sent.settings.fitted c.sent.settings.release c.sent.frame

-- the reply: from 101 on the "error" reply, "10 reply bytes written, nothing else"
abbrev pub text_of : Call → Asked → List ℕ
text_of c (Refused number) = error_of c.sent.settings.station number
text_of c (Order m start count) =
    reply_of normal c.sent.settings.station (said_by m.does (held c) c.sent c.areas.kept m start count (area_in m.tag c.areas))

-- the areas after a message's order: a write's bytes stored, with its entry, else as they were
abbrev pub stored_by : Held → Message → ℕ → ℕ → List ℕ → Areas → Areas
stored_by held m start count rest a =
    cond (writes m.does) (written held m.tag start count (new_bytes m.does (kind_of held m.tag).unit count rest) a) a

abbrev pub areas_after : Call → Asked → Areas
areas_after c (Refused number) = c.areas
areas_after c (Order m start count) = stored_by (held c) m start count (rest c.sent m) c.areas

-- the answer to a call: where no refusal without a reply holds, what its frame asks is done
unfoldable pub answer_of : Call → Outcome
answer_of c =
    cond (eqb (silent_of c) 0)
    (record { number = number_given (asked c); text = text_of c (asked c); areas = areas_after c (asked c); sum = told_of c })
    (unanswered (told_of c) (silent_of c) c.areas)
