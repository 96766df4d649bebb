-- Demand 3: histories of frames and steps back, from fresh. "use the same ones throughout, hand each call the used length the last one handed back,
-- and let nothing else write them"; "demand 3 asks that handing on too" of the count, "from count 0" (02, b); the first numbers stay too: "while the
-- settings stay as they were at fresh" (02, a). Station, axes, release and whether '@@' is allowed come with each frame.
use Rattle.std.specs.Prelude.{ℕ, ◌≤◌, ◌≡◌, ◌↔◌, Bool, true, false, cond, ◌&&◌, List, [], ◌∷◌, ◌++◌, eqb, length, Option, Some, None}
use Rattle.kinds.specs.declared.Held.{Held}
use Rattle.kinds.specs.Kinds.{kind_of, held_in, Sound}
use Rattle.frames.specs.Frame.{content_in}
use Rattle.journal.specs.Journal.{Entry, encodes, added, area_of, others, entry_for}
use Rattle.points.specs.Point.{effective_in}
use Rattle.table.specs.declared.Message.{Message}
use Rattle.table.specs.Table.{message_of, start_in, count_in, rest_in}
use Rattle.calls.specs.Calls.{Areas, Sent, Call, Outcome, fresh, lengths_of, area_in, put_in, entries_of, old_entry}
use Rattle.refusals.specs.Refusals.{least_journal, refusal_of}
use Rattle.orders.specs.Orders.{new_bytes}
use Rattle.link.specs.Answer.{asked, answer_of}
use Rattle.back.specs.Back.{back_of}
use Rattle.demands.specs.Refused.{asks_write}

-- what a board does: the outcome of a frame, and of a step back
pub record Conduct : Type 0 where
  pub answer : Call → Outcome
  pub back : Areas → Outcome

-- the board's own, that its contracts cite
abbrev pub ours : Conduct
ours = record { answer = answer_of; back = back_of }

-- "any sequence of frames and steps back"
pub data Event : Type 0 where
  frame : Sent → Event
  step_back : Event

-- the call that a frame makes
abbrev pub call_on : Areas → Sent → Call
call_on a s = record { sent = s; areas = a }

-- all but the latest
abbrev pub but_last : List Sent → List Sent
but_last [] = []
but_last (s ∷ []) = []
but_last (s ∷ t ∷ ss) = s ∷ but_last (t ∷ ss)

-- what a history has come to
pub record Past : Type 0 where
  pub areas : Areas
  pub standing_writes : List Sent

-- the entries in the journal
abbrev pub entries : Areas → List Entry
entries a = entries_of (held_in (lengths_of a)) a

-- "the count of slots with a non-zero pattern", and "a count that is true": that which is kept equals it (02, b)
abbrev pub effective_of : Areas → ℕ
effective_of a = effective_in (held_in (lengths_of a)).points a.points

abbrev pub CountTrue : Areas → Type 0
CountTrue a = a.kept.effective ≡ effective_of a

-- the message that a frame names, under the release that it is sent with (02, l)
abbrev pub message_by : Sent → Option Message
message_by s = message_of s.settings.release s.frame

-- the run that a message with its content says, whatever a board makes of it, in the shape of an entry: its kind's tag, its start number and the
-- bytes to store ("Each message"; 02, a: the slots of its points, zero bytes, a byte for each pair of digits, a flag's byte); an unknown one says none
abbrev pub run_said : Held → Option Message → List ℕ → Entry
run_said held None content = entry_for 0 0 []
run_said held (Some m) content =
    entry_for m.tag (start_in m content) (new_bytes m.does (kind_of held m.tag).unit (count_in m content) (rest_in m content))

-- and the entry that it makes over areas: "the old bytes of what was named" ("Journal")
abbrev pub entry_said : Held → Option Message → List ℕ → Areas → Entry
entry_said held None content a = entry_for 0 0 []
entry_said held (Some m) content a = old_entry held m.tag (start_in m content) (count_in m content) a

-- an account of writes that no board gives: the runs that they say, whole, put into areas one after the other, and the entries that they make
abbrev pub stored : Held → Areas → Sent → Areas
stored held a s = put_in held (run_said held (message_by s) (content_in s.frame)) a

abbrev pub account : Held → Areas → List Sent → Areas
account held a [] = a
account held a (s ∷ ss) = account held (stored held a s) ss

abbrev pub entry_by : Held → Areas → Sent → Entry
entry_by held a s = entry_said held (message_by s) (content_in s.frame) a

abbrev pub entered : Held → Areas → List Sent → List Entry
entered held a [] = []
entered held a (s ∷ ss) = entry_by held a s ∷ entered held (stored held a s) ss

module _ (board : Conduct) where
  -- the areas after an event
  abbrev pub after : Areas → Event → Areas
  after a (frame s) = (board.answer (call_on a s)).areas
  after a step_back = (board.back a).areas

  -- an accepted write
  abbrev pub accepted_write : Areas → Sent → Bool
  accepted_write a s = eqb (board.answer (call_on a s)).number 0 && asks_write (asked (call_on a s))

  -- the accepted writes not taken back, oldest first, after an event: a frame that is one joins them, "a step back takes away the latest such write"
  abbrev pub standing : Areas → List Sent → Event → List Sent
  standing a ws (frame s) = cond (accepted_write a s) (ws ++ (s ∷ [])) ws
  standing a ws step_back = cond (eqb (board.back a).number 0) (but_last ws) ws

  abbrev pub past : Past → List Event → Past
  past p [] = p
  past p (e ∷ es) = past (record { areas = after p.areas e; standing_writes = standing p.areas p.standing_writes e }) es

  -- writes "if done alone, in order": what they leave, and that each is accepted
  abbrev pub alone : Areas → List Sent → Areas
  alone a [] = a
  alone a (s ∷ ss) = alone (after a (frame s)) ss

  abbrev pub all_accepted : Areas → List Sent → Bool
  all_accepted a [] = true
  all_accepted a (s ∷ ss) = accepted_write a s && all_accepted (after a (frame s)) ss

  -- what holds of every past
  pub record Holds (held : Held) (size : ℕ) (p : Past) : Type 0 where
    -- "points and columns are exactly what the accepted writes not taken back would leave if done alone, in order, from fresh": the area of each kind,
    -- "all four kinds" (02, a)
    pub things : (tag : ℕ) → area_in tag p.areas ≡ area_in tag (alone (fresh held size) p.standing_writes)
    -- and the account of these writes says the same, so each is done whole ("demand 3 counts whole writes")
    pub whole_writes : (tag : ℕ) → area_in tag p.areas ≡ area_in tag (account held (fresh held size) p.standing_writes)
    pub accepted_alone : all_accepted (fresh held size) p.standing_writes ≡ true
    -- the first numbers are those at fresh
    pub firsts : p.areas.firsts ≡ held.firsts
    -- the journal holds the entries of the newest of these writes, older ones were dropped; 00 stands behind them
    pub dropped : List Entry
    pub newest : entered held (fresh held size) p.standing_writes ≡ dropped ++ entries p.areas
    pub journal : p.areas.journal ≡ area_of size (entries p.areas)
    pub used : p.areas.kept.used ≡ length (encodes (entries p.areas))
    -- the count "always equals the count of slots with a non-zero pattern" (02, b), so 11 never comes
    pub counted : CountTrue p.areas
    pub never_eleven : (s : Sent) → (board.answer (call_on p.areas s)).number ≡ 11 → ⊥
    pub never_back : (board.back p.areas).number ≡ 11 → ⊥
    -- which frames are accepted is the table's; an accepted write adds its entry by the journal's rule; any other frame changes nothing
    pub numbers : (s : Sent) → (board.answer (call_on p.areas s)).number ≡ refusal_of (call_on p.areas s)
    pub adds :
        (s : Sent) → accepted_write p.areas s ≡ true → entries (after p.areas (frame s)) ≡ added size (entries p.areas) (entry_by held p.areas s)
    pub keeps : (s : Sent) → accepted_write p.areas s ≡ false → after p.areas (frame s) ≡ p.areas
    -- a step back removes the last entry, and "is refused only when the journal [..] has none left": number 9
    pub removes : entries (after p.areas step_back) ≡ others (entries p.areas)
    pub accepted : (entries p.areas ≡ [] → ⊥) ↔ ((board.back p.areas).number ≡ 0)
    pub refused : (entries p.areas ≡ []) ↔ ((board.back p.areas).number ≡ 9)

  -- what is so "with areas of the lengths document 01 asks", from fresh, "after any sequence of frames and steps back"
  abbrev pub AfterAny : (Held → ℕ → Past → Type 0) → Type 0
  AfterAny Is =
      (held : Held) (size : ℕ) → Sound held → least_journal held ≤ size → size ≤ 65536
      → (events : List Event) → Is held size (past (record { areas = fresh held size; standing_writes = [] }) events)

  abbrev pub EveryHistory : Type 0
  EveryHistory = AfterAny Holds
