-- Demand 2 of cabinet releases: "release 1, capitals only; release 2, either, in ID, station, content and SC." (02, l)
use Rattle.std.specs.Prelude.{ℕ, ◌≡◌, Bool, true, false, List, ◌∷◌, ◌++◌, take}
use Rattle.digits.specs.Digits.{capitals, digits_of}
use Rattle.digits.specs.Text.{text}
use Rattle.frames.specs.Frame.{command, station_in, message_in, content_in, sc_in, sc_of}
use Rattle.calls.specs.Calls.{Areas, Sent, Call, call_of}
use Rattle.link.specs.Contract.{GivenBack, Answers}
use Rattle.demands.specs.History.{Conduct}
use Rattle.demands.specs.Reading.{frame_with, asking}
use Rattle.demands.specs.TestCalls.{handed}

-- a call under a release, whatever it was handed over with
abbrev pub under : ℕ → Call → Call
under release c =
    let s = c.sent.settings in
    call_of c.sent.frame c.sent.axes (record { station = s.station; release = release; unchecked = s.unchecked; fitted = s.fitted })
    c.sent.reply c.areas

-- none of 'a' to 'f' stands there
abbrev pub InCapitals : List ℕ → Type 0
InCapitals bytes = capitals bytes ≡ bytes

-- "release 1, capitals only": so a frame that is accepted has no small letter in ID, station and SC, nor in its content, but for a 200H's ten bytes
pub record Plain (frame : List ℕ) : Type 0 where
  pub id : InCapitals (message_in frame)
  pub station : InCapitals (station_in frame)
  pub content : (message_in frame ≡ text "200" → ⊥) → InCapitals (content_in frame)
  pub sc : InCapitals (sc_in frame)

abbrev pub CapitalsOnly : Conduct → Type 0
CapitalsOnly board = (c : Call) → (board.answer (under 1 c)).number ≡ 0 → Plain c.sent.frame

-- a frame in letters of either size, and what it says in capitals
pub record EitherSize (h : Sent) (checked : Bool) (station said sc plain : List ℕ) : Type 0 where
  -- the host's own station
  pub station_is : capitals station ≡ digits_of 2 h.settings.station
  -- "The sum is always of the bytes as sent", or '@@'
  pub sc_true : checked ≡ true → capitals sc ≡ sc_of (command ∷ (station ++ said))
  pub sc_off : checked ≡ false → sc ≡ text "@@"
  -- "200H's ten bytes stay as sent"
  pub test_call_lem : take 3 said ≡ text "200" → plain ≡ said
  pub other : (take 3 said ≡ text "200" → ⊥) → plain ≡ capitals said

-- "release 2, either": such a frame is answered as the command that says it in capitals, with a true SC or '@@' as it has: number, reply, areas and
-- what is told of the sum
abbrev pub Either : Conduct → Type 0
Either board =
    (a : Areas) (h : Sent) → h.settings.release ≡ 2 → (checked : Bool) (station said sc plain : List ℕ) → EitherSize h checked station said sc plain
    → board.answer (handed a h (frame_with station said sc)) ≡ board.answer (asking a h checked plain)

-- "Replies stay in capitals, and 200H's ten bytes stay as sent"
abbrev pub RepliesInCapitals : Conduct → Type 0
RepliesInCapitals board = (c : Call) → (message_in c.sent.frame ≡ text "200" → ⊥) → InCapitals (board.answer c).text

-- "Any frame release 1 accepts, release 2 answers with the same bytes": number, reply, areas and what is told of the sum
abbrev pub SameUnderTwo : Conduct → Type 0
SameUnderTwo board = (c : Call) → (board.answer (under 1 c)).number ≡ 0 → board.answer (under 2 c) ≡ board.answer (under 1 c)

pub record Releases (board : Conduct) : Type 0 where
  pub capitals_only : CapitalsOnly board
  pub either : Either board
  pub replies_in_capitals : RepliesInCapitals board
  pub same_under_two : SameUnderTwo board

-- so for the contract of `answer`: every number, what is told of the sum, and every lent byte
abbrev pub SameAnswer : Type 0
SameAnswer =
    (c : Call) (r r' : GivenBack) (a a' : Areas) (reply reply' : List ℕ) → Answers (under 1 c) r a reply → Answers (under 2 c) r' a' reply'
    → r.number ≡ 0 → (r' ≡ r) × (a' ≡ a) × (reply' ≡ reply)
