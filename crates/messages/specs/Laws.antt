-- What is promised of the judgement, over all frames. The proof is in proofs/Promised.antt.
use Rattle.std.specs.Prelude.{ℕ, ◌≡◌, List, Some}
use Rattle.frames.specs.Frame.{content_in}
use Rattle.kinds.specs.declared.Held.{Held}
use Rattle.table.specs.declared.Message.{Message}
use Rattle.table.specs.Table.{message_of, start_in, count_in}
use Rattle.messages.specs.Asked.{Refused, Order, asked_rows, asked_of, number_given}
use Rattle.messages.specs.Rows.{first_of}

-- "Refusal numbers, in the order tested": what a frame asks, its number and its order, is the table's and the frame's own
pub record Judgement (held : Held) (fitted release : ℕ) (frame : List ℕ) : Type 0 where
  -- "Each is given exactly when its condition holds and none earlier does. An accepted call has number 0."
  pub number :
      number_given (asked_of held fitted release frame) ≡ first_of (asked_rows held fitted release (message_of release frame) (content_in frame))
  -- "Each message": an order is of the frame's own message, with the numbers that its content writes
  pub order :
      (m : Message) (start count : ℕ) → asked_of held fitted release frame ≡ Order m start count
      → (message_of release frame ≡ Some m) × (start ≡ start_in m (content_in frame)) × (count ≡ count_in m (content_in frame))
  -- "An accepted call has number 0": no refusal is given as 0
  pub refused : asked_of held fitted release frame ≡ Refused 0 → ⊥

-- "For every input": so it is for every frame, whatever the board holds, whichever axes are fitted and whatever the release
abbrev pub EveryJudgement : Type 0
EveryJudgement = (held : Held) (fitted release : ℕ) (frame : List ℕ) → Judgement held fitted release frame
