-- Document 02, request g: what a panel is shown of a judgement, "what would be done or the refusal".
use Rattle.std.specs.Prelude.{ℕ, ◌≡◌, Bool, cond, leb, Result, Ok, Err}
use Rattle.table.specs.declared.Message.{Message}
use Rattle.messages.specs.Asked.{Asked, Refused, Order}
use Rattle.messages.specs.declared.Request.{Request}
use Rattle.messages.specs.declared.Shown.{Shown}

-- a message names a run where its content has digits for a start number ("Each message"; 02, a)
abbrev pub names_run : Message → Bool
names_run m = leb 1 m.start

-- "write 45 points from 001": the message's ID, with start and count where it names a run, else 0; or the refusal's number, and no message
abbrev pub shown_of : Asked → Shown
shown_of (Refused number) = record { number = number; message = 0; start = 0; count = 0 }
shown_of (Order m start count) = record { number = 0; message = m.id; start = cond (names_run m) start 0; count = cond (names_run m) count 0 }

-- what is shown of an answer: its order, or its refusal by the number that this is converted to
abbrev pub Shows : {E : Type 0} → (E → ℕ → Type 0) → Result Request E → Shown → Type 0
Shows converts (Ok r) shown = shown ≡ shown_of (Order r.message r.start r.count)
Shows converts (Err refusal) shown = (number : ℕ) × converts refusal number × (shown ≡ shown_of (Refused number))
