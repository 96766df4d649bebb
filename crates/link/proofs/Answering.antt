-- From the tests to the outcome.
use Prim.Native.Nat.{ℕ, zero, suc, ◌<◌}
use mathlib.Core.Path.{◌≡◌, refl, sym, ap, ◌∙◌}
use mathlib.Core.Bool.{Bool, true, false}
use mathlib.Core.List.{List}
use native.Mathlib.Omega.{arith}
use lib.Dec.{eqb}
use lib.ListN.{length}
use borrow.Author.Tests.{ne_eqb, eqb-true, eqb-false}
use Rattle.frames.specs.Frame.{content_in}
use Rattle.kinds.specs.declared.Held.{Held}
use Rattle.kinds.specs.Kinds.{held_in}
use Rattle.table.specs.declared.Message.{Message}
use Rattle.messages.specs.Asked.{Asked, Refused, Order, asked_rows, asked_of, number_given}
use Rattle.messages.specs.Rows.{first_of}
use Rattle.table.specs.Table.{message_of}
use Rattle.messages.proofs.Judged.{number_judged, refused_some}
use Rattle.calls.specs.Calls.{Call, Outcome, lengths_of, unanswered}
use Rattle.refusals.specs.Refusals.{silent, silent_of, told_of, refusal_of}
use Rattle.refusals.proofs.Rows.{silent_is, refusal_is, call_passed, past_silent, silent_given}
use Rattle.link.specs.Answer.{asked, text_of, areas_after, answer_of}

pub silent_first : (c : Call) → silent_of c ≡ first_of (silent c)
unfolding silent_of
silent_first c = refl

-- a refusal without a reply
pub silent_answer : (c : Call) (k : ℕ) → k ≡ silent_of c → (k ≡ 0 → ⊥) → answer_of c ≡ unanswered (told_of c) k c.areas
unfolding answer_of
silent_answer c k e n = rw (← e, ne_eqb k 0 n)

-- what a heard frame asks is answered
pub heard_answer : (c : Call) → silent_of c ≡ 0 → answer_of c ≡ record { number = number_given (asked c); text = text_of c (asked c); areas = areas_after c (asked c); sum = told_of c }
unfolding answer_of
heard_answer c e = rw e

-- the number of what is asked is that of its rows
pub asked_number_lem : (c : Call)
    → number_given (asked c) ≡ first_of (asked_rows (held_in (lengths_of c.areas)) c.sent.settings.fitted c.sent.settings.release (message_of c.sent.settings.release c.sent.frame) (content_in c.sent.frame))
unfolding asked_of
asked_number_lem c = number_judged (held_in (lengths_of c.areas)) c.sent.settings.fitted c.sent.settings.release (message_of c.sent.settings.release c.sent.frame) (content_in c.sent.frame)

pub heard_number : (c : Call) → silent_of c ≡ 0 → refusal_of c ≡ number_given (asked c)
heard_number c e =
    let k = first_of (asked_rows (held_in (lengths_of c.areas)) c.sent.settings.fitted c.sent.settings.release (message_of c.sent.settings.release c.sent.frame) (content_in c.sent.frame)) in
    refusal_is c
    ∙ past_silent (length c.sent.reply) c.sent.frame c.sent.axes c.sent.settings (lengths_of c.areas) c.areas.journal c.areas.kept
    c.areas.points (call_passed c e)
    k
    ∙ sym (asked_number_lem c)

-- a refusal without a reply is the table's, and below 101
pub silent_number_lem : (c : Call) → (silent_of c ≡ 0 → ⊥) → (refusal_of c ≡ silent_of c) × (silent_of c < 101)
silent_number_lem c n =
    let k = first_of (asked_rows (held_in (lengths_of c.areas)) c.sent.settings.fitted c.sent.settings.release (message_of c.sent.settings.release c.sent.frame) (content_in c.sent.frame)) in
    let h =
    silent_given (length c.sent.reply) c.sent.frame c.sent.axes c.sent.settings (lengths_of c.areas) c.areas.journal c.areas.kept
    c.areas.points k
    (λ z. n (silent_is c ∙ z)) in
    (refusal_is c ∙ h.0 ∙ sym (silent_is c), rw (silent_is c) h.1)

-- the number that comes back is the table's
pub frame_number : (c : Call) → (answer_of c).number ≡ refusal_of c
frame_number c = go (eqb (silent_of c) 0) refl
  where
    go : (b : Bool) → eqb (silent_of c) 0 ≡ b → (answer_of c).number ≡ refusal_of c
    go true e = let z = eqb-true _ _ e in ap (λ (o : Outcome). o.number) (heard_answer c z) ∙ sym (heard_number c z)
    go false e =
        let z = eqb-false _ _ e in
        ap (λ (o : Outcome). o.number) (silent_answer c (silent_of c) refl z) ∙ sym (silent_number_lem c z).0

-- an accepted frame was heard, and orders something
pub record Accepted (c : Call) : Type 0 where
  pub heard : silent_of c ≡ 0
  pub message : Message
  pub start : ℕ
  pub count : ℕ
  pub order : asked c ≡ Order message start count

pub accepted : (c : Call) → (answer_of c).number ≡ 0 → Accepted c
accepted c e = go (eqb (silent_of c) 0) refl
  where
    none : silent_of c ≡ 0 → number_given (asked c) ≡ 0
    none z = sym (heard_number c z) ∙ sym (frame_number c) ∙ e

    low : (a : Asked) → asked c ≡ a → silent_of c ≡ 0 → number_given a ≡ 0 → (a ≡ Refused 0 → ⊥) → Accepted c
    low (Refused zero) q z f k = absurd (k refl)
    low (Refused (suc n)) q z f k = absurd (omega arith)
    low (Order m start count) q z f k = record { heard = z; message = m; start = start; count = count; order = q }

    go : (b : Bool) → eqb (silent_of c) 0 ≡ b → Accepted c
    go true q = let z = eqb-true _ _ q in low (asked c) refl z (none z) (λ w. refused_some (held_in (lengths_of c.areas)) c.sent.settings.fitted c.sent.settings.release c.sent.frame w)
    go false q = let z = eqb-false _ _ q in absurd (z (sym (silent_number_lem c z).0 ∙ sym (frame_number c) ∙ e))

-- what is asked, of what is held as it was worked out
pub same_asked : {a : Asked} {h h' : Held} (fitted release : ℕ) (frame : List ℕ) → a ≡ asked_of h fitted release frame → h ≡ h' → asked_of h' fitted release frame ≡ a
same_asked fitted release frame e f = cc
