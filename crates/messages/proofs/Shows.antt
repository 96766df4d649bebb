-- What is shown of an answer whose refusals have a number each: what the definition gives.
use Prim.Native.Nat.{ℕ}
use mathlib.Core.Path.{◌≡◌, ap, ◌∙◌}
use Rattle.std.specs.Prelude.{Result, Ok, Err}
use Rattle.messages.specs.declared.refusal.Refusal.{Refusal}
use Rattle.messages.specs.declared.Request.{Request}
use Rattle.messages.specs.declared.Shown.{Shown}
use Rattle.messages.specs.Refusal.{refusal_number}
use Rattle.messages.specs.Asked.{Refused, asked_by, asked_with}
use Rattle.messages.specs.Shown.{Shows, shown_of}

-- a judgement's answer, as `show` is given it
pub shown_refusal : (asked : Result Request Refusal) {s : Shown} → Shows (λ refusal number. number ≡ refusal_number refusal) asked s
    → s ≡ shown_of (asked_by asked)
shown_refusal (Ok r) e = e
shown_refusal (Err refusal) (number, is, e) = e ∙ ap (λ n. shown_of (Refused n)) is

-- and an answer that has the number itself, whatever number that is
pub shown_number : (asked : Result Request ℕ) {s : Shown} → Shows (λ refusal number. number ≡ refusal) asked s → s ≡ shown_of (asked_with asked)
shown_number (Ok r) e = e
shown_number (Err refusal) (number, is, e) = e ∙ ap (λ n. shown_of (Refused n)) is
