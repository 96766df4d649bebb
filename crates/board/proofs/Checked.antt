-- What is shown of a check, and its sum as a code.
use Prim.Native.Nat.{ℕ}
use mathlib.Core.Path.{◌≡◌, ap, ◌∙◌}
use Rattle.messages.specs.declared.Shown.{Shown}
use Rattle.messages.specs.Shown.{shown_of}
use Rattle.calls.specs.Calls.{Call, sum_code}
use Rattle.link.specs.Check.{Looked, check_of}
use Rattle.board.specs.Calls.{shown, CabinetChecks}

pub showing : {c : Call} {k : Looked} {w : Shown} {code : ℕ} → k ≡ check_of c → w ≡ shown_of k.asked → code ≡ sum_code k.sum
    → CabinetChecks c w.number code w.message w.start w.count
showing {c} e f s =
    let g : _ ≡ shown c = f ∙ ap (λ (x : Looked). shown_of x.asked) e in
    record {
      number_is = ap (λ (x : Shown). x.number) g;
      sum_is = s ∙ ap (λ (x : Looked). sum_code x.sum) e;
      message_is = ap (λ (x : Shown). x.message) g;
      start_is = ap (λ (x : Shown). x.start) g;
      count_is = ap (λ (x : Shown). x.count) g;
    }
