-- The law of specs/Laws.antt.
use Prim.Native.Nat.{ℕ, ◌*◌, ◌/◌, ◌%◌}
use mathlib.Core.Path.{◌≡◌, ap, ◌∙◌}
use mathlib.Core.List.{List}
use native.Mathlib.Omega.{arith}
use native.Mathlib.Nat.{div-add-mod, zero-add}
use lib.ListN.{drop, get_or}
use lib.Seq.{get_or-drop}
use Rattle.flags.specs.Flags.{on_of, bit_at, eights}
use Rattle.flags.specs.Laws.{EveryFlag}
use Rattle.flags.proofs.OneByte.{bit_of}
use Rattle.flags.proofs.Begun.{byte_at, many_begun}

each : (flags : List ℕ) (place : ℕ) → bit_at place (eights 0 flags) ≡ on_of (get_or flags place 0)
each flags place =
    let before = 8 * (place / 8) in
    rw (byte_at 0 (place / 8) flags, zero-add)
    (bit_of 8 (place % 8) (drop before flags) (omega arith)
    ∙ ap on_of (get_or-drop before flags (place % 8) 0 ∙ ap (λ (n : ℕ). get_or flags n 0) (div-add-mod place 8)))

pub shown : EveryFlag
shown flags = record { each = each flags; as_many = many_begun 0 flags (omega arith) }
