-- What is promised of the bytes that show flags. The proof is in proofs/Promised.antt.
use Rattle.std.specs.Prelude.{ℕ, ◌+◌, ◌/◌, ◌≡◌, List, length, get_or}
use Rattle.flags.specs.Flags.{on_of, eights, bit_at}

-- each flag's bit is 1 where it is on and 0 where it is off, and beyond the last flag each bit is 0 (`get_or` is 0 there); no byte more than is begun
pub record Shown (flags : List ℕ) : Type 0 where
  pub each : (place : ℕ) → bit_at place (eights 0 flags) ≡ on_of (get_or flags place 0)
  pub as_many : length (eights 0 flags) ≡ (length flags + 7) / 8

-- Demand 2, a flag survives writing and reading back: so it is for every run of flags
abbrev pub EveryFlag : Type 0
EveryFlag = (flags : List ℕ) → Shown flags
