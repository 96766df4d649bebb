-- What std writes of a number, high byte first, is what document 01 has in an area.
use Rattle.std.proofs.Common.{◌≡◌, ℕ, ◌/◌, ◌%◌, ◌<◌, [], ◌∷◌, ap, arith, w16, w32}
use Rattle.std.specs.Int.{to_be_bytes}
use Rattle.areas.specs.Bytes.{two_of, four_of}

pub in_two : (x : ℕ) → x < 65536 → to_be_bytes w16 x ≡ two_of x
in_two x h = ap (λ (high : ℕ). high ∷ x % 256 ∷ []) (omega arith)

pub in_four : (x : ℕ) → x < 4294967296 → to_be_bytes w32 x ≡ four_of x
in_four x h = ap (λ (high : ℕ). high ∷ x / 65536 % 256 ∷ x / 256 % 256 ∷ x % 256 ∷ []) (omega arith)
