-- What is promised of points. The proofs are in proofs/Promised.antt.
use Rattle.std.specs.Prelude.{ℕ, ◌<◌, ◌≡◌, true, List, [], ◌∷◌, length, replicate}
use Rattle.std.specs.Int.{w32}
use Rattle.std.proofs.Common.{SFits}
use Rattle.digits.specs.Digits.{capitals, all_digits}
use Rattle.points.specs.declared.units.Position.{Position}
use Rattle.points.specs.declared.point.Point.{Point}
use Rattle.points.specs.Point.{zero_point, point_of, length_of, slot_of, point_in, point_digits}

-- each position fits 32 bits
abbrev pub AllFit : List Position → Type 0
AllFit [] = Unit
AllFit (p ∷ ps) = SFits w32 p.0 × AllFit ps

-- a point whose fields fit their bytes, as every value of the program's point type does
pub record Fits (p : Point) : Type 0 where
  pub pattern : p.pattern < 256
  pub acceleration : p.acceleration.0 < 65536
  pub deceleration : p.deceleration.0 < 65536
  pub speed : p.speed.0 < 65536
  pub axes : length p.positions ≡ 8
  pub positions : AllFit p.positions

-- "One slot of 40 bytes": what is stored is read back
pub record Slot (p : Point) : Type 0 where
  pub bytes : length (slot_of p) ≡ 40
  pub read_back : point_in (slot_of p) ≡ p

-- "One slot of 40 bytes": so it is for every point whose fields fit
abbrev pub EverySlot : Type 0
EverySlot = (p : Point) → Fits p → Slot p

-- "sets the named slots to zero": a slot of zero bytes is the zero point's
abbrev pub ZeroSlot : Type 0
ZeroSlot = slot_of zero_point ≡ replicate 40 0

-- Demand 2, "survive writing and reading back with every digit": digits that are one point are, in capitals, the very digits of the point that they write (02, l)
abbrev pub EveryDigit : List ℕ → Type 0
EveryDigit digits = length digits ≡ length_of digits → all_digits digits ≡ true → Fits (point_of digits) × (point_digits (point_of digits) ≡ capitals digits)
