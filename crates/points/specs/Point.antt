-- Document 01, "The areas": "One slot of 40 bytes holds axis pattern (1), a zero byte, acceleration, deceleration, speed (2 each), then eight
-- positions (4 each), high byte first"; "Each message", 244H, 208H and 209H.
use Rattle.std.specs.Prelude.{ℕ, zero, suc, ◌+◌, ◌*◌, ◌/◌, ◌%◌, Bool, cond, ◌&&◌, List, [], ◌∷◌, ◌++◌, pos, length, take, drop, get_or, replicate, leb, eqb}
use Rattle.std.specs.Int.{w32}
use Rattle.std.proofs.Common.{to_z, of_z}
use Rattle.digits.specs.Digits.{number_of, digits_of}
use Rattle.areas.specs.Bytes.{two_of, four_of, two_at, four_at}
use Rattle.points.specs.Units.{position, acceleration, speed}
use Rattle.points.specs.Axes.{axes_of}
use Rattle.points.specs.declared.units.Position.{Position}
use Rattle.points.specs.declared.point.Point.{Point}

-- "Pattern 00 means not effective": the point of a slot of zero bytes
abbrev pub zero_point : Point
zero_point =
    record { pattern = 0; acceleration = acceleration 0; deceleration = acceleration 0; speed = speed 0; positions = replicate 8 (position (pos 0)) }

-- Each message, 244H: "one 8-digit two's-complement position"
abbrev pub position_of : List ℕ → Position
position_of digits = position (to_z w32 (number_of digits))

-- "for each one bit of that point's own pattern, lowest axis first"; "positions of absent axes become 0"
unfoldable pub positions_of : ℕ → ℕ → List ℕ → List Position
positions_of zero pattern digits = []
positions_of (suc axes) pattern digits =
    cond (eqb (pattern % 2) 1)
    (position_of (take 8 digits) ∷ positions_of axes (pattern / 2) (drop 8 digits))
    (position (pos 0) ∷ positions_of axes (pattern / 2) digits)

-- "pattern 2, acceleration 4, deceleration 4, speed 4, and one 8-digit [..] position": the point that digits write
unfoldable pub point_of : List ℕ → Point
point_of digits =
    record {
      pattern = number_of (take 2 digits);
      acceleration = acceleration (number_of (take 4 (drop 2 digits)));
      deceleration = acceleration (number_of (take 4 (drop 6 digits)));
      speed = speed (number_of (take 4 (drop 10 digits)));
      positions = positions_of 8 (number_of (take 2 digits)) (drop 14 digits);
    }

-- how many digits the point at the front has, "as long as its own pattern says" (refusal 103)
unfoldable pub length_of : List ℕ → ℕ
length_of digits = 14 + 8 * length (axes_of (number_of (take 2 digits)))

-- digits are "exactly count points, each as long as its own pattern says" (refusal 103)
unfoldable pub fills_of : ℕ → List ℕ → Bool
fills_of zero digits = eqb (length digits) 0
fills_of (suc count) digits = leb (length_of digits) (length digits) && fills_of count (drop (length_of digits) digits)

-- the positions' bytes, and a slot's
unfoldable pub position_bytes : List Position → List ℕ
position_bytes [] = []
position_bytes (p ∷ ps) = four_of (of_z w32 p.0) ++ position_bytes ps

unfoldable pub slot_of : Point → List ℕ
slot_of p =
    p.pattern ∷ 0
    ∷ (two_of p.acceleration.0 ++ (two_of p.deceleration.0 ++ (two_of p.speed.0 ++ position_bytes p.positions)))

-- the slots of so many points
unfoldable pub slots_of : ℕ → List ℕ → List ℕ
slots_of zero digits = []
slots_of (suc count) digits = slot_of (point_of digits) ++ slots_of count (drop (length_of digits) digits)

-- the point in a slot
unfoldable pub positions_in : ℕ → List ℕ → List Position
positions_in zero slot = []
positions_in (suc axes) slot = position (to_z w32 (four_at slot 0)) ∷ positions_in axes (drop 4 slot)

unfoldable pub point_in : List ℕ → Point
point_in slot =
    record {
      pattern = get_or slot 0 0;
      acceleration = acceleration (two_at slot 2);
      deceleration = acceleration (two_at slot 4);
      speed = speed (two_at slot 6);
      positions = positions_in 8 (drop 8 slot);
    }

-- "slots with a non-zero pattern" ("Each message", 208H; 02, b), how many of so many
unfoldable pub effective_in : ℕ → List ℕ → ℕ
effective_in zero area = 0
effective_in (suc n) area = cond (eqb (get_or area 0 0) 0) 0 1 + effective_in n (drop 40 area)

-- a point's digits: its positions by its axes, lowest first; source document 000, section 4-3-5
unfoldable pub position_digits : List ℕ → List Position → List ℕ
position_digits [] ps = []
position_digits (axis ∷ axes) ps = digits_of 8 (of_z w32 (get_or ps axis (position (pos 0))).0) ++ position_digits axes ps

unfoldable pub point_digits : Point → List ℕ
point_digits p =
    digits_of 2 p.pattern
    ++ (digits_of 4 p.acceleration.0
    ++ (digits_of 4 p.deceleration.0
    ++ (digits_of 4 p.speed.0 ++ position_digits (axes_of p.pattern) p.positions)))
