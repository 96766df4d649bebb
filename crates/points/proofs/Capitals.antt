-- Digits in capitals write the same points.
use Prim.Native.Nat.{ℕ, zero, suc, ◌+◌, ◌*◌, ◌/◌, ◌%◌}
use mathlib.Core.Path.{◌≡◌, refl, ap, ap₂, ◌∙◌}
use mathlib.Core.Bool.{Bool, cond, ◌&&◌}
use mathlib.Core.List.{List, ◌∷◌, ◌++◌}
use lib.Dec.{eqb, leb}
use lib.IntN.{pos}
use lib.ListN.{length, take, drop}
use mir.Syntax.{w32}
use mir.Val.{to_z}
use Rattle.digits.specs.Digits.{capitals, number_of}
use Rattle.digits.proofs.Capitals.{length_capitals, drop_capitals, number_front, number_part}
use Rattle.points.specs.declared.units.Position.{Position}
use Rattle.points.specs.Units.{position}
use Rattle.points.specs.Axes.{axes_of}
use Rattle.points.specs.Point.{positions_of, point_of, length_of, fills_of, slot_of, slots_of}

pub same_length : (digits : List ℕ) → length_of (capitals digits) ≡ length_of digits
unfolding length_of
same_length digits = ap (λ (p : ℕ). 14 + 8 * length (axes_of p)) (number_front 2 digits)

-- what is behind the first point
pub behind : (digits : List ℕ) → drop (length_of (capitals digits)) (capitals digits) ≡ capitals (drop (length_of digits) digits)
behind digits = ap (λ (n : ℕ). drop n (capitals digits)) (same_length digits) ∙ drop_capitals (length_of digits) digits

pub same_fills : (count : ℕ) (digits : List ℕ) → fills_of count (capitals digits) ≡ fills_of count digits
unfolding fills_of
same_fills zero digits = ap (λ (n : ℕ). eqb n 0) (length_capitals digits)
same_fills (suc count) digits =
    ap₂ (λ (a b : Bool). a && b) (ap₂ leb (same_length digits) (length_capitals digits))
    (ap (fills_of count) (behind digits) ∙ same_fills count (drop (length_of digits) digits))

same_positions : (k p : ℕ) (digits : List ℕ) → positions_of k p (capitals digits) ≡ positions_of k p digits
unfolding positions_of
same_positions zero p digits = refl
same_positions (suc k) p digits =
    ap₂ (λ (x y : List Position). cond (eqb (p % 2) 1) x y)
    (ap₂ (λ (n : ℕ) (ps : List Position). position (to_z w32 n) ∷ ps) (number_front 8 digits)
    (ap (positions_of k (p / 2)) (drop_capitals 8 digits) ∙ same_positions k (p / 2) (drop 8 digits)))
    (ap (λ (ps : List Position). position (pos 0) ∷ ps) (same_positions k (p / 2) digits))

same_point : (digits : List ℕ) → point_of (capitals digits) ≡ point_of digits
unfolding point_of
same_point digits =
    rw (
      number_front 2 digits,
      number_part 4 2 digits,
      number_part 4 6 digits,
      number_part 4 10 digits,
      drop_capitals 14 digits,
      same_positions 8 (number_of (take 2 digits)) (drop 14 digits),
    )

pub same_slots : (count : ℕ) (digits : List ℕ) → slots_of count (capitals digits) ≡ slots_of count digits
unfolding slots_of
same_slots zero digits = refl
same_slots (suc count) digits =
    ap₂ (λ (s t : List ℕ). s ++ t) (ap slot_of (same_point digits)) (ap (slots_of count) (behind digits) ∙ same_slots count (drop (length_of digits) digits))
