-- The laws of specs/Laws.antt.
use Prim.Native.Nat.{ℕ, zero, suc, ◌+◌, ◌*◌, ◌/◌, ◌%◌, ◌<◌, ◌≤◌, ◌^◌}
use mathlib.Core.Path.{◌≡◌, refl, sym, ap, ap₂, ◌∙◌}
use mathlib.Core.Bool.{Bool, true, false, cond}
use mathlib.Core.List.{List, [], ◌∷◌, ◌++◌}
use native.Mathlib.Omega.{arith}
use native.Mathlib.Nat.{div-add-mod'}
use lib.Dec.{eqb}
use lib.IntN.{pos}
use lib.ListN.{length, take, drop, get_or, length-append, length-drop}
use lib.Seq.{get_or_at, append_snoc, length-take-le, drop-drop}
use mir.Syntax.{w32}
use mir.Val.{Fits, to_z, of_z}
use mir.Facts.{to_z-of_z, of_z-to_z, sfits_to_z, sfits_lit}
use Rattle.digits.specs.Digits.{digits_of, capitals, all_digits, number_of}
use Rattle.digits.proofs.Inverse.{inverse}
use Rattle.digits.proofs.Capitals.{rejoined}
use Rattle.areas.specs.Bytes.{four_of, four_at}
use Rattle.points.specs.declared.units.Position.{Position}
use Rattle.points.specs.Units.{position, acceleration, speed}
use Rattle.points.specs.Axes.{axes_from, axes_of}
use Rattle.points.specs.Point.{position_of, positions_of, point_of, length_of, position_bytes, slot_of, positions_in, point_in, position_digits, point_digits}
use Rattle.points.specs.Laws.{AllFit, EverySlot, ZeroSlot, EveryDigit}
use Rattle.points.proofs.Parts.{all_take, all_drop}
use Rattle.points.proofs.Slotted.{length_slot, length_positions_of}

-- positions, as bytes and back
positions_back : (ps : List Position) → AllFit ps → positions_in (length ps) (position_bytes ps) ≡ ps
unfolding positions_in position_bytes
positions_back [] f = refl
positions_back (p ∷ ps) f =
    let x = of_z w32 p.0 in
    let e : four_at (four_of x ++ position_bytes ps) 0 ≡ x = omega arith in
    ap₂ (λ (q : Position) (qs : List Position). q ∷ qs) (ap position (ap (to_z w32) e ∙ to_z-of_z f.0)) (positions_back ps f.1)

pub slot : EverySlot
unfolding slot_of point_in
slot p f =
    let ps : positions_in 8 (position_bytes p.positions) ≡ p.positions = ap (λ (n : ℕ). positions_in n (position_bytes p.positions)) (sym f.axes) ∙ positions_back p.positions f.positions in
    let a = div-add-mod' p.acceleration.0 256 in
    let d = div-add-mod' p.deceleration.0 256 in
    let s = div-add-mod' p.speed.0 256 in
    record {
      bytes = length_slot p f.axes;
      read_back = λ i. record { pattern = p.pattern; acceleration = acceleration (a i); deceleration = acceleration (d i); speed = speed (s i); positions = ps i };
    }

pub zero_slot : ZeroSlot
unfolding slot_of position_bytes
zero_slot = refl

-- what eight bytes write is a number of 32 bits
eight_fits : (s : List ℕ) → length s ≡ 8 → Fits w32 (number_of s)
eight_fits s l = record { fits = (inverse 8).bound s l }

-- the positions of k axes, from axis j on, fit, and their digits are the very digits in capitals
abbrev Kept : ℕ → ℕ → Type 0
Kept k p = (j : ℕ) (digits : List ℕ) (pre : List Position) → length pre ≡ j → length digits ≡ 8 * length (axes_from k j p) → all_digits digits ≡ true
    → AllFit (positions_of k p digits) × (position_digits (axes_from k j p) (pre ++ positions_of k p digits) ≡ capitals digits)

no_digits : (digits : List ℕ) → length digits ≡ 0 → [] ≡ capitals digits
no_digits [] e = refl
no_digits (d ∷ digits) e = absurd (omega arith)

one_more_lem : (k p : ℕ) → Kept k (p / 2) → Kept (suc k) p
unfolding axes_from positions_of position_digits
one_more_lem k p ih j digits pre e = go (eqb (p % 2) 1)
  where
    rest : List ℕ
    rest = axes_from k (suc j) (p / 2)

    next : (v : Position) → length (pre ++ (v ∷ [])) ≡ suc j
    next v = simp length-append (omega arith)

    go : (b : Bool) → length digits ≡ 8 * length (cond b (j ∷ rest) rest) → all_digits digits ≡ true
        → AllFit (cond b (position_of (take 8 digits) ∷ positions_of k (p / 2) (drop 8 digits)) (position (pos 0) ∷ positions_of k (p / 2) digits))
        × (position_digits (cond b (j ∷ rest) rest) (pre ++ cond b (position_of (take 8 digits) ∷ positions_of k (p / 2) (drop 8 digits)) (position (pos 0) ∷ positions_of k (p / 2) digits)) ≡ capitals digits)
    go true l a =
        let v = position_of (take 8 digits) in
        let ps = positions_of k (p / 2) (drop 8 digits) in
        let n : length (take 8 digits) ≡ 8 = length-take-le 8 digits (omega arith) in
        let f = eight_fits (take 8 digits) n in
        let m : length (drop 8 digits) ≡ 8 * length rest = simp length-drop (omega arith) in
        let h = ih (suc j) (drop 8 digits) (pre ++ (v ∷ [])) (next v) m (all_drop 8 digits a) in
        let w : digits_of 8 (of_z w32 (get_or (pre ++ (v ∷ ps)) j (position (pos 0))).0) ≡ capitals (take 8 digits) =
        ap (λ (q : Position). digits_of 8 (of_z w32 q.0)) (get_or_at pre v ps (position (pos 0)) j e)
        ∙ ap (digits_of 8) (of_z-to_z f)
        ∙ (inverse 8).digits_of_value (take 8 digits) n (all_take 8 digits a) in
        let z : position_digits rest (pre ++ (v ∷ ps)) ≡ capitals (drop 8 digits) = ap (position_digits rest) (sym (append_snoc pre v ps)) ∙ h.1 in
        ((sfits_to_z f, h.0), ap₂ (λ (x y : List ℕ). x ++ y) w z ∙ rejoined 8 digits)
    go false l a =
        let v = position (pos 0) in
        let ps = positions_of k (p / 2) digits in
        let h = ih (suc j) digits (pre ++ (v ∷ [])) (next v) l a in
        ((sfits_lit tt, h.0), ap (position_digits rest) (sym (append_snoc pre v ps)) ∙ h.1)

kept : (k p : ℕ) → Kept k p
unfolding axes_from positions_of position_digits
kept zero p j digits pre e l a = (tt, no_digits digits (omega arith))
kept (suc k) p j digits pre e l a = one_more_lem k p (kept k (p / 2)) j digits pre e l a

-- a field of digits, and what is behind it
field_back : (n : ℕ) (s rest : List ℕ) → n ≤ length s → all_digits s ≡ true → rest ≡ capitals (drop n s) → digits_of n (number_of (take n s)) ++ rest ≡ capitals s
field_back n s rest h a e =
    ap₂ (λ (x y : List ℕ). x ++ y) ((inverse n).digits_of_value (take n s) (length-take-le n s h) (all_take n s a)) e ∙ rejoined n s

pub every_digit : (digits : List ℕ) → EveryDigit digits
unfolding length_of point_of point_digits axes_of
every_digit s l a =
    let p = number_of (take 2 s) in
    let n : length (drop 14 s) ≡ 8 * length (axes_of p) = simp length-drop (omega arith) in
    let h = kept 8 p 0 (drop 14 s) [] refl n (all_drop 14 s a) in
    let bound : (w at : ℕ) → at + w ≤ 14 → number_of (take w (drop at s)) < 16 ^ w =
    λ w at k. (inverse w).bound (take w (drop at s)) (length-take-le w (drop at s) (simp length-drop (omega arith))) in
    let d4 = field_back 4 (drop 10 s) _ (simp length-drop (omega arith)) (all_drop 10 s a) (h.1 ∙ ap capitals (sym (drop-drop 4 10 s))) in
    let d3 = field_back 4 (drop 6 s) _ (simp length-drop (omega arith)) (all_drop 6 s a) (d4 ∙ ap capitals (sym (drop-drop 4 6 s))) in
    let d2 = field_back 4 (drop 2 s) _ (simp length-drop (omega arith)) (all_drop 2 s a) (d3 ∙ ap capitals (sym (drop-drop 4 2 s))) in (
      record {
        pattern = bound 2 0 (omega arith);
        acceleration = bound 4 2 (omega arith);
        deceleration = bound 4 6 (omega arith);
        speed = bound 4 10 (omega arith);
        axes = length_positions_of 8 p (drop 14 s);
        positions = h.0;
      },
      field_back 2 s _ (omega arith) a d2,
    )
