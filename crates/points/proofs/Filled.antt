-- The walk from axis to axis over the digits of positions.
use Prim.Native.Nat.{ℕ, zero, suc, ◌/◌, ◌%◌}
use mathlib.Core.Path.{◌≡◌, refl, sym, ap, ◌∙◌}
use mathlib.Core.Bool.{Bool, true, false, cond}
use mathlib.Core.List.{List, [], ◌∷◌, ◌++◌}
use native.Mathlib.Omega.{arith}
use lib.Dec.{eqb}
use lib.IntN.{pos}
use lib.ListN.{length, take, drop, set, replicate, length-append}
use lib.Seq.{set_at, append_snoc, take-append_seam, drop-append_seam}
use Rattle.points.specs.declared.units.Position.{Position}
use Rattle.points.specs.Units.{position}
use Rattle.points.specs.Axes.{axes_from, axes_of}
use Rattle.points.specs.Point.{position_of, positions_of}

-- positions with those of the listed axes taken from the next digits
abbrev pub fill_axes : List ℕ → List ℕ → List Position → List Position
fill_axes [] digits ps = ps
fill_axes (axis ∷ axes) digits ps = fill_axes axes (drop 8 digits) (set ps axis (position_of (take 8 digits)))

abbrev Filled : ℕ → ℕ → Type 0
Filled k p = (j : ℕ) (digits : List ℕ) (pre : List Position) → length pre ≡ j
    → fill_axes (axes_from k j p) digits (pre ++ replicate k (position (pos 0))) ≡ pre ++ positions_of k p digits

one_more_lem : (k p : ℕ) → Filled k (p / 2) → Filled (suc k) p
unfolding axes_from positions_of
one_more_lem k p ih j digits pre e = go (eqb (p % 2) 1)
  where
    zs : List Position
    zs = replicate k (position (pos 0))

    next : (v : Position) → length (pre ++ (v ∷ [])) ≡ suc j
    next v = simp length-append (omega arith)

    go : (b : Bool) → fill_axes (cond b (j ∷ axes_from k (suc j) (p / 2)) (axes_from k (suc j) (p / 2))) digits (pre ++ (position (pos 0) ∷ zs))
        ≡ pre ++ cond b (position_of (take 8 digits) ∷ positions_of k (p / 2) (drop 8 digits)) (position (pos 0) ∷ positions_of k (p / 2) digits)
    go true =
        let v = position_of (take 8 digits) in
        ap (fill_axes (axes_from k (suc j) (p / 2)) (drop 8 digits)) (set_at pre (position (pos 0)) zs v j e ∙ sym (append_snoc pre v zs))
        ∙ ih (suc j) (drop 8 digits) (pre ++ (v ∷ [])) (next v)
        ∙ append_snoc pre v (positions_of k (p / 2) (drop 8 digits))
    go false =
        let v = position (pos 0) in
        ap (fill_axes (axes_from k (suc j) (p / 2)) digits) (sym (append_snoc pre v zs))
        ∙ ih (suc j) digits (pre ++ (v ∷ [])) (next v)
        ∙ append_snoc pre v (positions_of k (p / 2) digits)

filled : (k p : ℕ) → Filled k p
unfolding axes_from positions_of
filled zero p j digits pre e = refl
filled (suc k) p j digits pre e = one_more_lem k p (filled k (p / 2)) j digits pre e

-- before the first axis is walked to
pub walk_first : (pattern : ℕ) (digits : List ℕ) → fill_axes (axes_of pattern) digits (replicate 8 (position (pos 0))) ≡ positions_of 8 pattern digits
unfolding axes_of
walk_first pattern digits = filled 8 pattern 0 digits [] refl

-- one axis walked to, whose digits stand at the front
pub walk_next : {axis : ℕ} {axes axes' left : List ℕ} {v : Position} (ps : List Position) (field left' : List ℕ) → axes ≡ axis ∷ axes' → left ≡ field ++ left' → length field ≡ 8 → v ≡ position_of field
    → fill_axes axes' left' (set ps axis v) ≡ fill_axes axes left ps
walk_next ps field left' p q l e =
    let t : take 8 (field ++ left') ≡ field = ap (λ (n : ℕ). take n (field ++ left')) (sym l) ∙ take-append_seam field left' in
    let d : drop 8 (field ++ left') ≡ left' = ap (λ (n : ℕ). drop n (field ++ left')) (sym l) ∙ drop-append_seam field left' in
    rw (p, q, t, d, e)

-- all axes walked to
pub walk_done : (axes digits : List ℕ) (ps : List Position) → length axes ≡ 0 → fill_axes axes digits ps ≡ ps
walk_done [] digits ps e = refl
walk_done (axis ∷ axes) digits ps e = absurd (omega arith)
