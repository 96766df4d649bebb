-- One turn of each loop over slots, positions and axes.
use Prim.Native.Nat.{ℕ, zero, suc, ◌+◌, ◌-◌, ◌*◌, ◌/◌, ◌%◌, ◌≤◌, ◌<◌}
use mathlib.Core.Path.{◌≡◌, refl, sym, ap, ap₂, ◌∙◌}
use mathlib.Core.Bool.{Bool, true, false, cond}
use mathlib.Core.List.{List, [], ◌∷◌, ◌++◌, append_assoc, append-nil}
use native.Mathlib.Omega.{arith}
use native.Mathlib.Nat.{not-suc-le-zero, add-zero, add_assoc}
use native.Mathlib.Numerals.{add-one}
use lib.Dec.{eqb}
use lib.IntN.{pos}
use lib.ListN.{length, take, drop, get_or, set, drop_of_length-le}
use lib.Seq.{drop-cons, drop-drop, take-suc-set, get_or-drop, take_all}
use mir.Syntax.{w32}
use mir.Val.{to_z, of_z}
use Rattle.digits.specs.Digits.{digits_of, number_of}
use Rattle.digits.specs.Laid.{laid}
use Rattle.digits.proofs.Laid.{laid_on, laid_nothing}
use Rattle.areas.specs.Bytes.{two_at, four_of, four_at}
use Rattle.points.specs.declared.units.Position.{Position}
use Rattle.points.specs.declared.point.Point.{Point}
use Rattle.points.specs.Units.{position}
use Rattle.points.specs.Point.{positions_of, point_of, length_of, position_bytes, slot_of, slots_of, positions_in, effective_in, position_digits}

-- eight positions stored, one after the other
pub store_next : (area after : List ℕ) (at axis : ℕ) (ps : List Position) → axis < length ps → at + axis * 4 ≤ length area
    → after ≡ laid area (at + axis * 4) (four_of (of_z w32 (get_or ps axis (position (pos 0))).0))
    → laid after (at + (axis + 1) * 4) (position_bytes (drop (axis + 1) ps)) ≡ laid area (at + axis * 4) (position_bytes (drop axis ps))
unfolding position_bytes
store_next area after at axis ps h k e =
    rw (e, add-one axis, drop-cons ps axis (position (pos 0)) h)
    (laid_on area (four_of (of_z w32 (get_or ps axis (position (pos 0))).0)) (position_bytes (drop (suc axis) ps)) (at + axis * 4) (at + suc axis * 4) (omega arith) k)

pub store_done : (area : List ℕ) (at axis : ℕ) (ps : List Position) → length ps ≤ axis → laid area at (position_bytes (drop axis ps)) ≡ area
unfolding position_bytes
store_done area at axis ps h = rw (drop_of_length-le ps h) (laid_nothing area at)

pub length_position_bytes : (ps : List Position) → length (position_bytes ps) ≡ 4 * length ps
unfolding position_bytes
length_position_bytes [] = refl
length_position_bytes (p ∷ ps) = let h = length_position_bytes ps in omega arith

pub length_positions_of : (axes pattern : ℕ) (digits : List ℕ) → length (positions_of axes pattern digits) ≡ axes
unfolding positions_of
length_positions_of zero p ds = refl
length_positions_of (suc n) p ds = go (eqb (p % 2) 1) (length_positions_of n (p / 2) (drop 8 ds)) (length_positions_of n (p / 2) ds)
  where
    go : (b : Bool) → length (positions_of n (p / 2) (drop 8 ds)) ≡ n → length (positions_of n (p / 2) ds) ≡ n
        → length (cond b (position (to_z w32 (number_of (take 8 ds))) ∷ positions_of n (p / 2) (drop 8 ds)) (position (pos 0) ∷ positions_of n (p / 2) ds)) ≡ suc n
    go true e f = ap suc e
    go false e f = ap suc f

-- a slot has forty bytes
pub length_slot : (p : Point) → length p.positions ≡ 8 → length (slot_of p) ≡ 40
unfolding slot_of
length_slot p h = omega (arith, length_position_bytes p.positions)

pub length_point_slot : (digits : List ℕ) → length (slot_of (point_of digits)) ≡ 40
unfolding point_of
length_point_slot digits = length_slot (point_of digits) (length_positions_of 8 (number_of (take 2 digits)) (drop 14 digits))

-- points laid, slot after slot
pub lay_next : (left : ℕ) (area after digits : List ℕ) (at : ℕ) → 0 < left → at ≤ length area → after ≡ laid area at (slot_of (point_of digits))
    → laid after (at + 40) (slots_of (left - 1) (drop (length_of digits) digits)) ≡ laid area at (slots_of left digits)
unfolding slots_of
lay_next zero area after digits at h k e = absurd (not-suc-le-zero h)
lay_next (suc n) area after digits at h k e =
    let m : suc n - 1 ≡ n = omega arith in
    rw (e, m)
    (laid_on area (slot_of (point_of digits)) (slots_of n (drop (length_of digits) digits)) at (at + 40) (ap (λ (x : ℕ). at + x) (length_point_slot digits)) k)

pub lay_done : (left : ℕ) (area digits : List ℕ) (at : ℕ) → left ≡ 0 → laid area at (slots_of left digits) ≡ area
unfolding slots_of
lay_done left area digits at e = rw e (laid_nothing area at)

-- a number of two bytes in a slot
pub two_drop : (area : List ℕ) (at k : ℕ) → two_at (drop at area) k ≡ two_at area (at + k)
two_drop area at k = rw (get_or-drop at area k 0, get_or-drop at area (k + 1) 0, add_assoc at k 1)

-- and of four
pub four_drop : (area : List ℕ) (at k : ℕ) → four_at (drop at area) k ≡ four_at area (at + k)
four_drop area at k =
    rw (get_or-drop at area k 0, get_or-drop at area (k + 1) 0, get_or-drop at area (k + 2) 0, get_or-drop at area (k + 3) 0, add_assoc at k 1, add_assoc at k 2, add_assoc at k 3)

-- positions read, one after the other
positions_in_more : (left : ℕ) (slot : List ℕ) → 0 < left → positions_in left slot ≡ position (to_z w32 (four_at slot 0)) ∷ positions_in (left - 1) (drop 4 slot)
unfolding positions_in
positions_in_more zero slot h = absurd (not-suc-le-zero h)
positions_in_more (suc n) slot h = let e : suc n - 1 ≡ n = omega arith in rw e

pub load_next : (area : List ℕ) (at axis : ℕ) (ps : List Position) (v : Position) → axis < 8 → length ps ≡ 8 → v ≡ position (to_z w32 (four_at area (at + axis * 4)))
    → take (axis + 1) (set ps axis v) ++ positions_in (8 - (axis + 1)) (drop (at + (axis + 1) * 4) area) ≡ take axis ps ++ positions_in (8 - axis) (drop (at + axis * 4) area)
load_next area at axis ps v h l e =
    let s = drop (at + axis * 4) area in
    let d : drop 4 s ≡ drop (at + (axis + 1) * 4) area = drop-drop 4 (at + axis * 4) area ∙ ap (λ (m : ℕ). drop m area) (let q : at + axis * 4 + 4 ≡ at + (axis + 1) * 4 = omega arith in q) in
    let m : 8 - axis - 1 ≡ 8 - (axis + 1) = omega arith in
    let f : v ≡ position (to_z w32 (four_at s 0)) = e ∙ ap (λ (x : ℕ). position (to_z w32 x)) (sym (four_drop area (at + axis * 4) 0 ∙ ap (four_at area) (add-zero (at + axis * 4)))) in
    rw (positions_in_more (8 - axis) s (omega arith), m, d, add-one axis, take-suc-set ps axis v (omega arith), append_assoc, f)

pub load_done : (ps : List Position) (axis : ℕ) (slot : List ℕ) → length ps ≡ 8 → axis ≡ 8 → take axis ps ++ positions_in (8 - axis) slot ≡ ps
unfolding positions_in
load_done ps axis slot l e = rw (e, take_all 8 ps (omega arith), append-nil)

-- effective slots counted
count_next : (left : ℕ) (area : List ℕ) → 0 < left → effective_in left area ≡ cond (eqb (get_or area 0 0) 0) 0 1 + effective_in (left - 1) (drop 40 area)
unfolding effective_in
count_next zero area h = absurd (not-suc-le-zero h)
count_next (suc n) area h = let e : suc n - 1 ≡ n = omega arith in rw e

pub count_at : (n i : ℕ) (area : List ℕ) → i < n
    → effective_in (n - i) (drop (i * 40) area) ≡ cond (eqb (get_or area (i * 40) 0) 0) 0 1 + effective_in (n - (i + 1)) (drop ((i + 1) * 40) area)
count_at n i area h =
    let m : n - i - 1 ≡ n - (i + 1) = omega arith in
    let q : i * 40 + 40 ≡ (i + 1) * 40 = omega arith in
    let d : drop 40 (drop (i * 40) area) ≡ drop ((i + 1) * 40) area = drop-drop 40 (i * 40) area ∙ ap (λ (x : ℕ). drop x area) q in
    let f : get_or (drop (i * 40) area) 0 0 ≡ get_or area (i * 40) 0 = get_or-drop (i * 40) area 0 0 ∙ ap (λ (x : ℕ). get_or area x 0) (add-zero (i * 40)) in
    count_next (n - i) (drop (i * 40) area) (omega arith)
    ∙ ap₂ (λ (x : ℕ) (y : ℕ). cond (eqb x 0) 0 1 + y) f (ap₂ effective_in m d)

pub count_end : (n i : ℕ) (area : List ℕ) → n ≤ i → effective_in (n - i) area ≡ 0
unfolding effective_in
count_end n i area h = let e : n - i ≡ 0 = omega arith in rw e

-- positions' digits laid, axis after axis
pub list_next : (axis to : ℕ) (axes reply after : List ℕ) (ps : List Position) → to ≤ length reply
    → after ≡ laid reply to (digits_of 8 (of_z w32 (get_or ps axis (position (pos 0))).0))
    → laid after (to + 8) (position_digits axes ps) ≡ laid reply to (position_digits (axis ∷ axes) ps)
unfolding position_digits
list_next axis to axes reply after ps h e = rw e (laid_on reply _ _ to (to + 8) refl h)

pub list_done : (to : ℕ) (reply : List ℕ) (ps : List Position) → laid reply to (position_digits [] ps) ≡ reply
unfolding position_digits
list_done to reply ps = laid_nothing reply to
