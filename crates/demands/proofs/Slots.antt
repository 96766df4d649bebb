-- Slots as digits write them: what is listed of them, and how many are effective.
use Prim.Native.Nat.{ℕ, zero, suc, ◌+◌, ◌-◌, ◌*◌, ◌/◌, ◌%◌, ◌≤◌, ◌<◌, ◌^◌}
use mathlib.Core.Path.{◌≡◌, refl, sym, ap, ap₂, ◌∙◌}
use mathlib.Core.Bool.{Bool, true, false, cond, not}
use mathlib.Core.List.{List, [], ◌∷◌, ◌++◌, append_assoc}
use native.Mathlib.Nat.{add-zero}
use native.Mathlib.Omega.{arith}
use lib.Bits.{bit_and}
use lib.Dec.{leb, eqb}
use lib.IntN.{pos}
use lib.ListN.{length, take, drop, get_or, replicate, length-append, length-drop, take-append-drop, get_or-append}
use lib.Seq.{length-take-le, take-take, take_at, take-append-le, drop-append-le, drop_at, drop-drop}
use borrow.Author.Tests.{leb-true, le-leb, not-true}
use Rattle.digits.specs.Digits.{capitals, digits_of, all_digits, number_of}
use Rattle.digits.proofs.Inverse.{and_left, and_right}
use Rattle.points.specs.Units.{position}
use Rattle.points.specs.Axes.{axes_from, axes_of}
use Rattle.points.specs.Point.{position_of, positions_of, point_of, length_of, fills_of, slot_of, slots_of, positions_in, point_in, effective_in, point_digits}
use Rattle.points.proofs.Measured.{least}
use Rattle.points.proofs.Ones.{at_most}
use Rattle.digits.proofs.Inverse.{inverse}
use Rattle.digits.proofs.Capitals.{length_capitals, take_capitals}
use Rattle.points.proofs.Parts.{all_take, all_drop}
use Rattle.points.proofs.Capitals as points
use Rattle.points.proofs.Slotted.{length_point_slot}
use Rattle.points.proofs.Promised.{slot, every_digit}
use Rattle.table.specs.Table.{pattern_fits, patterns_fit}
use Rattle.slots.proofs.Counted.{zero_slots}
use Rattle.listing.specs.Listing.{listing, listed}
use Rattle.demands.specs.Reading.{sent, fitting}
use Rattle.demands.proofs.Parts.{same_part}

-- the positions that stand in bytes do not depend on what stands behind them
positions_front : (axes : ℕ) (s r : List ℕ) → 4 * axes ≤ length s → positions_in axes (s ++ r) ≡ positions_in axes s
unfolding positions_in
positions_front zero s r h = refl
positions_front (suc axes) s r h =
    let at : (i : ℕ) → i < 4 → get_or (s ++ r) i 0 ≡ get_or s i 0 = λ i l. get_or-append s r 0 i (omega arith) in
    rw (at 0 (omega arith), at 1 (omega arith), at 2 (omega arith), at 3 (omega arith), drop-append-le 4 s r (omega arith), positions_front axes (drop 4 s) r (simp length-drop (omega arith)))

-- nor does the point in a slot
slot_front : (s r : List ℕ) → length s ≡ 40 → point_in (s ++ r) ≡ point_in s
unfolding point_in
slot_front s r l =
    let at : (i : ℕ) → i < 40 → get_or (s ++ r) i 0 ≡ get_or s i 0 = λ i h. get_or-append s r 0 i (omega arith) in
    rw (at 0 (omega arith), at 2 (omega arith), at 3 (omega arith), at 4 (omega arith), at 5 (omega arith), at 6 (omega arith), at 7 (omega arith), drop-append-le 8 s r (omega arith), positions_front 8 (drop 8 s) r (simp length-drop (omega arith)))

-- the positions that digits write do not depend on the digits behind theirs
positions_of_front : (axes axis pattern : ℕ) (s r : List ℕ) → 8 * length (axes_from axes axis pattern) ≤ length s → positions_of axes pattern (s ++ r) ≡ positions_of axes pattern s
unfolding axes_from positions_of
positions_of_front zero axis p s r h = refl
positions_of_front (suc axes) axis p s r h =
    go (eqb (p % 2) 1) (positions_of_front axes (suc axis) (p / 2) (drop 8 s) r) (positions_of_front axes (suc axis) (p / 2) s r) h
  where
    rest : List ℕ
    rest = axes_from axes (suc axis) (p / 2)

    go : (b : Bool)
        → (8 * length rest ≤ length (drop 8 s) → positions_of axes (p / 2) (drop 8 s ++ r) ≡ positions_of axes (p / 2) (drop 8 s))
        → (8 * length rest ≤ length s → positions_of axes (p / 2) (s ++ r) ≡ positions_of axes (p / 2) s)
        → 8 * length (cond b (axis ∷ rest) rest) ≤ length s
        → cond b (position_of (take 8 (s ++ r)) ∷ positions_of axes (p / 2) (drop 8 (s ++ r))) (position (pos 0) ∷ positions_of axes (p / 2) (s ++ r))
        ≡ cond b (position_of (take 8 s) ∷ positions_of axes (p / 2) (drop 8 s)) (position (pos 0) ∷ positions_of axes (p / 2) s)
    go true ih _ h = rw (take-append-le 8 s r (omega arith), drop-append-le 8 s r (omega arith), ih (simp length-drop (omega arith)))
    go false _ ih h = rw (ih h)

module _ (digits : List ℕ) (whole-one : length_of digits ≤ length digits) where
  -- the digits of the point at the front
  first : List ℕ
  first = take (length_of digits) digits

  -- there are as many as its pattern says
  first_long : length first ≡ length_of digits
  unfolding first
  first_long = length-take-le (length_of digits) digits whole-one

  -- its pattern is there
  same_pattern : take 2 first ≡ take 2 digits
  unfolding first
  same_pattern = take-take 2 (length_of digits) digits (omega (arith, least digits))

  -- so they are one point, and no more
  same_length : length_of first ≡ length_of digits
  unfolding length_of
  same_length = rw same_pattern

  -- its positions' digits, and those of the points behind it
  rest_of_first : drop 14 digits ≡ drop 14 first ++ drop (length_of digits) digits
  unfolding first
  rest_of_first =
      ap (drop 14) (sym (take-append-drop (length_of digits) digits))
      ∙ drop-append-le 14 first (drop (length_of digits) digits) (omega (arith, first_long, least digits))

  -- eight for each of its axes
  enough : 8 * length (axes_of (number_of (take 2 digits))) ≤ length (drop 14 first)
  unfolding length_of
  enough = simp length-drop (omega (arith, first_long))

  -- its positions are those that all the digits write
  same_positions : positions_of 8 (number_of (take 2 digits)) (drop 14 first) ≡ positions_of 8 (number_of (take 2 digits)) (drop 14 digits)
  unfolding axes_of
  same_positions =
      sym
      (ap (positions_of 8 (number_of (take 2 digits))) rest_of_first
      ∙ positions_of_front 8 0 (number_of (take 2 digits)) (drop 14 first) (drop (length_of digits) digits) enough)

  -- and so is the point
  same_point : point_of first ≡ point_of digits
  unfolding first point_of
  same_point =
      let l = least digits in
      rw (
        same_pattern,
        same_part 4 2 (length_of digits) digits (omega arith),
        same_part 4 6 (length_of digits) digits (omega arith),
        same_part 4 10 (length_of digits) digits (omega arith),
        same_positions,
      )

  -- the slot of that point, whatever stands behind it, says its very digits back, in capitals
  pub digits_back : (r : List ℕ) → all_digits digits ≡ true
      → point_digits (point_in (slot_of (point_of digits) ++ r)) ≡ take (length_of (capitals digits)) (capitals digits)
  unfolding first
  digits_back r a =
      let e = every_digit first (first_long ∙ sym same_length) (all_take (length_of digits) digits a) in
      let f = rw same_point at e.0 in
      ap point_digits (slot_front (slot_of (point_of digits)) r (length_point_slot digits) ∙ (slot (point_of digits) f).read_back ∙ sym same_point) ∙ e.1
      ∙ sym (ap (λ (n : ℕ). take n (capitals digits)) (points.same_length digits) ∙ take_capitals (length_of digits) digits)

-- a slot starts with its pattern
slot_pattern : (digits r : List ℕ) → get_or (slot_of (point_of digits) ++ r) 0 0 ≡ number_of (take 2 digits)
unfolding slot_of point_of
slot_pattern digits r = refl

-- a pattern that passed is not 00
pattern_some : (fitted pattern : ℕ) → pattern_fits fitted pattern ≡ true → eqb pattern 0 ≡ false
unfolding pattern_fits
pattern_some fitted pattern e = not-true _ (and_left (not (eqb pattern 0)) (eqb (bit_and pattern fitted) pattern) e)

-- a slot is forty bytes
slot_behind : (digits r : List ℕ) → drop 40 (slot_of (point_of digits) ++ r) ≡ r
slot_behind digits r = drop_at (slot_of (point_of digits)) r 40 (length_point_slot digits)

-- what the tests of 244H tell of its first point, and of those behind it
module _ (fitted count : ℕ) (digits : List ℕ) where
  -- the first has all its digits
  first_fills : fills_of (suc count) digits ≡ true → length_of digits ≤ length digits
  unfolding fills_of
  first_fills e = leb-true _ _ (and_left (leb (length_of digits) (length digits)) (fills_of count (drop (length_of digits) digits)) e)

  -- what is left is the others
  rest_fills : fills_of (suc count) digits ≡ true → fills_of count (drop (length_of digits) digits) ≡ true
  unfolding fills_of
  rest_fills e = and_right (leb (length_of digits) (length digits)) (fills_of count (drop (length_of digits) digits)) e

  -- the first is effective
  first_pattern : patterns_fit fitted (suc count) digits ≡ true → eqb (number_of (take 2 digits)) 0 ≡ false
  unfolding patterns_fit
  first_pattern e = pattern_some fitted (number_of (take 2 digits)) (and_left (pattern_fits fitted (number_of (take 2 digits))) (patterns_fit fitted count (drop (length_of digits) digits)) e)

  -- the others' patterns passed too
  rest_patterns : patterns_fit fitted (suc count) digits ≡ true → patterns_fit fitted count (drop (length_of digits) digits) ≡ true
  unfolding patterns_fit
  rest_patterns e = and_right (pattern_fits fitted (number_of (take 2 digits))) (patterns_fit fitted count (drop (length_of digits) digits)) e

-- one effective slot, listed as its digits were sent
listed_one : (room count number : ℕ) (slots s rest : List ℕ) → eqb (get_or slots 0 0) 0 ≡ false → listing number slots ≡ s → drop 40 slots ≡ rest
    → listed room (suc count) number slots ≡ cond (leb (length s) room) (s ∷ listed (room - length s) count (suc number) rest) []
unfolding listed
listed_one room count number slots s rest p e d =
    rw p (ap₂ (λ (x y : List ℕ). cond (leb (length x) room) (x ∷ listed (room - length x) count (suc number) y) []) e d)

-- the slots of points that were sent are listed as they were sent, in capitals, as many as fit
pub listed_sent : (fitted count room number : ℕ) (digits rest : List ℕ) → fills_of count digits ≡ true → all_digits digits ≡ true → patterns_fit fitted count digits ≡ true
    → listed room count number (slots_of count digits ++ rest) ≡ fitting room (sent count number (capitals digits))
unfolding listed fitting sent slots_of
listed_sent fitted zero room number digits rest f a p = refl
listed_sent fitted (suc count) room number digits rest f a p =
    let slot = slot_of (point_of digits) in
    let digits' = drop (length_of digits) digits in
    let s = digits_of 3 number ++ take (length_of (capitals digits)) (capitals digits) in
    let l = slots_of count digits' ++ rest in
    let split : (slot ++ slots_of count digits') ++ rest ≡ slot ++ l = append_assoc slot (slots_of count digits') rest in
    ap (listed room (suc count) number) split
    ∙ listed_one room count number (slot ++ l) s l (ap (λ (x : ℕ). eqb x 0) (slot_pattern digits l) ∙ first_pattern fitted count digits p)
    (ap (λ (x : List ℕ). digits_of 3 number ++ x) (digits_back digits (first_fills fitted count digits f) l a))
    (slot_behind digits l)
    ∙ ap (λ (x : List (List ℕ)). cond (leb (length s) room) (s ∷ x) [])
    (listed_sent fitted count (room - length s) (suc number) digits' rest (rest_fills fitted count digits f) (all_drop (length_of digits) digits a) (rest_patterns fitted count digits p)
    ∙ ap (λ (x : List ℕ). fitting (room - length s) (sent count (suc number) x)) (sym (points.behind digits)))

-- a point has at most eight axes
most : (digits : List ℕ) → 2 ≤ length digits → length_of digits ≤ 78
unfolding length_of
most digits h =
    let b : number_of (take 2 digits) < 16 ^ 2 = (inverse 2).bound (take 2 digits) (length-take-le 2 digits h) in
    omega (arith, at_most (number_of (take 2 digits)) (omega arith))

-- one of them, by itself
pub listed_one_sent : (fitted i count number : ℕ) (digits rest : List ℕ) → i < count → fills_of count digits ≡ true → all_digits digits ≡ true → patterns_fit fitted count digits ≡ true
    → listed 1011 1 (number + i) (take 40 (drop (i * 40) (slots_of count digits)) ++ rest) ≡ get_or (sent count number (capitals digits)) i [] ∷ []
unfolding listed sent slots_of
listed_one_sent fitted i zero number digits rest l f a p = absurd (omega arith)
listed_one_sent fitted zero (suc count) number digits rest l f a p =
    let slot = slot_of (point_of digits) in
    let digits' = drop (length_of digits) digits in
    let t = take (length_of (capitals digits)) (capitals digits) in
    let s = digits_of 3 number ++ t in
    let w = first_fills fitted count digits f in
    let long : length t ≡ length_of digits = length-take-le (length_of (capitals digits)) (capitals digits) (omega (arith, w, length_capitals digits, points.same_length digits)) ∙ points.same_length digits in
    let room : leb (length s) 1011 ≡ true = le-leb (length s) 1011 (rw (length-append (digits_of 3 number) t, long) (omega (arith, (inverse 3).as_many number, most digits (omega (arith, w, least digits))))) in
    ap (λ (x : List ℕ). listed 1011 1 (number + 0) (x ++ rest)) (take_at slot (slots_of count digits') 40 (length_point_slot digits))
    ∙ ap (λ (x : ℕ). listed 1011 1 x (slot ++ rest)) (add-zero number)
    ∙ listed_one 1011 0 number (slot ++ rest) s rest (ap (λ (x : ℕ). eqb x 0) (slot_pattern digits rest) ∙ first_pattern fitted count digits p)
    (ap (λ (x : List ℕ). digits_of 3 number ++ x) (digits_back digits w rest a))
    (slot_behind digits rest)
    ∙ rw room
listed_one_sent fitted (suc i) (suc count) number digits rest l f a p =
    let slot = slot_of (point_of digits) in
    let digits' = drop (length_of digits) digits in
    let e : suc i * 40 ≡ 40 + i * 40 = omega arith in
    let n : number + suc i ≡ suc number + i = omega arith in
    let d : drop (suc i * 40) (slot ++ slots_of count digits') ≡ drop (i * 40) (slots_of count digits') =
    ap (λ (x : ℕ). drop x (slot ++ slots_of count digits')) e ∙ sym (drop-drop (i * 40) 40 (slot ++ slots_of count digits')) ∙ ap (drop (i * 40)) (slot_behind digits (slots_of count digits')) in
    ap₂ (λ (x : ℕ) (y : List ℕ). listed 1011 1 x (take 40 y ++ rest)) n d
    ∙ listed_one_sent fitted i count (suc number) digits' rest (omega arith) (rest_fills fitted count digits f) (all_drop (length_of digits) digits a) (rest_patterns fitted count digits p)
    ∙ ap (λ (x : List ℕ). get_or (sent count (suc number) x) i [] ∷ []) (sym (points.behind digits))

-- each point that was sent is effective
pub effective_sent : (fitted count : ℕ) (digits : List ℕ) → patterns_fit fitted count digits ≡ true → effective_in count (slots_of count digits) ≡ count
unfolding effective_in slots_of
effective_sent fitted zero digits p = refl
effective_sent fitted (suc count) digits p =
    let digits' = drop (length_of digits) digits in
    let h = effective_sent fitted count digits' (rest_patterns fitted count digits p) in
    let e : eqb (get_or (slot_of (point_of digits) ++ slots_of count digits') 0 0) 0 ≡ false =
    ap (λ (x : ℕ). eqb x 0) (slot_pattern digits (slots_of count digits')) ∙ first_pattern fitted count digits p in
    rw (e, slot_behind digits (slots_of count digits')) (omega arith)

-- one of them
pub zero_part : (i count : ℕ) → i < count → take 40 (drop (i * 40) (replicate {A = ℕ} (count * 40) 0)) ≡ replicate (1 * 40) 0
zero_part i zero l = absurd (omega arith)
zero_part zero (suc count) l = rw (zero_slots count) refl
zero_part (suc i) (suc count) l =
    let e : suc i * 40 ≡ 40 + i * 40 = omega arith in
    rw (zero_slots count)
    (ap (λ (x : ℕ). take 40 (drop x (replicate 40 0 ++ replicate (count * 40) 0))) e
    ∙ ap (take 40) (sym (drop-drop (i * 40) 40 (replicate 40 0 ++ replicate (count * 40) 0)))
    ∙ zero_part i count (omega arith))

-- none of them is listed
pub listed_zero : (room count number : ℕ) (rest : List ℕ) → listed room count number (replicate (count * 40) 0 ++ rest) ≡ []
unfolding listed
listed_zero room zero number rest = refl
listed_zero room (suc count) number rest = rw (zero_slots count) (listed_zero room count (suc number) rest)
