-- Walking over points in their digits.
use Prim.Native.Nat.{ℕ, zero, suc, ◌-◌, ◌≤◌, ◌<◌}
use mathlib.Core.Path.{◌≡◌, refl, sym}
use mathlib.Core.Bool.{Bool, true, false}
use mathlib.Core.List.{List}
use native.Mathlib.Omega.{arith}
use native.Mathlib.Nat.{not-suc-le-zero}
use lib.Dec.{leb, eqb}
use lib.ListN.{length, take, drop, length-drop}
use lib.Seq.{take_all}
use borrow.Author.Tests.{le-leb, lt-leb, leb-true, eqb-true, eqb-false, eq-eqb, ne_eqb}
use Rattle.digits.proofs.Inverse.{and_left}
use Rattle.points.specs.Point.{length_of, fills_of}

-- a point has fourteen digits and eight for each axis
pub least : (digits : List ℕ) → 14 ≤ length_of digits
unfolding length_of
least digits = omega arith

pub fills_next : (left : ℕ) (digits : List ℕ) → 0 < left → length_of digits ≤ length digits → fills_of left digits ≡ fills_of (left - 1) (drop (length_of digits) digits)
unfolding fills_of
fills_next zero digits h k = absurd (not-suc-le-zero h)
fills_next (suc n) digits h k =
    let e : suc n - 1 ≡ n = omega arith in
    rw (le-leb _ _ k, e)

pub fills_stop : (left : ℕ) (digits : List ℕ) → 0 < left → length digits < length_of digits → fills_of left digits ≡ false
unfolding fills_of
fills_stop zero digits h k = absurd (not-suc-le-zero h)
fills_stop (suc n) digits h k = rw (lt-leb _ _ k)

pub fills_done : (left : ℕ) (digits : List ℕ) → left ≡ 0 → fills_of left digits ≡ eqb (length digits) 0
unfolding fills_of
fills_done left digits e = rw e

-- digits that are points start with a whole one
pub fills_front : (left : ℕ) (digits : List ℕ) → 0 < left → fills_of left digits ≡ true → length_of digits ≤ length digits
unfolding fills_of
fills_front zero digits h e = absurd (not-suc-le-zero h)
fills_front (suc n) digits h e = leb-true _ _ (and_left (leb (length_of digits) (length digits)) (fills_of n (drop (length_of digits) digits)) e)

-- what is lent as &digits[at..]
pub rest_of_lem : (at : ℕ) (digits : List ℕ) → take (length digits - at) (drop at digits) ≡ drop at digits
rest_of_lem at digits = take_all (length digits - at) (drop at digits) (simp length-drop (omega arith))

-- the walk ended at the end
pub at_end : (at : ℕ) (digits : List ℕ) → at ≤ length digits → eqb at (length digits) ≡ eqb (length (drop at digits)) 0
at_end at digits h = go (eqb at (length digits)) refl
  where
    n : length (drop at digits) ≡ length digits - at
    n = length-drop at digits

    go : (b : Bool) → eqb at (length digits) ≡ b → b ≡ eqb (length (drop at digits)) 0
    go true e = let k = eqb-true at (length digits) e in sym (eq-eqb (length (drop at digits)) 0 (omega (arith, n)))
    go false e =
        let k = eqb-false at (length digits) e in
        sym (ne_eqb (length (drop at digits)) 0 (λ z. k (omega (arith, n))))
