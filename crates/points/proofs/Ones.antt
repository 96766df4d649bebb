-- A pattern's lowest axis and the others, and how many it has: computed at each byte.
use mathlib.Core.Path.{◌≡◌, refl}
use native.Mathlib.Omega.{arith}
use mathlib.Core.Bool.{Bool, true, false, cond}
use mathlib.Core.List.{List, [], ◌∷◌}
use Prim.Native.Nat.{ℕ, zero, suc, ◌+◌, ◌-◌, ◌/◌, ◌%◌, ◌<◌, ◌≤◌}
use lib.Dec.{T, leb, leb→le, eqb, eqb→eq}
use lib.Bits.{bit_and}
use lib.Count.{count_trailing_zeros, ones}
use lib.ListN.{length}
use Rattle.points.specs.Axes.{axes_from, axes_of}
use Rattle.points.proofs.Below.{every, at, same, same→eq}

-- the trailing zeros are the lowest axis, and without the lowest one the others are left
unfoldable parted : ℕ → Bool
parted x = same (axes_of x) (count_trailing_zeros 8 x ∷ axes_of (bit_and x (x - 1)))

-- at y + 1, so that 0 is left out
unfoldable rule : ℕ → Bool
unfolding parted
rule y = parted (suc y)

computed : T (every rule 255)
unfolding rule parted axes_of axes_from count_trailing_zeros
computed = tt

pub lowest : (x : ℕ) → (x ≡ 0 → ⊥) → x < 256 → axes_of x ≡ count_trailing_zeros 8 x ∷ axes_of (bit_and x (x - 1))
unfolding rule parted
lowest zero n h = absurd (n refl)
lowest (suc y) n h = same→eq _ _ (at rule 255 computed y (omega arith))

-- every axis that is walked to is one of eight
first_of_bits : (k j p : ℕ) {a : ℕ} {axes : List ℕ} → axes_from k j p ≡ a ∷ axes → a < j + k
unfolding axes_from
first_of_bits zero j p e = cc
first_of_bits (suc k) j p {a} {axes} e = go (eqb (p % 2) 1) e (first_of_bits k (suc j) (p / 2))
  where
    go : (b : Bool) → cond b (j ∷ axes_from k (suc j) (p / 2)) (axes_from k (suc j) (p / 2)) ≡ a ∷ axes
        → (axes_from k (suc j) (p / 2) ≡ a ∷ axes → a < suc j + k) → a < j + suc k
    go true f h = let g : j ≡ a = cc in omega arith
    go false f h = omega (arith, h f)

pub first_axis : (p : ℕ) {a : ℕ} {axes : List ℕ} → axes_of p ≡ a ∷ axes → a < 8
unfolding axes_of
first_axis p e = first_of_bits 8 0 p e

short : ℕ → Bool
short x = leb (length (axes_of x)) 8

short_computed : T (every short 256)
unfolding short axes_of axes_from
short_computed = tt

pub at_most : (x : ℕ) → x < 256 → length (axes_of x) ≤ 8
unfolding short
at_most x h = leb→le (length (axes_of x)) 8 (at short 256 short_computed x h)

-- as many as there are one bits
counted : ℕ → Bool
counted x = eqb (length (axes_of x)) (ones x)

counted_computed : T (every counted 256)
unfolding counted axes_of axes_from ones
counted_computed = tt

pub as_many : (x : ℕ) → x < 256 → length (axes_of x) ≡ ones x
unfolding counted
as_many x h = eqb→eq (length (axes_of x)) (ones x) (at counted 256 counted_computed x h)

pub none : axes_of 0 ≡ []
unfolding axes_of axes_from
none = refl
