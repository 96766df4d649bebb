-- The walk over points that looks at their patterns.
use Prim.Native.Nat.{ℕ, zero, suc, ◌-◌, ◌<◌}
use mathlib.Core.Path.{◌≡◌}
use mathlib.Core.Bool.{true, false}
use mathlib.Core.List.{List}
use native.Mathlib.Omega.{arith}
use native.Mathlib.Nat.{not-suc-le-zero}
use lib.ListN.{take, drop}
use Rattle.digits.specs.Digits.{number_of}
use Rattle.points.specs.Point.{length_of}
use Rattle.table.specs.Table.{pattern_fits, patterns_fit}

pub patterns_next : (fitted left : ℕ) (digits : List ℕ) → 0 < left → pattern_fits fitted (number_of (take 2 digits)) ≡ true
    → patterns_fit fitted left digits ≡ patterns_fit fitted (left - 1) (drop (length_of digits) digits)
unfolding patterns_fit
patterns_next fitted zero digits h e = absurd (not-suc-le-zero h)
patterns_next fitted (suc n) digits h e = let m : suc n - 1 ≡ n = omega arith in rw (e, m)

pub patterns_stop : (fitted left : ℕ) (digits : List ℕ) → 0 < left → pattern_fits fitted (number_of (take 2 digits)) ≡ false → patterns_fit fitted left digits ≡ false
unfolding patterns_fit
patterns_stop fitted zero digits h e = absurd (not-suc-le-zero h)
patterns_stop fitted (suc n) digits h e = rw e

pub patterns_done : (fitted left : ℕ) (digits : List ℕ) → left ≡ 0 → patterns_fit fitted left digits ≡ true
unfolding patterns_fit
patterns_done fitted left digits e = rw e
