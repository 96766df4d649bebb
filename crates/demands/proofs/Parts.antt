-- Parts of a list, and of the digits of bytes.
use Prim.Native.Nat.{ℕ, zero, suc, ◌+◌, ◌*◌, ◌≤◌}
use mathlib.Core.Path.{◌≡◌, refl, ap, ◌∙◌}
use mathlib.Core.List.{List, [], ◌∷◌, ◌++◌}
use native.Mathlib.Omega.{arith}
use lib.ListN.{take, drop}
use lib.Seq.{take-nil, drop-nil, take-take}
use Rattle.digits.specs.Digits.{digits_of}
use Rattle.pairs.specs.Pairs.{digits_in}

-- a part of a front is that part of the whole
pub same_part : (n at front : ℕ) (s : List ℕ) → at + n ≤ front → take n (drop at (take front s)) ≡ take n (drop at s)
same_part n zero front s h = take-take n front s (omega arith)
same_part n (suc at) zero s h = absurd (omega arith)
same_part n (suc at) (suc front) [] h = refl
same_part n (suc at) (suc front) (x ∷ s) h = same_part n at front s (omega arith)

-- two digits for each byte: a part of the digits is the digits of that part
digits_take : (n : ℕ) (s : List ℕ) → take (2 * n) (digits_in s) ≡ digits_in (take n s)
digits_take zero s = refl
digits_take (suc n) [] = take-nil (2 * suc n)
digits_take (suc n) (b ∷ s) =
    let e : 2 * suc n ≡ suc (suc (2 * n)) = omega arith in
    ap (λ (k : ℕ). take k (digits_in (b ∷ s))) e ∙ ap (λ (t : List ℕ). digits_of 2 b ++ t) (digits_take n s)

digits_drop : (n : ℕ) (s : List ℕ) → drop (2 * n) (digits_in s) ≡ digits_in (drop n s)
digits_drop zero s = refl
digits_drop (suc n) [] = drop-nil (2 * suc n)
digits_drop (suc n) (b ∷ s) =
    let e : 2 * suc n ≡ suc (suc (2 * n)) = omega arith in
    ap (λ (k : ℕ). drop k (digits_in (b ∷ s))) e ∙ digits_drop n s

pub digits_part : (n at : ℕ) (s : List ℕ) → take (2 * n) (drop (2 * at) (digits_in s)) ≡ digits_in (take n (drop at s))
digits_part n at s = ap (take (2 * n)) (digits_drop at s) ∙ digits_take n (drop at s)
