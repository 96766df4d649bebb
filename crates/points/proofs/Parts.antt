-- Parts of digits are digits.
use Prim.Native.Nat.{ℕ}
use mathlib.Core.Path.{◌≡◌, ap, ◌∙◌}
use mathlib.Core.Bool.{true}
use mathlib.Core.List.{List}
use lib.ListN.{take, drop, take-append-drop}
use Rattle.digits.specs.Digits.{all_digits}
use Rattle.digits.proofs.Inverse.{all_left, all_right}

pub all_take : (n : ℕ) (s : List ℕ) → all_digits s ≡ true → all_digits (take n s) ≡ true
all_take n s a = all_left (take n s) (drop n s) (ap all_digits (take-append-drop n s) ∙ a)

pub all_drop : (n : ℕ) (s : List ℕ) → all_digits s ≡ true → all_digits (drop n s) ≡ true
all_drop n s a = all_right (take n s) (drop n s) (ap all_digits (take-append-drop n s) ∙ a)

pub all_part : (n at : ℕ) (s : List ℕ) → all_digits s ≡ true → all_digits (take n (drop at s)) ≡ true
all_part n at s a = all_take n (drop at s) (all_drop at s a)
