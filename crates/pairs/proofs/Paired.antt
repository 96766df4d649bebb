-- Laws of pairs of digits and their bytes.
use Prim.Native.Nat.{ℕ, zero, suc, ◌+◌, ◌*◌, ◌<◌}
use mathlib.Core.Path.{◌≡◌, refl, sym, ap, ap₂, ◌∙◌}
use mathlib.Core.Bool.{true}
use mathlib.Core.List.{List, [], ◌∷◌, ◌++◌, append_assoc}
use native.Mathlib.Omega.{arith}
use native.Mathlib.Nat.{not-suc-le-zero, le_of_suc-le-suc}
use native.Mathlib.Numerals.{add-one}
use lib.ListN.{length, take, get_or}
use lib.Seq.{take-suc}
use Rattle.digits.specs.Digits.{admits, worth_of, capitals, all_digits, digits_of}
use Rattle.digits.proofs.Inverse.{inverse, rules, and_left, and_right}
use Rattle.pairs.specs.Pairs.{bytes_in, digits_in}

pub length_bytes_in : (k : ℕ) (s : List ℕ) → length s ≡ 2 * k → length (bytes_in s) ≡ k
length_bytes_in zero [] e = refl
length_bytes_in zero (a ∷ s) e = absurd (omega arith)
length_bytes_in (suc k) [] e = absurd (omega arith)
length_bytes_in (suc k) (a ∷ []) e = absurd (omega arith)
length_bytes_in (suc k) (a ∷ b ∷ s) e = ap suc (length_bytes_in k s (omega arith))

-- the byte of the i-th pair
pub byte_at : (k : ℕ) (s : List ℕ) (i : ℕ) → length s ≡ 2 * k → i < k → get_or (bytes_in s) i 0 ≡ worth_of (get_or s (2 * i) 0) * 16 + worth_of (get_or s (2 * i + 1) 0)
byte_at zero s i e h = absurd (not-suc-le-zero h)
byte_at (suc k) [] i e h = absurd (omega arith)
byte_at (suc k) (a ∷ []) i e h = absurd (omega arith)
byte_at (suc k) (a ∷ b ∷ s) zero e h = omega arith
byte_at (suc k) (a ∷ b ∷ s) (suc i) e h =
    let p : 2 * suc i ≡ suc (suc (2 * i)) = omega arith in
    let q : 2 * suc i + 1 ≡ suc (suc (2 * i + 1)) = omega arith in
    rw (q, p) (byte_at k s i (omega arith) (le_of_suc-le-suc h))

pub digits_in_append : (s t : List ℕ) → digits_in (s ++ t) ≡ digits_in s ++ digits_in t
digits_in_append [] t = refl
digits_in_append (b ∷ s) t = ap (λ (r : List ℕ). digits_of 2 b ++ r) (digits_in_append s t) ∙ sym (append_assoc (digits_of 2 b) (digits_in s) (digits_in t))

pub length_digits_in : (s : List ℕ) → length (digits_in s) ≡ 2 * length s
length_digits_in [] = refl
length_digits_in (b ∷ s) = let h = length_digits_in s in omega arith

pub digits_in_more : (s : List ℕ) (i : ℕ) → i < length s → digits_in (take (i + 1) s) ≡ digits_in (take i s) ++ digits_of 2 (get_or s i 0)
digits_in_more s i h = rw (add-one, take-suc s i 0 h, digits_in_append)

-- pairs of digits, as bytes and back, are the very digits in capitals
pub digits_back : (k : ℕ) (s : List ℕ) → length s ≡ 2 * k → all_digits s ≡ true → digits_in (bytes_in s) ≡ capitals s
digits_back zero [] e a = refl
digits_back zero (x ∷ s) e a = absurd (omega arith)
digits_back (suc k) [] e a = absurd (omega arith)
digits_back (suc k) (x ∷ []) e a = absurd (omega arith)
digits_back (suc k) (x ∷ y ∷ s) e a =
    let b = and_right (admits 2 x) (all_digits (y ∷ s)) a in
    let t = and_right (admits 2 y) (all_digits s) b in
    ap₂ (λ (p r : List ℕ). p ++ r) ((inverse 2).digits_of_value (x ∷ y ∷ []) refl (rw (and_left (admits 2 x) (all_digits (y ∷ s)) a, and_left (admits 2 y) (all_digits s) b))) (digits_back k s (omega arith) t)

-- capitals make the same bytes
pub same_bytes : (s : List ℕ) → bytes_in (capitals s) ≡ bytes_in s
same_bytes [] = refl
same_bytes (x ∷ []) = refl
same_bytes (x ∷ y ∷ s) = ap₂ (λ (n : ℕ) (r : List ℕ). n ∷ r) (rules (x ∷ y ∷ [])).same_number (same_bytes s)
