-- Laws of flags as the bits of a number, and a turn of the loop that reads them from the last one on.
use Prim.Native.Nat.{ℕ, zero, suc, ◌+◌, ◌-◌, ◌*◌, ◌/◌, ◌%◌, ◌≤◌, ◌<◌, ◌^◌}
use mathlib.Core.Path.{◌≡◌, refl, sym, ◌∙◌}
use mathlib.Core.List.{List, [], ◌∷◌}
use native.Mathlib.Omega.{arith}
use native.Mathlib.Nat.{not-suc-le-zero, le_of_suc-le-suc, pow-succ', pow-le-pow_right, zero-div, zero-mod, div-div-eq-div-mul}
use lib.Dec.{eqb}
use lib.ListN.{length, take, drop, get_or, drop_of_length-le}
use lib.Seq.{drop-cons}
use Rattle.digits.proofs.Bools.{either}
use Rattle.flags.specs.Flags.{on_of, bits_of}

module _ (flag : ℕ) where
  one_bit : on_of flag ≤ 1
  one_bit = either (λ (on : ℕ). on ≤ 1) (eqb flag 0) (λ e. omega arith) (λ e. omega arith)

no_flags : (many : ℕ) → bits_of many [] ≡ 0
unfolding bits_of
no_flags zero = refl
no_flags (suc many) = refl

bits_below : (many : ℕ) (flags : List ℕ) → bits_of many flags < 2 ^ many
unfolding bits_of
bits_below zero flags = omega arith
bits_below (suc many) [] = omega (arith, bits_below many [], pow-succ' 2 many)
bits_below (suc many) (flag ∷ flags) = omega (arith, one_bit flag, bits_below many flags, pow-succ' 2 many)

-- flags beyond those that are shown say nothing
pub bits_of_part : (many : ℕ) (flags : List ℕ) → bits_of many (take many flags) ≡ bits_of many flags
unfolding bits_of
bits_of_part zero flags = refl
bits_of_part (suc many) [] = refl
bits_of_part (suc many) (flag ∷ flags) = rw (bits_of_part many flags)

-- each flag is the bit of its place
pub bit_of : (many place : ℕ) (flags : List ℕ) → place < many → bits_of many flags / 2 ^ place % 2 ≡ on_of (get_or flags place 0)
unfolding bits_of
bit_of zero place flags h = absurd (not-suc-le-zero h)
bit_of (suc many) place [] h = rw (zero-div, zero-mod)
bit_of (suc many) zero (flag ∷ flags) h = omega (arith, one_bit flag)
bit_of (suc many) (suc place) (flag ∷ flags) h =
    let n = bits_of many flags in
    let half : (on_of flag + 2 * n) / 2 ≡ n = omega (arith, one_bit flag) in
    rw (pow-succ' 2 place, ← div-div-eq-div-mul, half) (bit_of many place flags (le_of_suc-le-suc h))

-- the flags from i on are in the byte
pub record Read (flags : List ℕ) (byte i : ℕ) : Type 0 where
  pub most : i ≤ length flags
  pub is : byte ≡ bits_of (8 - i) (drop i flags)

pub read_first : (flags : List ℕ) → Read flags 0 (length flags)
read_first flags = record { most = omega arith; is = rw (drop_of_length-le flags {i = length flags} (omega arith)) (sym (no_flags _)) }

module _ {flags : List ℕ} {byte i : ℕ} (r : Read flags byte i) (some : 0 < i) where
  -- so there is room for a bit more
  pub read_fits : byte < 128
  read_fits = omega (arith, r.is, bits_below (8 - i) (drop i flags), pow-le-pow_right {n = 2} (omega arith) {i = 8 - i} {j = 7} (omega arith))

  pub read_next : (next : ℕ) → length flags ≤ 8 → next ≡ on_of (get_or flags (i - 1) 0) + 2 * byte → Read flags next (i - 1)
  unfolding bits_of
  read_next next most e =
      let p : 8 - (i - 1) ≡ suc (8 - i) = omega (arith, r.most) in
      let q : suc (i - 1) ≡ i = omega arith in
      record { most = omega (arith, r.most); is = e ∙ rw (p, drop-cons flags (i - 1) 0 (omega (arith, r.most)), q, r.is) }
