-- Laws of the bytes that show flags, and a turn of the loop that lays them.
use Prim.Native.Nat.{ℕ, zero, suc, ◌+◌, ◌-◌, ◌*◌, ◌/◌, ◌≤◌, ◌<◌}
use mathlib.Core.Path.{◌≡◌, refl, sym, ap, ◌∙◌}
use mathlib.Core.List.{List, [], ◌∷◌}
use native.Mathlib.Omega.{arith}
use native.Mathlib.Nat.{suc-add, add-sub_cancel_left}
use lib.ListN.{length, take, drop, get_or, drop_of_length-le, length-drop}
use lib.Seq.{drop-nil, drop-drop}
use Rattle.digits.specs.Digits.{digits_of}
use Rattle.digits.specs.Laid.{laid}
use Rattle.digits.proofs.Inverse.{as_many}
use Rattle.digits.proofs.Laid.{laid_on, laid_nothing, part_rest}
use Rattle.pairs.specs.Pairs.{digits_in}
use Rattle.flags.specs.Flags.{bits_of, eights}
use Rattle.flags.proofs.OneByte.{bits_of_part}

-- the byte of a place, where so many flags are still to be passed
pub byte_at : (left place : ℕ) (flags : List ℕ) → get_or (eights left flags) place 0 ≡ bits_of 8 (drop (left + 8 * place) flags)
unfolding eights bits_of
byte_at left place [] = rw drop-nil
byte_at zero zero (flag ∷ flags) = refl
byte_at zero (suc place) (flag ∷ flags) = let e : 0 + 8 * suc place ≡ suc (7 + 8 * place) = omega arith in rw e (byte_at _ place flags)
byte_at (suc left) place (flag ∷ flags) = rw suc-add (byte_at left place flags)

-- a byte for each eight that is begun
pub many_begun : (left : ℕ) (flags : List ℕ) → left ≤ 7 → length (eights left flags) ≡ (length flags + (7 - left)) / 8
unfolding eights
many_begun left [] h = omega arith
many_begun zero (flag ∷ flags) h = let e = many_begun 7 flags (omega arith) in omega arith
many_begun (suc left) (flag ∷ flags) h = let e = many_begun left flags (omega arith) in omega arith

passed : (left : ℕ) (flags : List ℕ) → eights left flags ≡ eights 0 (drop left flags)
unfolding eights
passed zero flags = refl
passed (suc left) [] = refl
passed (suc left) (flag ∷ flags) = passed left flags

first_eight : (flags : List ℕ) → 0 < length flags → eights 0 flags ≡ bits_of 8 flags ∷ eights 0 (drop 8 flags)
unfolding eights
first_eight [] h = absurd (omega arith)
first_eight (flag ∷ flags) h = ap (λ (bytes : List ℕ). bits_of 8 (flag ∷ flags) ∷ bytes) (passed _ flags)

-- the parts that the code reads show what all flags from there on show
module _ (flags : List ℕ) (from : ℕ) where
  pub part_of_eight : bits_of 8 (take (from + 8 - from) (drop from flags)) ≡ bits_of 8 (drop from flags)
  part_of_eight = rw add-sub_cancel_left (bits_of_part 8 (drop from flags))

  pub part_of_rest : bits_of 8 (take (length flags - from) (drop from flags)) ≡ bits_of 8 (drop from flags)
  part_of_rest = rw part_rest

-- the flags from a place on are still to be laid
pub record Left (reply₀ flags : List ℕ) (at from to : ℕ) (reply : List ℕ) : Type 0 where
  pub whole : laid reply to (digits_in (eights 0 (drop from flags))) ≡ laid reply₀ at (digits_in (eights 0 flags))
  pub room : to + 2 * length (eights 0 (drop from flags)) ≤ length reply
  pub long : length reply ≡ length reply₀

pub left_first : (reply flags : List ℕ) (at : ℕ) → at + 2 * length (eights 0 flags) ≤ length reply → Left reply flags at 0 at reply
left_first reply flags at h = record { whole = refl; room = h; long = refl }

module _ {reply₀ flags : List ℕ} {at from to : ℕ} {reply : List ℕ} (left : Left reply₀ flags at from to reply) where
  module _ (more : from < length flags) where
    now : eights 0 (drop from flags) ≡ bits_of 8 (drop from flags) ∷ eights 0 (drop (from + 8) flags)
    now = rw (← drop-drop 8 from flags) (first_eight (drop from flags) (simp length-drop (omega arith)))

    room_now : to + 2 * suc (length (eights 0 (drop (from + 8) flags))) ≤ length reply
    room_now = rw now at left.room

    -- there is room for two digits
    pub left_fits : to + 2 ≤ length reply
    left_fits = omega (arith, room_now)

    pub left_next : {byte : ℕ} {after : List ℕ} → byte ≡ bits_of 8 (drop from flags) → after ≡ laid reply to (digits_of 2 byte)
        → length after ≡ length reply → Left reply₀ flags at (from + 8) (to + 2) after
    left_next {byte} b e l =
        let two : to + length (digits_of 2 byte) ≡ to + 2 = ap (λ (n : ℕ). to + n) (as_many 2 byte) in
        record {
          whole = rw (e, laid_on reply (digits_of 2 byte) _ to (to + 2) two (omega (arith, room_now)), b) (rw now at left.whole);
          room = omega (arith, room_now);
          long = l ∙ left.long;
        }

  pub left_done : length flags ≤ from → reply ≡ laid reply₀ at (digits_in (eights 0 flags))
  unfolding eights
  left_done h =
      let e : drop from flags ≡ [] = drop_of_length-le flags h in
      sym (laid_nothing reply to) ∙ (rw e at left.whole)
