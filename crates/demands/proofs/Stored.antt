-- 24CH: each integer stands in its area as the number that its eight digits write.
use Prim.Native.Nat.{ℕ, zero, suc, ◌+◌, ◌-◌, ◌*◌, ◌<◌}
use mathlib.Core.Path.{◌≡◌, refl, sym, ap, ap₂, ◌∙◌}
use mathlib.Core.Bool.{true}
use mathlib.Core.List.{List, [], ◌∷◌}
use native.Mathlib.Omega.{arith}
use lib.ListN.{length, take, drop, length-drop}
use lib.Seq.{length-take-le, get_or-take, get_or-drop, drop-nil}
use borrow.Author.Tests.{eqb-true}
use Rattle.digits.specs.Digits.{number_of}
use Rattle.areas.specs.Bytes.{four_at}
use Rattle.kinds.specs.declared.Kind.{Kind}
use Rattle.kinds.specs.Kinds.{integers_tag, held_in, place_of, run_of}
use Rattle.kinds.proofs.Known.{kind_integers}
use Rattle.pairs.specs.Pairs.{bytes_in}
use Rattle.pairs.proofs.Promised.{high_first}
use Rattle.table.specs.declared.Message.{Message}
use Rattle.calls.specs.Calls.{Areas, Sent, lengths_of}
use Rattle.demands.specs.Reading.{start_of, count_of, rest_of, untouched, kind_in, IntegersStored}
use Rattle.demands.proofs.Commands.{changing_integers}
use Rattle.demands.proofs.Kept.{Standing}

-- a part of the bytes of pairs is the bytes of that part of the pairs
bytes_drop : (at : ℕ) (s : List ℕ) → drop at (bytes_in s) ≡ bytes_in (drop (2 * at) s)
bytes_drop zero s = refl
bytes_drop (suc at) [] = ap bytes_in (sym (drop-nil (2 * suc at)))
bytes_drop (suc at) (a ∷ []) = let e : 2 * suc at ≡ suc (suc (2 * at)) = omega arith in rw (e, drop-nil)
bytes_drop (suc at) (a ∷ b ∷ s) = let e : 2 * suc at ≡ suc (suc (2 * at)) = omega arith in rw e (bytes_drop at s)

bytes_take : (n : ℕ) (s : List ℕ) → take n (bytes_in s) ≡ bytes_in (take (2 * n) s)
bytes_take zero s = refl
bytes_take (suc n) [] = let e : 2 * suc n ≡ suc (suc (2 * n)) = omega arith in rw e
bytes_take (suc n) (a ∷ []) = let e : 2 * suc n ≡ suc (suc (2 * n)) = omega arith in rw e
bytes_take (suc n) (a ∷ b ∷ s) = let e : 2 * suc n ≡ suc (suc (2 * n)) = omega arith in rw e (ap (λ (x : List ℕ). number_of (a ∷ b ∷ []) ∷ x) (bytes_take n s))

-- the number at a place is that of the four bytes there
four_there : (s : List ℕ) (at : ℕ) → four_at (take 4 (drop at s)) 0 ≡ four_at s at
four_there s at =
    let z : at + 0 ≡ at = omega arith in
    rw (
      get_or-take 4 (drop at s) 0 0 (omega arith),
      get_or-take 4 (drop at s) 1 0 (omega arith),
      get_or-take 4 (drop at s) 2 0 (omega arith),
      get_or-take 4 (drop at s) 3 0 (omega arith),
      get_or-drop at s 0 0,
      get_or-drop at s 1 0,
      get_or-drop at s 2 0,
      get_or-drop at s 3 0,
      z,
    )

module _ {a : Areas} {s : Sent} {later : List Sent} (t : Standing (held_in (lengths_of a)) a changing_integers s later) where
  abbrev m : Message
  m = changing_integers

  -- the four bytes of an integer
  four_bytes : (i : ℕ) → i < count_of m s → untouched integers_tag (start_of m s + i) 1 later ≡ true
      → take 4 (drop (place_of (kind_in integers_tag a) (start_of m s + i)) a.integers) ≡ bytes_in (take 8 (drop (8 * i) (rest_of m s)))
  unfolding run_of
  four_bytes i h u =
      let k = kind_in integers_tag a in
      let unit : k.unit ≡ 4 = ap (λ (x : Kind). x.unit) (kind_integers (held_in (lengths_of a))) in
      let p : 1 * k.unit ≡ 4 = rw unit in
      let q : (start_of m s + i - start_of m s) * k.unit ≡ 4 * i = rw unit (omega arith) in
      let r : 2 * (4 * i) ≡ 8 * i = omega arith in
      ap (λ (x : ℕ). take x (drop (place_of k (start_of m s + i)) a.integers)) (sym p)
      ∙ t.kept refl (start_of m s + i) 1 (omega arith) (omega arith) u
      ∙ ap₂ (λ (x y : ℕ). take x (drop y (bytes_in (rest_of m s)))) p q
      ∙ ap (take 4) (bytes_drop (4 * i) (rest_of m s))
      ∙ bytes_take 4 (drop (2 * (4 * i)) (rest_of m s))
      ∙ ap (λ (x : ℕ). bytes_in (take 8 (drop x (rest_of m s)))) r

  pub integers_stored : IntegersStored a m s later
  integers_stored i h u =
      let k = kind_in integers_tag a in
      let unit : k.unit ≡ 4 = ap (λ (x : Kind). x.unit) (kind_integers (held_in (lengths_of a))) in
      let d : length (rest_of m s) ≡ 2 * (count_of m s * k.unit) = eqb-true _ _ t.ordered.assured.follows in
      let n : length (rest_of m s) ≡ 8 * count_of m s = d ∙ rw unit (omega arith) in
      let l : length (take 8 (drop (8 * i) (rest_of m s))) ≡ 8 = length-take-le 8 (drop (8 * i) (rest_of m s)) (omega (arith, length-drop (8 * i) (rest_of m s), h, n)) in
      sym (four_there a.integers (place_of k (start_of m s + i))) ∙ ap (λ (x : List ℕ). four_at x 0) (four_bytes i h u)
      ∙ high_first (take 8 (drop (8 * i) (rest_of m s))) l
