-- Runs read over a run that was put: a part of it, and what stands before it or behind it.
use Prim.Native.Nat.{ℕ, ◌+◌, ◌-◌, ◌*◌, ◌≤◌}
use mathlib.Core.Path.{◌≡◌, refl, sym, ap, ◌∙◌}
use mathlib.Core.Bool.{Bool, true, false, ◌||◌}
use mathlib.Core.List.{List, ◌++◌}
use native.Mathlib.Nat.{add-mul, mul-le-mul_right}
use native.Mathlib.Omega.{arith}
use lib.Dec.{leb}
use lib.ListN.{length, take, drop, length-drop}
use lib.Seq.{length-take-le, take-append-le, drop-append-le, drop_at, drop-drop}
use borrow.Author.Tests.{leb-true}
use Rattle.digits.specs.Laid.{laid}
use Rattle.kinds.specs.declared.Kind.{Kind}
use Rattle.kinds.specs.Kinds.{holds, size_of, place_of, run_of, put}
use Rattle.kinds.proofs.Known.{within, room}
use Rattle.demands.proofs.Parts.{same_part}

-- bytes laid into an area
module _ (area bytes : List ℕ) (at : ℕ) (fits : at + length bytes ≤ length area) where
  front_long : length (take at area) ≡ at
  front_long = length-take-le at area (omega arith)

  abbrev tail : List ℕ
  tail = drop (at + length bytes) area

  behind_front : (d : ℕ) → drop (at + d) (laid area at bytes) ≡ drop d (bytes ++ tail)
  unfolding laid
  behind_front d =
      sym (drop-drop d at (take at area ++ (bytes ++ tail))) ∙ ap (drop d) (drop_at (take at area) (bytes ++ tail) at front_long)

  -- a part of what was laid
  laid_in : (d n : ℕ) → d + n ≤ length bytes → take n (drop (at + d) (laid area at bytes)) ≡ take n (drop d bytes)
  laid_in d n h =
      ap (take n) (behind_front d ∙ drop-append-le d bytes tail (omega arith)) ∙ take-append-le n (drop d bytes) tail (simp length-drop (omega arith))

  -- what stands before it
  laid_before : (q n : ℕ) → q + n ≤ at → take n (drop q (laid area at bytes)) ≡ take n (drop q area)
  unfolding laid
  laid_before q n h =
      ap (take n) (drop-append-le q (take at area) (bytes ++ tail) (omega (arith, front_long)))
      ∙ take-append-le n (drop q (take at area)) (bytes ++ tail) (simp length-drop (omega (arith, front_long)))
      ∙ same_part n q at area h

  -- what stands behind it
  laid_behind : (q : ℕ) → at + length bytes ≤ q → drop q (laid area at bytes) ≡ drop q area
  laid_behind q h =
      let r : ℕ = q - (at + length bytes) in
      let e : q ≡ at + (length bytes + r) = omega arith in
      let f : at + length bytes + r ≡ q = omega arith in
      ap (λ (x : ℕ). drop x (laid area at bytes)) e
      ∙ behind_front (length bytes + r)
      ∙ sym (drop-drop r (length bytes) (bytes ++ tail))
      ∙ ap (drop r) (drop_at bytes tail (length bytes) refl)
      ∙ drop-drop r (at + length bytes) area
      ∙ ap (λ (x : ℕ). drop x area) f

-- a run that is held, put into the area of its kind
module _ (k : Kind) (start count : ℕ) (bytes area : List ℕ) (h : holds k start count ≡ true) (l : length area ≡ size_of k) (e : length bytes ≡ count * k.unit) where
  fits : place_of k start + length bytes ≤ length area
  fits = omega (arith, room k start count h)

  first_held : k.first ≤ start
  first_held = (within k start count h).0

  module _ (number many : ℕ) where
    -- numbers of it are read as their part of it
    pub put_in_lem : start ≤ number → number + many ≤ start + count
        → run_of k number many (put k start bytes area) ≡ take (many * k.unit) (drop ((number - start) * k.unit) bytes)
    unfolding run_of put
    put_in_lem s t =
        let n : number - k.first ≡ start - k.first + (number - start) = omega (arith, first_held) in
        let p : place_of k number ≡ place_of k start + (number - start) * k.unit = ap (λ (x : ℕ). x * k.unit) n ∙ add-mul (start - k.first) (number - start) k.unit in
        let m : (number - start + many) * k.unit ≤ count * k.unit = mul-le-mul_right k.unit (omega arith) in
        ap (λ (x : ℕ). take (many * k.unit) (drop x (laid area (place_of k start) bytes))) p
        ∙ laid_in area bytes (place_of k start) fits ((number - start) * k.unit) (many * k.unit) (omega (arith, m, add-mul (number - start) many k.unit))

    put_before : k.first ≤ number → number + many ≤ start → run_of k number many (put k start bytes area) ≡ run_of k number many area
    unfolding run_of put
    put_before f t =
        let m : (number - k.first + many) * k.unit ≤ (start - k.first) * k.unit = mul-le-mul_right k.unit (omega arith) in
        laid_before area bytes (place_of k start) fits (place_of k number) (many * k.unit) (omega (arith, m, add-mul (number - k.first) many k.unit))

    put_behind : start + count ≤ number → run_of k number many (put k start bytes area) ≡ run_of k number many area
    unfolding run_of put
    put_behind t =
        let m : (start - k.first + count) * k.unit ≤ (number - k.first) * k.unit = mul-le-mul_right k.unit (omega (arith, first_held)) in
        ap (take (many * k.unit)) (laid_behind area bytes (place_of k start) fits (place_of k number) (omega (arith, m, add-mul (start - k.first) count k.unit)))

    -- numbers before it or behind it are read as they were
    pub put_apart : k.first ≤ number → (leb (start + count) number || leb (number + many) start) ≡ true
        → run_of k number many (put k start bytes area) ≡ run_of k number many area
    put_apart f q = go (leb (start + count) number) refl q
      where
        go : (b : Bool) → leb (start + count) number ≡ b → (b || leb (number + many) start) ≡ true
            → run_of k number many (put k start bytes area) ≡ run_of k number many area
        go true p q = put_behind (leb-true _ _ p)
        go false p q = put_before f (leb-true _ _ q)

-- a run within a run
pub run_in : (k : Kind) (start count number many : ℕ) (area : List ℕ) → k.first ≤ start → start ≤ number → number + many ≤ start + count
    → take (many * k.unit) (drop ((number - start) * k.unit) (run_of k start count area)) ≡ run_of k number many area
unfolding run_of
run_in k start count number many area f s t =
    let n : start - k.first + (number - start) ≡ number - k.first = omega arith in
    let p : place_of k start + (number - start) * k.unit ≡ place_of k number = sym (add-mul (start - k.first) (number - start) k.unit) ∙ ap (λ (x : ℕ). x * k.unit) n in
    let m : (number - start + many) * k.unit ≤ count * k.unit = mul-le-mul_right k.unit (omega arith) in
    same_part (many * k.unit) ((number - start) * k.unit) (count * k.unit) (drop (place_of k start) area) (omega (arith, m, add-mul (number - start) many k.unit))
    ∙ ap (take (many * k.unit)) (drop-drop ((number - start) * k.unit) (place_of k start) area ∙ ap (λ (x : ℕ). drop x area) p)
