-- What is known of every kind of a sound board, and of a run of it that is held.
use Prim.Native.Nat.{ℕ, ◌+◌, ◌-◌, ◌*◌, ◌≤◌, ◌<◌}
use mathlib.Core.Path.{◌≡◌, refl, sym, ap, ◌∙◌}
use mathlib.Core.Bool.{true}
use mathlib.Core.List.{List}
use native.Mathlib.Omega.{arith}
use native.Mathlib.Nat.{add-mul, mul-le-mul_right}
use lib.Dec.{leb, eqb}
use lib.ListN.{length, drop, length-drop}
use lib.Seq.{length-take-le}
use borrow.Author.Tests.{leb-true, eqb-true}
use Rattle.digits.proofs.Bools.{either}
use Rattle.digits.proofs.Inverse.{and_left, and_right}
use Rattle.kinds.specs.declared.Kind.{Kind}
use Rattle.kinds.specs.declared.Held.{Held}
use Rattle.kinds.specs.Kinds.{points_tag, columns_tag, integers_tag, flags_tag, points_of, columns_of, integers_of, flags_of, kind_of, Sound, holds, run_of, place_of, size_of}

-- a kind's numbers and its area are small
pub record Sized (k : Kind) : Type 0 where
  pub some_bytes : 0 < k.unit
  pub few_bytes : k.unit ≤ 40
  pub numbers : k.first + k.held ≤ 65536
  pub small : size_of k < 65530

-- what is so of each kind is so of a tag's
pub each_kind :
    (P : Kind → Type 0) (h : Held) (tag : ℕ)
    → (tag ≡ points_tag → P (points_of h)) → (tag ≡ columns_tag → P columns_of) → (tag ≡ integers_tag → P (integers_of h)) → (tag ≡ flags_tag → P (flags_of h))
    → P (record { tag = tag; first = 0; unit = 1; held = 0; most = 0 }) → P (kind_of h tag)
unfolding kind_of
each_kind P h tag points columns integers flags none =
    either P (eqb tag points_tag) (λ e. points (eqb-true _ _ e))
    (λ _. either P (eqb tag columns_tag) (λ e. columns (eqb-true _ _ e))
    (λ _. either P (eqb tag integers_tag) (λ e. integers (eqb-true _ _ e)) (λ _. either P (eqb tag flags_tag) (λ e. flags (eqb-true _ _ e)) (λ _. none))))

pub sized : (h : Held) (tag : ℕ) → Sound h → Sized (kind_of h tag)
sized h tag s =
    each_kind Sized h tag
    (λ _. record { some_bytes = omega arith; few_bytes = omega arith; numbers = omega (arith, s.points); small = omega (arith, s.points) })
    (λ _. record { some_bytes = omega arith; few_bytes = omega arith; numbers = omega arith; small = omega arith })
    (λ _. record { some_bytes = omega arith; few_bytes = omega arith; numbers = omega (arith, s.integers); small = omega arith })
    (λ _. record { some_bytes = omega arith; few_bytes = omega arith; numbers = omega (arith, s.flags); small = omega arith })
    (record { some_bytes = omega arith; few_bytes = omega arith; numbers = omega arith; small = omega arith })

-- an entry of a kind fits into the least journal
pub entry_room : (h : Held) (tag : ℕ) → 5 + (kind_of h tag).most * (kind_of h tag).unit ≤ 40 * h.points + 500
entry_room h tag =
    each_kind (λ (k : Kind). 5 + k.most * k.unit ≤ 40 * h.points + 500) h tag (λ _. omega arith) (λ _. omega arith) (λ _. omega arith)
    (λ _. omega arith) (omega arith)

-- a tag's kind has that tag
pub tag_of : (h : Held) (tag : ℕ) → (kind_of h tag).tag ≡ tag
tag_of h tag = each_kind (λ (k : Kind). k.tag ≡ tag) h tag sym sym sym sym refl

pub own_kind : (h : Held) (tag : ℕ) → kind_of h (kind_of h tag).tag ≡ kind_of h tag
own_kind h tag = ap (kind_of h) (tag_of h tag)

pub kind_points : (h : Held) → kind_of h points_tag ≡ points_of h
unfolding kind_of
kind_points h = refl

-- and a kind that has the tag of points is that of points
pub own_points : (h : Held) (tag : ℕ) → (kind_of h tag).tag ≡ points_tag → kind_of h tag ≡ points_of h
own_points h tag e = ap (kind_of h) (sym (tag_of h tag) ∙ e) ∙ kind_points h

pub kind_columns : (h : Held) → kind_of h columns_tag ≡ columns_of
unfolding kind_of
kind_columns h = refl

pub kind_integers : (h : Held) → kind_of h integers_tag ≡ integers_of h
unfolding kind_of
kind_integers h = refl

pub kind_flags : (h : Held) → kind_of h flags_tag ≡ flags_of h
unfolding kind_of
kind_flags h = refl

module _ (k : Kind) (start count : ℕ) (h : holds k start count ≡ true) where
  pub within : (k.first ≤ start) × (start + count ≤ k.first + k.held)
  unfolding holds
  within = (
    leb-true _ _ (and_left (leb k.first start) (leb (start + count) (k.first + k.held)) h),
    leb-true _ _ (and_right (leb k.first start) (leb (start + count) (k.first + k.held)) h),
  )

  -- no more are named than are held
  pub few : count ≤ k.held
  few = let w = within in omega (arith, w.0, w.1)

  -- a held run lies in its area
  pub room : place_of k start + count * k.unit ≤ size_of k
  room =
      let w = within in
      let e : (start - k.first + count) * k.unit ≡ (start - k.first) * k.unit + count * k.unit = add-mul (start - k.first) count k.unit in
      let f : (start - k.first + count) * k.unit ≤ k.held * k.unit = mul-le-mul_right k.unit (omega (arith, w.0, w.1)) in
      omega arith

  -- and has as many bytes as it should
  pub run_length : (area : List ℕ) → length area ≡ size_of k → length (run_of k start count area) ≡ count * k.unit
  unfolding run_of
  run_length area l =
      length-take-le (count * k.unit) (drop (place_of k start) area) (simp length-drop (omega (arith, room)))
