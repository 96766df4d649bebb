-- Looking for the first place where a byte stands and a test of the bytes from it on holds, from one such byte to the next: CR LF, and a '!' that isn't
-- skipped.
use Prim.Native.Nat.{ℕ, suc, ◌+◌, ◌-◌, ◌≤◌, ◌<◌}
use mathlib.Core.Path.{◌≡◌, refl, sym, ap, ap₂, ◌∙◌, subst}
use mathlib.Core.Bool.{Bool, true, false, cond, not, ◌&&◌}
use mathlib.Core.List.{List, [], ◌∷◌}
use native.Mathlib.Omega.{arith}
use native.Mathlib.Numerals.{add-one}
use native.Mathlib.Nat.{zero-add}
use lib.ListN.{length, take, drop, get_or, drop_of_length-le, length-drop}
use lib.Seq.{drop-cons, drop-drop, take_all, get_or-drop}
use lib.Dec.{eqb}
use borrow.Author.Tests.{eq-eqb, ne_eqb, eqb-true}
use Rattle.frames.specs.Frame.{command, CR, LF}
use Rattle.frames.proofs.Bools.{and_false}
use Rattle.finder.specs.Find.{place_of, pair_first, pair_of, skipped, skip_of}
use Rattle.finder.proofs.Blocks.{place_within}

-- what stands from a place on, as the code lends it
pub rest_is : (s : List ℕ) (k : ℕ) → take (length s - k) (drop k s) ≡ drop k s
rest_is s k = take_all (length s - k) (drop k s) (simp length-drop (omega arith))

-- from a place on, as the code looks on: within, and the place is what the search had left
pub place_on : (b : ℕ) (s : List ℕ) (i r : ℕ) → i ≤ length s → r ≡ place_of b (take (length s - i) (drop i s)) → (i + r ≤ length s) × (r ≡ place_of b (drop i s))
place_on b s i r h e =
    let f : r ≡ place_of b (drop i s) = e ∙ ap (place_of b) (rest_is s i) in
    (omega (arith, f, simp length-drop at (place_within b (drop i s)), h), f)

-- short of the length the byte stands there
pub stands_there : (b : ℕ) (s : List ℕ) → place_of b s < length s → get_or s (place_of b s) 0 ≡ b
stands_there b [] h = absurd (omega arith)
stands_there b (x ∷ s) h = go (eqb x b) refl h (stands_there b s)
  where
    go : (t : Bool) → eqb x b ≡ t → cond t 0 (suc (place_of b s)) < suc (length s) → (place_of b s < length s → get_or s (place_of b s) 0 ≡ b)
        → get_or (x ∷ s) (cond t 0 (suc (place_of b s))) 0 ≡ b
    go true e h ih = eqb-true x b e
    go false e h ih = ih (omega arith)

module _ (b : ℕ) (test : List ℕ → Bool) where
  abbrev pub first_of : List ℕ → ℕ
  first_of [] = 0
  first_of (x ∷ s) = cond (eqb x b && test (x ∷ s)) 0 (suc (first_of s))

  -- none before the byte's first place
  from_first : (s : List ℕ) → place_of b s + first_of (drop (place_of b s) s) ≡ first_of s
  from_first [] = refl
  from_first (x ∷ s) = go (eqb x b) refl (from_first s)
    where
      go : (t : Bool) → eqb x b ≡ t → place_of b s + first_of (drop (place_of b s) s) ≡ first_of s
          → cond t 0 (suc (place_of b s)) + first_of (drop (cond t 0 (suc (place_of b s))) (x ∷ s)) ≡ first_of (x ∷ s)
      go true e ih = zero-add _
      go false e ih = rw e (omega arith)

  -- at a place: the test holds of the byte there, or it doesn't
  holds_here : (s : List ℕ) (i : ℕ) → i < length s → get_or s i 0 ≡ b → test (drop i s) ≡ true → first_of (drop i s) ≡ 0
  holds_here s i h e t = rw (drop-cons s i 0 h, eq-eqb _ _ e) (rw (← drop-cons s i 0 h, t))

  fails_here : (s : List ℕ) (i : ℕ) → i < length s → test (drop i s) ≡ false → first_of (drop i s) ≡ suc (first_of (drop (suc i) s))
  fails_here s i h t =
      let q : first_of (drop i s) ≡ cond (eqb (get_or s i 0) b && test (drop i s)) 0 (suc (first_of (drop (suc i) s))) = rw (drop-cons s i 0 h) in
      q ∙ rw (t, and_false (eqb (get_or s i 0) b))

-- where such a search stands: none before it, and the byte there, or the end
pub record Mark (b : ℕ) (test : List ℕ → Bool) (s : List ℕ) (k : ℕ) : Type 0 where
  pub at_most : k ≤ length s
  pub so_far : k + first_of b test (drop k s) ≡ first_of b test s
  pub stands : k < length s → get_or s k 0 ≡ b

module _ {b : ℕ} {test : List ℕ → Bool} {s : List ℕ} where
  module _ {k : ℕ} (m : Mark b test s k) where
    -- at the end none is left
    pub none : length s ≤ k → length s ≡ first_of b test s
    none h = let q : first_of b test (drop k s) ≡ 0 = rw (drop_of_length-le s h) in omega (arith, m.at_most, m.so_far)

    pub found : k < length s → test (drop k s) ≡ true → k ≡ first_of b test s
    found h t = omega (arith, m.so_far, holds_here b test s k h (m.stands h) t)

    pub missed : k < length s → test (drop k s) ≡ false → (k + 1) + first_of b test (drop (k + 1) s) ≡ first_of b test s
    missed h t = rw add-one (omega (arith, m.so_far, fails_here b test s k h t))

  -- a turn: from a place on, up to the byte's next place
  pub turn : (at r : ℕ) → at ≤ length s → at + first_of b test (drop at s) ≡ first_of b test s → r ≡ place_of b (take (length s - at) (drop at s))
      → Mark b test s (at + r)
  turn at r l so_far next =
      let (w, e) = place_on b s at r l next in
      let q = rw (← e, drop-drop r at s) at (from_first b test (drop at s)) in
      record {
        at_most = omega (arith, e, w, l);
        so_far = omega (arith, so_far, q);
        stands = λ k.
            let n : r < length (drop at s) = simp length-drop (omega arith) in
            sym (get_or-drop at s r 0) ∙ ap (λ (i : ℕ). get_or (drop at s) i 0) e ∙ stands_there b (drop at s) (omega (arith, e, n));
      }

  -- and from the start
  pub begun : (r : ℕ) → r ≡ place_of b s → Mark b test s r
  begun r e = subst (Mark b test s) (zero-add r) (turn 0 r (omega arith) (zero-add (first_of b test s)) (e ∙ ap (place_of b) (sym (rest_is s 0))))

-- no pair at the front without CR
pub not_CR : (x : ℕ) (t : List ℕ) → (x ≡ CR → ⊥) → pair_first (x ∷ t) ≡ false
not_CR x [] n = refl
not_CR x (y ∷ t) n = rw (ne_eqb x CR n)

-- CR LF begins with CR
pair_first_lem : (x : ℕ) (s : List ℕ) → pair_first (x ∷ s) ≡ eqb x CR && pair_first (x ∷ s)
pair_first_lem x [] = sym (and_false (eqb x CR))
pair_first_lem x (y ∷ s) = go (eqb x CR)
  where
    go : (t : Bool) → t && eqb y LF ≡ t && (t && eqb y LF)
    go true = refl
    go false = refl

pub pair_is : (s : List ℕ) → pair_of s ≡ first_of CR pair_first s
pair_is [] = refl
pair_is (x ∷ s) = ap₂ (λ (t : Bool) (k : ℕ). cond t 0 (suc k)) (pair_first_lem x s) (pair_is s)

abbrev pub stays : List ℕ → Bool
stays bytes = not (skipped bytes)

pub skip_is : (s : List ℕ) → skip_of s ≡ first_of command stays s
skip_is [] = refl
skip_is (x ∷ s) = ap (λ (k : ℕ). cond (eqb x command && stays (x ∷ s)) 0 (suc k)) (skip_is s)

pub stays_by : (s : List ℕ) (k : ℕ) {b : Bool} → skipped (take (length s - k) (drop k s)) ≡ b → stays (drop k s) ≡ not b
stays_by s k e = ap not (ap skipped (sym (rest_is s k)) ∙ e)
