-- Looking for a byte, block by block and byte by byte.
use Prim.Native.Nat.compare
use Prim.Native.Nat.{ℕ, suc, ◌+◌, ◌≤◌, ◌<◌}
use mathlib.Core.Path.{◌≡◌, refl, sym, ap, ◌∙◌}
use mathlib.Core.Bool.{Bool, true, false, cond, ◌||◌}
use mathlib.Core.List.{List, [], ◌∷◌, ◌++◌}
use native.Mathlib.Omega.{arith}
use lib.ListN.{length, take, drop, length-drop, length-append}
use lib.Seq.{drop-drop, length-take-le}
use lib.Dec.{ltb, eqb}
use borrow.Author.Tests.{lt-ltb, ltb-true, ltb-false}
use Rattle.std.proofs.Common.{Some, None, take-append-drop}
use Rattle.std.proofs.Math.Seq.{drop-append_seam}
use Rattle.std.specs.List.{list_any, position, position_or_len}
use Rattle.std.specs.Option.{unwrap_or}
use Rattle.std.proofs.lemmas.List.Recursion.{is_position_or_len}
use Rattle.finder.specs.Find.{place_of}

-- a byte stands in these bytes
abbrev pub stands : ℕ → List ℕ → Bool
stands b s = ltb (place_of b s) (length s)

-- the place is the length at most
pub place_within : (b : ℕ) (s : List ℕ) → place_of b s ≤ length s
place_within b [] = omega arith
place_within b (x ∷ s) = go (eqb x b) (place_within b s)
  where
    go : (t : Bool) → place_of b s ≤ length s → cond t 0 (suc (place_of b s)) ≤ suc (length s)
    go true ih = omega arith
    go false ih = omega arith

-- a look at each byte says whether it stands among them
pub looked : (b : ℕ) (s : List ℕ) → list_any (λ x. eqb x b) s ≡ stands b s
looked b [] = refl
looked b (x ∷ s) = ap (λ (t : Bool). eqb x b || t) (looked b s) ∙ first (eqb x b)
  where
    first : (t : Bool) → t || stands b s ≡ ltb (cond t 0 (suc (place_of b s))) (suc (length s))
    first true = sym (lt-ltb 0 (suc (length s)) (omega arith))
    first false = rw compare.suc-suc

-- where it first stands, as `position` says it
at_place : (b : ℕ) (s : List ℕ) → position (λ x. eqb x b) s ≡ cond (stands b s) (Some (place_of b s)) None
at_place b s =
    let p : place_of b s ≡ position_or_len (λ x. eqb x b) s = is_position_or_len (place_of b) (λ x. eqb x b) refl (λ x r. ap (λ k. cond (eqb x b) 0 k) (omega arith)) s in
    ap (λ k. cond (ltb k (length s)) (Some k) None) (sym p)

pub by_position : (b : ℕ) (s : List ℕ) → unwrap_or (position (λ x. eqb x b) s) (length s) ≡ place_of b s
by_position b s = ap (λ o. unwrap_or o (length s)) (at_place b s) ∙ choose (stands b s) refl
  where
    choose : (t : Bool) → stands b s ≡ t → unwrap_or (cond t (Some (place_of b s)) None) (length s) ≡ place_of b s
    choose true e = refl
    choose false e = omega (arith, ltb-false _ _ e, place_within b s)

-- it stands in the first bytes, or they are passed
pub in_front : (b : ℕ) (x t : List ℕ) → place_of b x < length x → place_of b (x ++ t) ≡ place_of b x
in_front b [] t h = absurd (omega arith)
in_front b (y ∷ x) t h = go (eqb y b) h (in_front b x t)
  where
    go : (q : Bool) → cond q 0 (suc (place_of b x)) < suc (length x) → (place_of b x < length x → place_of b (x ++ t) ≡ place_of b x)
        → cond q 0 (suc (place_of b (x ++ t))) ≡ cond q 0 (suc (place_of b x))
    go true h ih = refl
    go false h ih = omega (arith, ih (omega arith))

pub beyond_front : (b : ℕ) (x t : List ℕ) → length x ≤ place_of b x → place_of b (x ++ t) ≡ length x + place_of b t
beyond_front b [] t h = omega arith
beyond_front b (y ∷ x) t h = go (eqb y b) h (beyond_front b x t)
  where
    go : (q : Bool) → suc (length x) ≤ cond q 0 (suc (place_of b x)) → (length x ≤ place_of b x → place_of b (x ++ t) ≡ length x + place_of b t)
        → cond q 0 (suc (place_of b (x ++ t))) ≡ suc (length x) + place_of b t
    go true h ih = absurd (omega arith)
    go false h ih = omega (arith, ih (omega arith))

-- the first so many bytes looked through: it stands there, or in the others
module _ (b k : ℕ) (s : List ℕ) where
  whole : place_of b (take k s ++ drop k s) ≡ place_of b s
  whole = ap (place_of b) (take-append-drop k s)

  pub close : (i : ℕ) → position (λ x. eqb x b) (take k s) ≡ Some i → i ≡ place_of b s
  close i e = choose (stands b (take k s)) refl (sym (at_place b (take k s)) ∙ e)
    where
      choose : (t : Bool) → stands b (take k s) ≡ t → cond t (Some (place_of b (take k s))) None ≡ Some i → i ≡ place_of b s
      choose true h e = let p : i ≡ place_of b (take k s) = cc in p ∙ (sym (in_front b (take k s) (drop k s) (ltb-true _ _ h)) ∙ whole)
      choose false h e = cc

  pub far : position (λ x. eqb x b) (take k s) ≡ None → k ≤ length s → k + place_of b (drop k s) ≡ place_of b s
  far e l = choose (stands b (take k s)) refl (sym (at_place b (take k s)) ∙ e)
    where
      choose : (t : Bool) → stands b (take k s) ≡ t → cond t (Some (place_of b (take k s))) None ≡ None → k + place_of b (drop k s) ≡ place_of b s
      choose true h e = cc
      choose false h e = omega (arith, beyond_front b (take k s) (drop k s) (ltb-false _ _ h), whole, length-take-le k s l)

-- so many bytes are passed, and these are left
pub record Passed (b : ℕ) (s : List ℕ) (k : ℕ) (rest : List ℕ) : Type 0 where
  pub within : k ≤ length s
  pub left : rest ≡ drop k s
  pub so_far : k + place_of b (drop k s) ≡ place_of b s

-- a block more
pub block_passed : (b k n : ℕ) (s rest block after : List ℕ) → Passed b s k rest → rest ≡ block ++ after → length block ≡ n → stands b block ≡ false
    → Passed b s (k + n) after
block_passed b k n s rest block after p parts l e =
    let split : drop k s ≡ block ++ after = sym p.left ∙ parts in
    let sizes : length (drop k s) ≡ length block + length after = ap length split ∙ length-append block after in
    let place : place_of b (drop k s) ≡ length block + place_of b after = ap (place_of b) split ∙ beyond_front b block after (ltb-false _ _ e) in
    let left : after ≡ drop (k + n) s =
    sym (drop-append_seam block after) ∙ (ap (λ (r : List ℕ). drop (length block) r) (sym split) ∙ (drop-drop (length block) k s ∙ ap (λ (m : ℕ). drop m s) (omega arith))) in
    record { within = omega (arith, sizes, l, p.within, length-drop k s); left = left; so_far = omega (arith, place, p.so_far, ap (place_of b) left) }
