-- Laws of the areas by their tags. Only `by-tag` goes through the tags one after the other.
use Prim.Native.Nat.{ℕ, ◌≤◌}
use mathlib.Core.Path.{◌≡◌, refl, sym, ap, ◌∙◌, subst}
use mathlib.Core.Bool.{Bool, true, false, cond}
use mathlib.Core.List.{[]}
use native.Mathlib.Omega.{arith}
use lib.Dec.{eqb}
use lib.ListN.{length}
use borrow.Author.Tests.{eqb-true, eqb-false}
use Rattle.kinds.specs.declared.Kind.{Kind}
use Rattle.kinds.specs.declared.Held.{Held}
use Rattle.kinds.specs.Kinds.{points_tag, columns_tag, integers_tag, flags_tag, points_of, columns_of, integers_of, flags_of, kind_of, holds, size_of, put}
use Rattle.kinds.proofs.Known.{within}
use Rattle.points.specs.Point.{effective_in}
use Rattle.journal.specs.Journal.{Entry, puts, entry_for}
use Rattle.journal.proofs.Fitting.{puts_other}
use Rattle.calls.specs.Calls.{Areas, area_in, count_after, put_in}
use Rattle.calls.specs.Laws.{PutOwn, PutOther}

-- a tag that no kind has: nothing is held, and there is no area
pub record None (tag : ℕ) : Type 0 where
  pub kind : (h : Held) → kind_of h tag ≡ record { tag = tag; first = 0; unit = 1; held = 0; most = 0 }
  pub area : (a : Areas) → area_in tag a ≡ []

none_of : (tag : ℕ) → eqb tag points_tag ≡ false → eqb tag columns_tag ≡ false → eqb tag integers_tag ≡ false → eqb tag flags_tag ≡ false → None tag
unfolding kind_of
none_of tag p c n f = record { kind = λ h. rw (p, c, n, f); area = λ a. rw (p, c, n, f) }

-- what is so of each kind's tag, and of a tag that no kind has, is so of every tag
pub by_tag : (P : ℕ → Type 0) → P points_tag → P columns_tag → P integers_tag → P flags_tag → ((tag : ℕ) → None tag → P tag) → (tag : ℕ) → P tag
by_tag P p c n f z tag =
    is points_tag p (λ x. is columns_tag c (λ y. is integers_tag n (λ v. is flags_tag f (λ w. z tag (none_of tag x y v w)))))
  where
    is : (t : ℕ) → P t → (eqb tag t ≡ false → P tag) → P tag
    is t q other = go (eqb tag t) refl
      where
        go : (b : Bool) → eqb tag t ≡ b → P tag
        go true e = subst P (sym (eqb-true _ _ e)) q
        go false e = other e

-- each kind's area is as long as it should, and there is none of any other tag
pub each_long : (h : Held) (a : Areas) → length a.points ≡ size_of (points_of h) → length a.columns ≡ size_of columns_of
    → length a.integers ≡ size_of (integers_of h) → length a.flags ≡ size_of (flags_of h) → (tag : ℕ) → length (area_in tag a) ≡ size_of (kind_of h tag)
unfolding kind_of
each_long h a p c n f = by_tag (λ (t : ℕ). length (area_in t a) ≡ size_of (kind_of h t)) p c n f (λ t z. rw (z.kind h, z.area a))

-- areas that hold the same, kind by kind
pub same_areas : (a a' : Areas) → a.points ≡ a'.points → a.columns ≡ a'.columns → a.integers ≡ a'.integers → a.flags ≡ a'.flags → (tag : ℕ)
    → area_in tag a ≡ area_in tag a'
same_areas a a' p c n f = by_tag (λ (t : ℕ). area_in t a ≡ area_in t a') p c n f (λ t z. rw (z.area a, z.area a'))

-- a true count is true again after an entry of any kind is put in: the slots are counted, or they are as they were
pub counted_after : (h : Held) (e : Entry) (a : Areas) → a.kept.effective ≡ effective_in h.points a.points
    → count_after h e a ≡ effective_in h.points (puts (points_of h) e a.points)
counted_after h e a c = go (eqb e.tag points_tag) refl
  where
    go : (b : Bool) → eqb e.tag points_tag ≡ b
        → cond b (effective_in h.points (puts (points_of h) e a.points)) a.kept.effective ≡ effective_in h.points (puts (points_of h) e a.points)
    go true q = refl
    go false q = c ∙ ap (effective_in h.points) (puts_other (points_of h) e a.points (eqb-false _ _ q))

-- the laws of specs/Laws.antt
pub put_own : PutOwn
unfolding kind_of puts
put_own h start count bytes a =
    by_tag
    (λ (t : ℕ).
    1 ≤ count → holds (kind_of h t) start count ≡ true → area_in t (put_in h (entry_for t start bytes) a) ≡ put (kind_of h t) start bytes (area_in t a))
    (λ _ _. refl)
    (λ _ _. refl)
    (λ _ _. refl)
    (λ _ _. refl)
    (λ t z some e. absurd (let w = within (kind_of h t) start count e in omega (arith, w.1, w.0, ap (λ (k : Kind). k.held) (z.kind h))))

pub put_other : PutOther
put_other h e a =
    by_tag (λ (t : ℕ). (t ≡ e.tag → ⊥) → area_in t (put_in h e a) ≡ area_in t a)
    (λ n. sym (puts_other (points_of h) e a.points (λ z. n (sym z))))
    (λ n. sym (puts_other columns_of e a.columns (λ z. n (sym z))))
    (λ n. sym (puts_other (integers_of h) e a.integers (λ z. n (sym z))))
    (λ n. sym (puts_other (flags_of h) e a.flags (λ z. n (sym z))))
    (λ t z n. rw (z.area a, z.area (put_in h e a)))
