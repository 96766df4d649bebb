-- The walk from entry to entry: what stands at the front, and what a turn of a loop passes.
use Prim.Native.Nat.{ℕ, zero, suc, ◌+◌, ◌-◌, ◌≤◌, ◌<◌}
use mathlib.Core.Path.{◌≡◌, refl, sym, ap, ◌∙◌, subst}
use mathlib.Core.Bool.{Bool, true, false, cond, ◌&&◌}
use mathlib.Core.List.{List, [], ◌∷◌}
use native.Mathlib.Nat.{le_of_suc-le-suc, not-suc-le-zero}
use native.Mathlib.Omega.{arith}
use lib.ListN.{length, take, drop, get_or, length-drop}
use lib.Dec.{leb, eqb, T}
use lib.Seq.{drop-drop, length-take-le}
use borrow.Author.Tests.{ne_eqb, eq-eqb, le-leb, leb-true}
use Rattle.digits.proofs.Laid.{part_rest}
use Rattle.kinds.specs.declared.Held.{Held}
use Rattle.areas.specs.Bytes.{two_at}
use Rattle.kinds.specs.Kinds.{kind_of}
use Rattle.digits.proofs.Inverse.{and_left, and_right}
use Rattle.journal.specs.Journal.{Entry, encode, entry_fits, front_of, whole, entry_at, entries_in}

pub ne_zero : (k : ℕ) → (k ≡ 0 → ⊥) → 0 < k
ne_zero zero h = absurd (h refl)
ne_zero (suc k) h = omega arith

-- four tests that all hold, or a choice that shows that they do
all_four : (a b c d : Bool) (x y : ℕ) → a ≡ true → b ≡ true → c ≡ true → d ≡ true → cond (a && (b && (c && d))) x y ≡ x
all_four a b c d x y p q r s = rw (p, q, r, s)

cond_some : (b : Bool) (y : ℕ) → 0 < cond b y 0 → (b ≡ true) × (cond b y 0 ≡ y)
cond_some true y h = (refl, refl)
cond_some false y h = absurd (not-suc-le-zero h)

-- a whole well-formed entry stands at the front
pub record AtFront (held : Held) (l : List ℕ) : Type 0 where
  pub is : front_of held l ≡ two_at l 1 + 3
  pub some : 2 ≤ two_at l 1
  pub within : two_at l 1 + 3 ≤ length l
  pub fit : entry_fits (kind_of held (get_or l 0 0)) (two_at l 3) (two_at l 1 - 2) ≡ true

pub front_is : (held : Held) (l : List ℕ) → 5 ≤ length l → 2 ≤ two_at l 1 → two_at l 1 + 3 ≤ length l
    → entry_fits (kind_of held (get_or l 0 0)) (two_at l 3) (two_at l 1 - 2) ≡ true → front_of held l ≡ two_at l 1 + 3
unfolding front_of
front_is held l a b c d = all_four _ _ _ _ _ _ (le-leb 5 (length l) a) (le-leb 2 (two_at l 1) b) (le-leb (two_at l 1 + 3) (length l) c) d

pub at_front : (held : Held) (l : List ℕ) → 0 < front_of held l → AtFront held l
unfolding front_of
at_front held l h =
    let w = two_at l 1 in
    let d = entry_fits (kind_of held (get_or l 0 0)) (two_at l 3) (w - 2) in
    let t = leb (w + 3) (length l) && d in
    let s = leb 2 w && t in
    let a = cond_some (leb 5 (length l) && s) (w + 3) h in
    let p : s ≡ true = and_right (leb 5 (length l)) s a.0 in
    let q : t ≡ true = and_right (leb 2 w) t p in
    record {
      is = a.1;
      some = leb-true 2 w (and_left (leb 2 w) t p);
      within = leb-true (w + 3) (length l) (and_left (leb (w + 3) (length l)) d q);
      fit = and_right (leb (w + 3) (length l)) d q;
    }

pub front_least : (held : Held) (l : List ℕ) → 0 < front_of held l → 5 ≤ front_of held l
front_least held l h = let f = at_front held l h in omega (arith, f.is, f.some)

pub front_le : (held : Held) (l : List ℕ) → front_of held l ≤ length l
front_le held l = go (front_of held l) refl
  where
    go : (s : ℕ) → front_of held l ≡ s → s ≤ length l
    go zero e = omega arith
    go (suc s) e = let f = at_front held l (omega arith) in omega (arith, f.is, f.within)

whole_skip : (held : Held) (k : ℕ) (l : List ℕ) → k ≤ length l → whole held k l ≡ whole held 0 (drop k l)
unfolding whole
whole_skip held zero l h = refl
whole_skip held (suc k) [] h = absurd (not-suc-le-zero h)
whole_skip held (suc k) (x ∷ l) h = whole_skip held k l (le_of_suc-le-suc h)

entries_skip : (held : Held) (k : ℕ) (l : List ℕ) → k ≤ length l → entries_in held k l ≡ entries_in held 0 (drop k l)
unfolding entries_in
entries_skip held zero l h = refl
entries_skip held (suc k) [] h = absurd (not-suc-le-zero h)
entries_skip held (suc k) (x ∷ l) h = entries_skip held k l (le_of_suc-le-suc h)

-- no entry at the front: whole where nothing is left
whole_not : (held : Held) (l : List ℕ) → 0 < length l → front_of held l ≡ 0 → whole held 0 l ≡ false
unfolding whole
whole_not held [] h e = absurd (not-suc-le-zero h)
whole_not held (x ∷ l) h e = simp (eq-eqb _ _ e)

pub whole_stops : (held : Held) (l : List ℕ) → front_of held l ≡ 0 → eqb (length l) 0 ≡ whole held 0 l
unfolding whole
whole_stops held [] e = refl
whole_stops held (x ∷ l) e = ne_eqb (suc (length l)) 0 (λ q. omega arith) ∙ sym (whole_not held (x ∷ l) (omega arith) e)

-- an entry of suc s bytes at the front
whole_good : (held : Held) (s : ℕ) (l : List ℕ) → front_of held l ≡ suc s → suc s ≤ length l → whole held 0 l ≡ whole held 0 (drop (suc s) l)
unfolding whole
whole_good held s [] e h = absurd (not-suc-le-zero h)
whole_good held s (x ∷ l) e h = rw (e, ne_eqb (suc s) 0 (λ q. omega arith)) (whole_skip held s l (le_of_suc-le-suc h))

entries_good : (held : Held) (s : ℕ) (l : List ℕ) → front_of held l ≡ suc s → suc s ≤ length l → entries_in held 0 l ≡ entry_at (suc s) l ∷ entries_in held 0 (drop (suc s) l)
unfolding entries_in
entries_good held s [] e h = absurd (not-suc-le-zero h)
entries_good held s (x ∷ l) e h = rw e (ap (λ (r : List Entry). entry_at (suc s) (x ∷ l) ∷ r) (entries_skip held s l (le_of_suc-le-suc h)))

-- where bytes are whole entries, one stands at each place that the walk comes to
pub whole_some : (held : Held) (l : List ℕ) → whole held 0 l ≡ true → 0 < length l → 0 < front_of held l
whole_some held l e h = ne_zero (front_of held l) (λ z. subst T (sym e ∙ whole_not held l h z) tt)

pub whole_front : (held : Held) (s : ℕ) (l : List ℕ) → front_of held l ≡ s → 0 < s → whole held 0 l ≡ whole held 0 (drop s l)
whole_front held zero l e h = absurd (not-suc-le-zero h)
whole_front held (suc s) l e h = whole_good held s l e (subst (λ (k : ℕ). k ≤ length l) e (front_le held l))

pub entries_front : (held : Held) (s : ℕ) (l : List ℕ) → front_of held l ≡ s → 0 < s → entries_in held 0 l ≡ entry_at s l ∷ entries_in held 0 (drop s l)
entries_front held zero l e h = absurd (not-suc-le-zero h)
entries_front held (suc s) l e h = entries_good held s l e (subst (λ (k : ℕ). k ≤ length l) e (front_le held l))

-- whole entries start with one
pub front_whole : (held : Held) (l : List ℕ) → 0 < length l → whole held 0 l ≡ true → AtFront held l
front_whole held l h w = at_front held l (whole_some held l w h)

-- a turn of a loop that walks b, at a place where an entry of s bytes stands
module _ (held : Held) (s at : ℕ) (b : List ℕ) (is : s ≡ front_of held (drop at b)) where
  pub turn_le : at ≤ length b → at + s ≤ length b
  turn_le h = let k : s ≤ length (drop at b) = rw is (front_le held (drop at b)) in let k' : s ≤ length b - at = simp length-drop at k in omega arith

  pub turn_whole : 0 < s → whole held 0 (drop (at + s) b) ≡ whole held 0 (drop at b)
  turn_whole h = sym (whole_front held s (drop at b) (sym is) h ∙ ap (whole held 0) (drop-drop s at b))

  pub turn_some : whole held 0 (drop at b) ≡ true → at < length b → 0 < s
  turn_some w h = rw is (whole_some held (drop at b) w (simp length-drop (omega arith)))

  pub turn_entries : 0 < s → entries_in held 0 (drop at b) ≡ entry_at s (drop at b) ∷ entries_in held 0 (drop (at + s) b)
  turn_entries h =
      entries_front held s (drop at b) (sym is) h ∙ ap (λ (r : List ℕ). entry_at s (drop at b) ∷ entries_in held 0 r) (drop-drop s at b)

-- what is lent as &b[at..]

-- and what is lent of whole entries from an entry on is whole
pub part_whole : (held : Held) (at : ℕ) (b : List ℕ) → at < length b → whole held 0 (drop at b) ≡ true
    → (0 < length (take (length b - at) (drop at b))) × (whole held 0 (take (length b - at) (drop at b)) ≡ true)
part_whole held at b h w = rw (part_rest b at) (simp length-drop (omega arith), w)

pub length_entry_at : (held : Held) (s : ℕ) (l : List ℕ) → front_of held l ≡ s → 0 < s → length (encode (entry_at s l)) ≡ s
unfolding encode entry_at
length_entry_at held s l e h =
    let a : 5 ≤ s = rw e at (front_least held l (rw e h)) in
    let b : s ≤ length l = rw e at (front_le held l) in
    let d : length (take (s - 5) (drop 5 l)) ≡ s - 5 = length-take-le (s - 5) (drop 5 l) (simp length-drop (omega arith)) in
    omega arith
