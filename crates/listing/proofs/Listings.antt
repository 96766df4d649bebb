-- Points listed, slot after slot, while there is room.
use Prim.Native.Nat.{ℕ, zero, suc, ◌+◌, ◌-◌, ◌*◌, ◌≤◌, ◌<◌}
use mathlib.Core.Path.{◌≡◌, refl, sym, ap, subst, ◌∙◌}
use mathlib.Core.List.{List, [], ◌∷◌, ◌++◌}
use native.Mathlib.Omega.{arith}
use native.Mathlib.Nat.{not-suc-le-zero, add-zero, add_assoc}
use native.Mathlib.Numerals.{add-one}
use lib.ListN.{length, drop, get_or, length-append}
use lib.Seq.{drop-drop, get_or-drop}
use borrow.Author.Tests.{le-leb, lt-leb, eq-eqb, ne_eqb}
use Rattle.digits.specs.Digits.{digits_of}
use Rattle.digits.specs.Laid.{laid}
use Rattle.digits.proofs.Laid.{laid_on, laid_nothing}
use Rattle.points.specs.Axes.{axes_of}
use Rattle.points.specs.Point.{point_in, position_digits, point_digits}
use Rattle.points.specs.declared.units.Position.{Position}
use Rattle.points.specs.declared.point.Point.{Point}
use Rattle.listing.specs.Listing.{listing, listed, joined}

length_positions : (axes : List ℕ) (ps : List Position) → length (position_digits axes ps) ≡ 8 * length axes
unfolding position_digits
length_positions [] ps = refl
length_positions (axis ∷ axes) ps = let h = length_positions axes ps in omega arith

-- three digits for the number, fourteen, and eight for each axis
pub length_listing : (number : ℕ) (slot : List ℕ) → length (listing number slot) ≡ 17 + 8 * length (axes_of (get_or slot 0 0))
unfolding point_in point_digits
length_listing number slot = omega (arith, length_positions (axes_of (get_or slot 0 0)) (point_in slot).positions)

-- what one slot does to the list
listed_skip : (room left number : ℕ) (slots : List ℕ) → 0 < left → get_or slots 0 0 ≡ 0 → listed room left number slots ≡ listed room (left - 1) (number + 1) (drop 40 slots)
unfolding listed
listed_skip room zero number slots h e = absurd (not-suc-le-zero h)
listed_skip room (suc n) number slots h e = let m : suc n - 1 ≡ n = omega arith in rw (m, eq-eqb _ _ e, add-one)

listed_full : (room left number : ℕ) (slots : List ℕ) → 0 < left → (get_or slots 0 0 ≡ 0 → ⊥) → room < length (listing number slots) → listed room left number slots ≡ []
unfolding listed
listed_full room zero number slots h e k = absurd (not-suc-le-zero h)
listed_full room (suc n) number slots h e k = rw (ne_eqb _ _ e, lt-leb _ _ k)

listed_more : (room left number : ℕ) (slots : List ℕ) → 0 < left → (get_or slots 0 0 ≡ 0 → ⊥) → length (listing number slots) ≤ room
    → listed room left number slots ≡ listing number slots ∷ listed (room - length (listing number slots)) (left - 1) (number + 1) (drop 40 slots)
unfolding listed
listed_more room zero number slots h e k = absurd (not-suc-le-zero h)
listed_more room (suc n) number slots h e k = let m : suc n - 1 ≡ n = omega arith in rw (m, ne_eqb _ _ e, le-leb _ _ k, add-one)

listed_end : (room left number : ℕ) (slots : List ℕ) → left ≡ 0 → listed room left number slots ≡ []
unfolding listed
listed_end room left number slots e = rw e

-- what is still to be listed, laid behind what is listed, is the whole list
pub record Left (whole rest : List (List ℕ)) (reply₀ reply : List ℕ) (many digits : ℕ) : Type 0 where
  pub bytes : laid reply (9 + digits) (joined rest) ≡ laid reply₀ 9 (joined whole)
  pub count : many + length rest ≡ length whole
  pub text : digits + length (joined rest) ≡ length (joined whole)
  pub within : digits ≤ 1011
  pub same : length reply ≡ length reply₀

-- a point more is laid
pub laid_one : (whole rest : List (List ℕ)) (s reply₀ reply after : List ℕ) (many digits : ℕ) → Left whole (s ∷ rest) reply₀ reply many digits
    → 1024 ≤ length reply → digits + length s ≤ 1011 → length after ≡ length reply → after ≡ laid reply (9 + digits) s
    → Left whole rest reply₀ after (many + 1) (digits + length s)
laid_one whole rest s reply₀ reply after many digits g h k l e =
    let n : digits + length (s ++ joined rest) ≡ length (joined whole) = g.text in
    let m : length (s ++ joined rest) ≡ length s + length (joined rest) = length-append s (joined rest) in
    record {
      bytes = rw e (laid_on reply s (joined rest) (9 + digits) (9 + (digits + length s)) (omega arith) (omega arith)) ∙ g.bytes;
      count = omega (arith, g.count);
      text = omega (arith, n, m);
      within = k;
      same = l ∙ g.same;
    }

-- the list that is left from slot i on
abbrev pub left_at : ℕ → ℕ → ℕ → ℕ → List ℕ → List (List ℕ)
left_at start count i digits slots = listed (1011 - digits) (count - i) (start + i) (drop (i * 40) slots)

module _ (slots : List ℕ) (i : ℕ) where
  pattern_at : get_or (drop (i * 40) slots) 0 0 ≡ get_or slots (i * 40) 0
  pattern_at = get_or-drop (i * 40) slots 0 0 ∙ ap (λ (x : ℕ). get_or slots x 0) (add-zero (i * 40))

  next_slot : drop 40 (drop (i * 40) slots) ≡ drop ((i + 1) * 40) slots
  next_slot =
      let q : i * 40 + 40 ≡ (i + 1) * 40 = omega arith in
      drop-drop 40 (i * 40) slots ∙ ap (λ (x : ℕ). drop x slots) q

  module _ (start count digits : ℕ) (more : i < count) where
    fewer : count - i - 1 ≡ count - (i + 1)
    fewer = omega arith

    pub at_skip : get_or slots (i * 40) 0 ≡ 0 → left_at start count i digits slots ≡ left_at start count (i + 1) digits slots
    at_skip e =
        listed_skip (1011 - digits) (count - i) (start + i) (drop (i * 40) slots) (omega arith) (pattern_at ∙ e)
        ∙ rw (fewer, next_slot, add_assoc)

    pub at_full : (get_or slots (i * 40) 0 ≡ 0 → ⊥) → 1011 - digits < 17 + 8 * length (axes_of (get_or slots (i * 40) 0)) → left_at start count i digits slots ≡ []
    at_full e h =
        let s = drop (i * 40) slots in
        let l : length (listing (start + i) s) ≡ 17 + 8 * length (axes_of (get_or slots (i * 40) 0)) = length_listing (start + i) s ∙ rw pattern_at in
        listed_full (1011 - digits) (count - i) (start + i) s (omega arith) (λ z. e (sym pattern_at ∙ z)) (rw l h)

    pub at_more : (get_or slots (i * 40) 0 ≡ 0 → ⊥) → 17 + 8 * length (axes_of (get_or slots (i * 40) 0)) ≤ 1011 - digits
        → left_at start count i digits slots
        ≡ listing (start + i) (drop (i * 40) slots)
        ∷ left_at start count (i + 1) (digits + (17 + 8 * length (axes_of (get_or slots (i * 40) 0)))) slots
    at_more e h =
        let s = drop (i * 40) slots in
        let n = 17 + 8 * length (axes_of (get_or slots (i * 40) 0)) in
        let l : length (listing (start + i) s) ≡ n = length_listing (start + i) s ∙ rw pattern_at in
        let r : 1011 - digits - n ≡ 1011 - (digits + n) = omega arith in
        listed_more (1011 - digits) (count - i) (start + i) s (omega arith) (λ z. e (sym pattern_at ∙ z)) (rw l h)
        ∙ ap (λ (x : List (List ℕ)). listing (start + i) s ∷ x) (rw (l, r, fewer, next_slot, add_assoc))

module _ {whole rest : List (List ℕ)} {reply₀ reply : List ℕ} {many digits : ℕ} (g : Left whole rest reply₀ reply many digits) where
  pub moved : {rest' : List (List ℕ)} → rest ≡ rest' → Left whole rest' reply₀ reply many digits
  moved {rest'} e = subst (λ (l : List (List ℕ)). Left whole l reply₀ reply many digits) e g

  -- nothing is left
  pub done : rest ≡ []
      → ((many ≡ length whole) × (digits ≡ length (joined whole)) × (digits ≤ 1011)) × (reply ≡ laid reply₀ 9 (joined whole))
  done e =
      let n : many + 0 ≡ length whole = ap (λ (l : List (List ℕ)). many + length l) (sym e) ∙ g.count in
      let t : digits + 0 ≡ length (joined whole) = ap (λ (l : List (List ℕ)). digits + length (joined l)) (sym e) ∙ g.text in (
        (omega arith, omega arith, g.within),
        sym (laid_nothing reply (9 + digits)) ∙ ap (λ (l : List (List ℕ)). laid reply (9 + digits) (joined l)) (sym e) ∙ g.bytes,
      )

pub at_end : (slots : List ℕ) (start count i digits : ℕ) → count ≤ i → left_at start count i digits slots ≡ []
at_end slots start count i digits h = listed_end (1011 - digits) (count - i) (start + i) _ (omega arith)

-- a turn that lists a point
module _ (slots : List ℕ) (start count i digits n : ℕ) (p : Point) (e : p ≡ point_in (drop (i * 40) slots)) where
  pub pattern_in : p.pattern ≡ get_or slots (i * 40) 0
  unfolding point_in
  pattern_in = ap (λ (q : Point). q.pattern) e ∙ pattern_at slots i

  pub took : {whole : List (List ℕ)} {reply₀ reply : List ℕ} {many : ℕ} (after : List ℕ) → i < count → Left whole (left_at start count i digits slots) reply₀ reply many digits
      → (get_or slots (i * 40) 0 ≡ 0 → ⊥) → n ≡ length (axes_of (get_or slots (i * 40) 0)) → 17 + 8 * n ≤ 1011 - digits → 1024 ≤ length reply
      → length after ≡ length reply → after ≡ laid reply (9 + digits) (digits_of 3 (start + i) ++ point_digits p)
      → Left whole (left_at start count (i + 1) (digits + (17 + 8 * n)) slots) reply₀ after (many + 1) (digits + (17 + 8 * n))
  took {whole} {reply₀} {reply} {many} after more g z k room h l f =
      let s = drop (i * 40) slots in
      let t : length (listing (start + i) s) ≡ 17 + 8 * n = length_listing (start + i) s ∙ rw (pattern_at slots i, ← k) in
      let m = at_more slots i start count digits more z (rw (← k) room) in
      let q = laid_one whole _ (listing (start + i) s) reply₀ reply after many digits (moved g m) h (omega arith) l (f ∙ rw e) in
      rw (t, ← k) at q
