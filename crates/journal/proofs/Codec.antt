-- Entries and their bytes: what is encoded is read back, and well-formed bytes are an encoding.
use Prim.Native.Nat.{ℕ, zero, suc, ◌+◌, ◌-◌, ◌*◌, ◌/◌, ◌%◌, ◌≤◌, ◌<◌}
use mathlib.Core.Path.{◌≡◌, refl, sym, ap, ◌∙◌, subst}
use mathlib.Core.Bool.{true}
use mathlib.Core.List.{List, [], ◌∷◌, ◌++◌}
use native.Mathlib.Nat.{le_of_suc-le-suc, not-suc-le-zero, div-add-mod'}
use native.Mathlib.Omega.{arith}
use lib.Arith.{digits_div, digits_mod, digits_lt}
use lib.ListN.{length, take, drop, get_or, length-drop, length-append, take-append-drop}
use lib.Seq.{take_at, drop_at, length-take-le, get_or-drop, take-nil}
use Rattle.kinds.specs.declared.Held.{Held}
use Rattle.areas.specs.Bytes.{two_at}
use Rattle.kinds.specs.Kinds.{kind_of}
use Rattle.journal.specs.Journal.{Entry, encode, encodes, entry_fits, front_of, whole, entry_at, entries_in}
use Rattle.journal.specs.Laws.{Good, AllGood, ReadBack, Encoding}
use Rattle.journal.proofs.Walk.{at_front, front_is, front_le, front_least, whole_some, whole_front, entries_front}

pub length_encode : (e : Entry) → length (encode e) ≡ 5 + length e.bytes
unfolding encode
length_encode e = omega arith

-- two bytes hold a number
pub two_back : (x : ℕ) → x / 256 * 256 + x % 256 ≡ x
two_back x = div-add-mod' x 256

front_encode : (held : Held) (e : Entry) (r : List ℕ) → Good held e → front_of held (encode e ++ r) ≡ length (encode e)
unfolding encode
front_encode held e r g =
    let l = encode e ++ r in
    let a = length-append e.bytes r in
    let w : two_at l 1 ≡ 2 + length e.bytes = two_back (2 + length e.bytes) in
    let v : two_at l 3 ≡ e.start = two_back e.start in
    let z : two_at l 1 - 2 ≡ length e.bytes = omega arith in
    let p : 5 ≤ length l = omega arith in
    let q : 2 ≤ two_at l 1 = omega arith in
    let s : two_at l 1 + 3 ≤ length l = omega arith in
    let f : entry_fits (kind_of held e.tag) (two_at l 3) (two_at l 1 - 2) ≡ true =
    ap (λ (m : ℕ). entry_fits (kind_of held e.tag) (two_at l 3) m) z ∙ ap (λ (m : ℕ). entry_fits (kind_of held e.tag) m (length e.bytes)) v ∙ g.well_formed in
    front_is held l p q s f ∙ omega arith

pub entry_encode : (e : Entry) (r : List ℕ) → entry_at (length (encode e)) (encode e ++ r) ≡ e
unfolding entry_at encode
entry_encode e r =
    let v = two_back e.start in
    let q : take (length (encode e) - 5) (e.bytes ++ r) ≡ e.bytes = take_at e.bytes r (length (encode e) - 5) (omega arith) in
    λ i. record { tag = e.tag; start = v i; bytes = q i }

pub read_back : (held : Held) (es : List Entry) → ReadBack held es
unfolding AllGood encodes whole entries_in
read_back held [] g = (refl, refl)
read_back held (e ∷ es) g =
    let s : front_of held (encode e ++ encodes es) ≡ length (encode e) = front_encode held e (encodes es) g.0 in
    let p : 0 < length (encode e) = rw (length_encode e) (omega arith) in
    let d : drop (length (encode e)) (encode e ++ encodes es) ≡ encodes es = drop_at (encode e) (encodes es) _ refl in
    let ih = read_back held es g.1 in (
      whole_front held _ _ s p ∙ ap (whole held 0) d ∙ ih.0,
      entries_front held _ _ s p ∙ ap (λ (x : Entry). x ∷ entries_in held 0 (drop (length (encode e)) (encode e ++ encodes es))) (entry_encode e (encodes es))
          ∙ ap (λ (r : List ℕ). e ∷ entries_in held 0 r) d
          ∙ ap (λ (r : List Entry). e ∷ r) ih.1,
    )

abbrev pub Bytes : List ℕ → Type 0
Bytes l = (i : ℕ) → get_or l i 0 < 256

pub bytes_drop : (s : ℕ) (l : List ℕ) → Bytes l → Bytes (drop s l)
bytes_drop s l bs i = rw (get_or-drop s l i 0) (bs (s + i))

pub bytes_take : (s : ℕ) (l : List ℕ) → Bytes l → Bytes (take s l)
bytes_take s [] bs i = subst (λ (r : List ℕ). get_or r i 0 < 256) (sym (take-nil s)) (bs i)
bytes_take zero (x ∷ l) bs i = omega arith
bytes_take (suc s) (x ∷ l) bs zero = bs 0
bytes_take (suc s) (x ∷ l) bs (suc i) = bytes_take s l (λ k. bs (suc k)) i

-- bytes by their first five
five : (l : List ℕ) → 5 ≤ length l → l ≡ get_or l 0 0 ∷ get_or l 1 0 ∷ get_or l 2 0 ∷ get_or l 3 0 ∷ get_or l 4 0 ∷ drop 5 l
five [] h = absurd (not-suc-le-zero h)
five (a ∷ []) h = absurd (not-suc-le-zero (le_of_suc-le-suc h))
five (a ∷ b ∷ []) h = absurd (omega arith)
five (a ∷ b ∷ c ∷ []) h = absurd (omega arith)
five (a ∷ b ∷ c ∷ d ∷ []) h = absurd (omega arith)
five (a ∷ b ∷ c ∷ d ∷ e ∷ l) h = refl

-- the entry at the front of l
module _ (held : Held) (l : List ℕ) (bs : Bytes l) (h : 0 < front_of held l) where
  follows : 2 + length (entry_at (front_of held l) l).bytes ≡ two_at l 1
  unfolding entry_at
  follows =
      let z = at_front held l h in
      let a : 5 ≤ front_of held l = front_least held l h in
      let b : front_of held l ≤ length l = front_le held l in
      let d : length (take (front_of held l - 5) (drop 5 l)) ≡ front_of held l - 5 = length-take-le (front_of held l - 5) (drop 5 l) (simp length-drop (omega arith)) in
      omega (arith, z.is)

  front_good : Good held (entry_at (front_of held l) l)
  unfolding entry_at
  front_good =
      let m : length (entry_at (front_of held l) l).bytes ≡ two_at l 1 - 2 = omega (arith, follows) in
      record {
        length_fits = rw follows (digits_lt {m = 256} {c = 256} (bs 1) (bs 2));
        start_fits = digits_lt {m = 256} {c = 256} (bs 3) (bs 4);
        well_formed = ap (entry_fits (kind_of held (get_or l 0 0)) (two_at l 3)) m ∙ (at_front held l h).fit;
      }

  front_bytes : encode (entry_at (front_of held l) l) ≡ take (front_of held l) l
  unfolding entry_at encode
  front_bytes =
      let a : 5 ≤ front_of held l = front_least held l h in
      let b : front_of held l ≤ length l = front_le held l in
      let k : front_of held l ≡ suc (suc (suc (suc (suc (front_of held l - 5))))) = omega arith in
      rw (follows, digits_div (get_or l 1 0) (bs 2), digits_mod (get_or l 1 0) (bs 2), digits_div (get_or l 3 0) (bs 4), digits_mod (get_or l 3 0) (bs 4))
      (sym (ap (λ (m : ℕ). take m l) k ∙ ap (take (suc (suc (suc (suc (suc (front_of held l - 5))))))) (five l (omega arith))))

abbrev Encoded : Held → List ℕ → Type 0
Encoded held l = AllGood held (entries_in held 0 l) × (encodes (entries_in held 0 l) ≡ l)

encoded_front : (held : Held) (l : List ℕ) → Bytes l → 0 < front_of held l → Encoded held (drop (front_of held l) l) → Encoded held l
unfolding AllGood encodes
encoded_front held l bs h ih =
    let s : ℕ = front_of held l in
    rw (entries_front held s l refl h) (
      (front_good held l bs h, ih.0),
      ap (λ (r : List ℕ). encode (entry_at s l) ++ r) ih.1 ∙ ap (λ (r : List ℕ). r ++ drop s l) (front_bytes held l bs h) ∙ take-append-drop s l,
    )

-- by induction on a bound of the length
encoded_below : (held : Held) (f : ℕ) (l : List ℕ) → length l ≤ f → Bytes l → whole held 0 l ≡ true → Encoded held l
unfolding AllGood encodes entries_in
encoded_below held zero [] k bs e = (tt, refl)
encoded_below held (suc f) [] k bs e = (tt, refl)
encoded_below held zero (x ∷ l) k bs e = absurd (not-suc-le-zero k)
encoded_below held (suc f) (x ∷ l) k bs e =
    let s : ℕ = front_of held (x ∷ l) in
    let h : 0 < s = whole_some held (x ∷ l) e (omega arith) in
    encoded_front held (x ∷ l) bs h
    (encoded_below held f (drop s (x ∷ l)) (simp length-drop (omega arith)) (bytes_drop s (x ∷ l) bs) (sym (whole_front held s (x ∷ l) refl h) ∙ e))

pub encoding : (held : Held) (bytes : List ℕ) → Encoding held bytes
encoding held l bs e = encoded_below held (length l) l (omega arith) bs e
