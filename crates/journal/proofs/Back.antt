-- What a step back does: the last entry, where it stands, and what is left.
use Prim.Native.Nat.{ℕ, ◌+◌, ◌-◌, ◌≤◌, ◌<◌}
use mathlib.Core.Path.{◌≡◌, refl, sym, ap, ◌∙◌, subst}
use mathlib.Core.Bool.{true}
use mathlib.Core.List.{List, [], ◌∷◌, ◌++◌}
use native.Mathlib.Nat.{not-suc-le-zero, zero-add, add-zero}
use native.Mathlib.Omega.{arith}
use lib.ListN.{length, take, drop, get_or, replicate, length-drop, length-append, drop_of_length-le}
use lib.Seq.{drop_at, take_at, length-take-le, take-take, drop-drop, get_or-take, get_or-drop}
use Rattle.kinds.specs.declared.Kind.{Kind}
use Rattle.kinds.specs.declared.Held.{Held}
use Rattle.areas.specs.Bytes.{two_at}
use Rattle.kinds.specs.Kinds.{kind_of}
use Rattle.journal.specs.Journal.{Entry, encode, encodes, entry_fits, front_of, whole, entry_at, entries_in, area_of, last_of, others_of, last_entry, others}
use Rattle.journal.specs.declared.Last.{Last}
use Rattle.journal.specs.Laws.{Good, AllGood, Holds, Stands}
use Rattle.journal.proofs.Walk.{turn_le, turn_whole, turn_some, turn_entries, whole_some, front_le, entries_front, length_entry_at}
use Rattle.journal.proofs.Codec.{Bytes, bytes_take, encoding, length_encode, two_back}
use Rattle.journal.proofs.Adding.{encodes_snoc, take_of_drop}

-- the bytes before the last entry
unfoldable pub before : List Entry → ℕ
before es = length (encodes (others es))

before_cons : (x y : Entry) (es : List Entry) → before (x ∷ y ∷ es) ≡ length (encode x) + before (y ∷ es)
unfolding before others others_of encodes
before_cons x y es = length-append (encode x) (encodes (others_of y es))

-- an entry of s bytes at a place: another follows, or it is the last
module _ (held : Held) (s at : ℕ) (b : List ℕ) (is : s ≡ front_of held (drop at b)) (h : 0 < s) where
  before_more : at + s < length b → whole held 0 (drop (at + s) b) ≡ true → before (entries_in held 0 (drop at b)) ≡ s + before (entries_in held 0 (drop (at + s) b))
  before_more k w =
      let u : ℕ = front_of held (drop (at + s) b) in
      let p : 0 < u = whole_some held (drop (at + s) b) w (simp length-drop (omega arith)) in
      let x : Entry = entry_at s (drop at b) in
      let f : entries_in held 0 (drop (at + s) b) ≡ entry_at u (drop (at + s) b) ∷ entries_in held 0 (drop u (drop (at + s) b)) = entries_front held u (drop (at + s) b) refl p in
      ap before (turn_entries held s at b is h)
      ∙ ap (λ (r : List Entry). before (x ∷ r)) f
      ∙ before_cons x _ _
      ∙ ap (λ (m : ℕ). m + before (entry_at u (drop (at + s) b) ∷ entries_in held 0 (drop u (drop (at + s) b)))) (length_entry_at held s (drop at b) (sym is) h)
      ∙ ap (λ (r : List Entry). s + before r) (sym f)

  before_none : at + s ≡ length b → before (entries_in held 0 (drop at b)) ≡ 0
  unfolding before others others_of encodes entries_in
  before_none k = rw (turn_entries held s at b is h, drop_of_length-le b {i = at + s} (omega arith))

-- the loop that looks for the last entry: an entry from at to next, and the last is not before it
pub record Seek (held : Held) (b : List ℕ) (at next : ℕ) : Type 0 where
  pub is : next ≡ at + front_of held (drop at b)
  pub more : at < next
  pub within : next ≤ length b
  pub good : whole held 0 (drop at b) ≡ true
  pub same : at + before (entries_in held 0 (drop at b)) ≡ before (entries_in held 0 b)

pub seek_first : (held : Held) (b : List ℕ) {s : ℕ} → s ≡ front_of held b → 0 < length b → whole held 0 b ≡ true → Seek held b 0 s
seek_first held b e h w =
    let p = whole_some held b w h in
    let q = front_le held b in
    record { is = omega arith; more = omega arith; within = omega arith; good = w; same = zero-add _ }

-- what is behind the entry is whole
pub seek_whole : (held : Held) (b : List ℕ) (at next : ℕ) → Seek held b at next → whole held 0 (drop next b) ≡ true
seek_whole held b at next h =
    let u : ℕ = front_of held (drop at b) in
    let p : 0 < u = omega (arith, h.is, h.more) in
    rw h.is (turn_whole held u at b refl p ∙ h.good)

pub seek_next : (held : Held) (b : List ℕ) (at next s : ℕ) → Seek held b at next → next < length b → s ≡ front_of held (drop next b) → Seek held b next (next + s)
seek_next held b at next s h k e =
    let u : ℕ = front_of held (drop at b) in
    let p : 0 < u = omega (arith, h.is, h.more) in
    let w : whole held 0 (drop next b) ≡ true = seek_whole held b at next h in
    let w' : whole held 0 (drop (at + u) b) ≡ true = rw h.is at w in
    let q : 0 < s = turn_some held s next b e w k in
    let f : before (entries_in held 0 (drop at b)) ≡ u + before (entries_in held 0 (drop next b)) =
    rw h.is (before_more held u at b refl p (omega (arith, h.is)) w') in
    record {
      is = ap (λ (m : ℕ). next + m) e;
      more = omega arith;
      within = turn_le held s next b e (omega arith);
      good = w;
      same = omega (arith, h.is, h.same);
    }

pub seek_done : (held : Held) (b : List ℕ) (at next : ℕ) → Seek held b at next → length b ≤ next → at ≡ before (entries_in held 0 b)
seek_done held b at next h k =
    let z : before (entries_in held 0 (drop at b)) ≡ 0 = before_none held _ at b refl (omega (arith, h.is, h.more)) (omega (arith, h.is, h.within)) in
    omega (arith, h.same)

others_last : (e : Entry) (es : List Entry) → e ∷ es ≡ others_of e es ++ (last_of e es ∷ [])
unfolding others_of last_of
others_last e [] = refl
others_last e (f ∷ es) = ap (λ (r : List Entry). e ∷ r) (others_last f es)

pub split_last : (es : List Entry) → 0 < length (encodes es) → es ≡ others es ++ (last_entry es ∷ [])
unfolding others last_entry encodes
split_last [] h = absurd (not-suc-le-zero h)
split_last (e ∷ es) h = others_last e es

good_last : (held : Held) (es : List Entry) (e : Entry) → AllGood held (es ++ (e ∷ [])) → Good held e
unfolding AllGood
good_last held [] e g = g.0
good_last held (x ∷ es) e g = good_last held es e g.1

-- the used part, and the place where its last entry starts
module _ (held : Held) (j : List ℕ) (used at : ℕ) (bs : Bytes j) (hu : used ≤ length j) (p : 0 < used) (w : whole held 0 (take used j) ≡ true) (a : at ≡ before (entries_in held 0 (take used j))) where
  es : List Entry
  es = entries_in held 0 (take used j)

  last : Entry
  last = last_entry (entries_in held 0 (take used j))

  taken : AllGood held es × (encodes es ≡ take used j)
  unfolding es
  taken = encoding held (take used j) (bytes_take used j bs) w

  used_long : length (take used j) ≡ used
  used_long = length-take-le used j hu

  parts : es ≡ others es ++ (last ∷ [])
  unfolding last es
  parts = split_last es (rw (ap length taken.1 ∙ used_long) p)

  bytes : take used j ≡ encodes (others es) ++ encode last
  bytes = sym taken.1 ∙ ap encodes parts ∙ encodes_snoc (others es) last

  front : take at j ≡ encodes (others es)
  unfolding before es
  front = sym (take-take at used j within) ∙ ap (take at) bytes ∙ take_at (encodes (others es)) (encode last) at (sym a)
    where
      within : at ≤ used
      within = omega (arith, a, ap length bytes ∙ length-append (encodes (others es)) (encode last), used_long)

  back : drop at (take used j) ≡ encode last
  unfolding before es
  back = ap (drop at) bytes ∙ drop_at (encodes (others es)) (encode last) at (sym a)

  ends : at + (5 + length last.bytes) ≡ used
  unfolding before es
  ends = omega (arith, a, ap length bytes ∙ length-append (encodes (others es)) (encode last), used_long, length_encode last)

  byte_at : (i : ℕ) → i < 5 → get_or j (at + i) 0 ≡ get_or (encode last) i 0
  byte_at i h =
      sym (ap (λ (r : List ℕ). get_or r i 0) (sym back) ∙ get_or-drop at (take used j) i 0 ∙ get_or-take used j (at + i) 0 (omega (arith, ends)))

  old_bytes : take (used - (at + 5)) (drop (at + 5) j) ≡ last.bytes
  unfolding encode
  old_bytes = take_of_drop (at + 5) used j (omega (arith, ends)) hu ∙ sym (drop-drop 5 at (take used j)) ∙ ap (drop 5) back

  pub stands : Stands held j used (record { tag = get_or j at 0; start = two_at j (at + 3); at = at })
  unfolding before last es encode
  stands =
      let t : get_or j at 0 ≡ last.tag = rw (add-zero at) at (byte_at 0 (omega arith)) in
      let m : at + 3 + 1 ≡ at + 4 = omega arith in
      let s : two_at j (at + 3) ≡ last.start = rw (m, byte_at 3 (omega arith), byte_at 4 (omega arith)) (two_back last.start) in
      record {
        entry = λ i. record { tag = t i; start = s i; bytes = old_bytes i };
        behind = a;
        span = omega (arith, ends);
        good = good_last held (others es) last (subst (AllGood held) parts taken.0);
      }

  rest_held : (j' : List ℕ) → j' ≡ take at j ++ replicate (length j - at) 0 → Holds (length j) (others (entries_in held 0 (take used j))) j' at
  unfolding before es area_of
  rest_held j' e =
      record {
        bytes =
            e ∙ ap (λ (r : List ℕ). r ++ replicate (length j - at) 0) front
            ∙ ap (λ (m : ℕ). encodes (others es) ++ replicate (length j - m) 0) a;
        used = a;
      }

-- the last entry's bytes fit the kind of its tag
pub fits_back : (held : Held) (j : List ℕ) (used : ℕ) (l : Last) (k : Kind) → Stands held j used l → kind_of held k.tag ≡ k → l.tag ≡ k.tag
    → entry_fits k l.start (length (take (used - (l.at + 5)) (drop (l.at + 5) j))) ≡ true
fits_back held j used l k s e t =
    rw (ap (kind_of held) t ∙ e) at (subst (Good held) (sym s.entry) s.good).well_formed

-- what is left once the last entry is removed: the other entries
pub holds_back : (held : Held) (j : List ℕ) (used : ℕ) (l : Last) → Bytes j → used ≤ length j → whole held 0 (take used j) ≡ true → Stands held j used l
    → (j' : List ℕ) → j' ≡ take l.at j ++ replicate (length j - l.at) 0 → Holds (length j) (others (entries_in held 0 (take used j))) j' l.at
unfolding before
holds_back held j used l bs hu w s = rest_held held j used l.at bs hu (omega (arith, s.span)) w s.behind
