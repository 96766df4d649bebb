-- What an add leaves of the journal, from what its steps do.
use Prim.Native.Nat.{ℕ, zero, suc, ◌+◌, ◌-◌, ◌≤◌}
use mathlib.Core.Path.{◌≡◌, refl, sym, ap, ◌∙◌}
use mathlib.Core.Bool.{true}
use mathlib.Core.List.{List, [], ◌∷◌, ◌++◌, append_assoc, append-nil}
use native.Mathlib.Nat.{add-sub_of_le}
use native.Mathlib.Omega.{arith}
use lib.ListN.{length, take, drop, set, replicate, drop_of_length-le, length-drop, length-append, length-replicate}
use lib.Seq.{take-add, drop_at, length-take-le}
use Rattle.kinds.specs.declared.Held.{Held}
use Rattle.areas.specs.Bytes.{two_of}
use Rattle.digits.specs.Laid.{laid}
use Rattle.digits.proofs.Laid.{stored, laid_on, length_laid, take_laid}
use Rattle.journal.specs.Journal.{Entry, encode, encodes, whole, entries_in, kept, added, area_of, entry_for}
use Rattle.journal.specs.Laws.{Holds}
use Rattle.journal.proofs.Codec.{Bytes, bytes_take, encoding, length_encode}
use Rattle.journal.proofs.Keeping.{kept_all}

-- one byte and two numbers, one behind the other
pub head_laid : (d d₁ d₂ : List ℕ) (at tag many start : ℕ) → at + 5 ≤ length d
    → d₁ ≡ laid (set d at tag) (at + 1) (two_of many)
    → d₂ ≡ laid d₁ (at + 3) (two_of start)
    → d₂ ≡ laid d at (tag ∷ (two_of many ++ two_of start))
head_laid d d₁ d₂ at tag many start h e₁ e₂ =
    let a : set d at tag ≡ laid d at (tag ∷ []) = stored d at (tag ∷ []) (omega arith) in
    let b : d₁ ≡ laid d at (tag ∷ two_of many) = e₁ ∙ rw a (laid_on d (tag ∷ []) (two_of many) at (at + 1) refl (omega arith)) in
    e₂ ∙ rw b (laid_on d (tag ∷ two_of many) (two_of start) at (at + 3) refl (omega arith))

-- bytes laid to the very end
pub laid_end : (d bs : List ℕ) (at : ℕ) → at + length bs ≡ length d → laid d at bs ≡ take at d ++ bs
unfolding laid
laid_end d bs at e = rw (drop_of_length-le d {i = at + length bs} (omega arith), append-nil)

-- head, old bytes and 00 to the end
pub entry_laid : (d d₁ d₂ d₃ o : List ℕ) (at tag start : ℕ) → at + (5 + length o) ≤ length d
    → d₁ ≡ laid d at (tag ∷ (two_of (length o + 2) ++ two_of start))
    → d₂ ≡ laid d₁ (at + 5) o
    → d₃ ≡ laid d₂ (at + 5 + length o) (replicate (length d₂ - (at + 5 + length o)) 0)
    → d₃ ≡ take at d ++ (encode (entry_for tag start o) ++ replicate (length d - (at + (5 + length o))) 0)
unfolding encode
entry_laid d d₁ d₂ d₃ o at tag start h e₁ e₂ e₃ =
    let head = tag ∷ (two_of (length o + 2) ++ two_of start) in
    let all = encode (entry_for tag start o) in
    let m : length o + 2 ≡ 2 + length o = omega arith in
    let a : d₂ ≡ laid d at (head ++ o) = e₂ ∙ rw e₁ (laid_on d head o at (at + 5) refl (omega arith)) in
    let b : d₂ ≡ laid d at all = rw m at a in
    let l : length d₂ ≡ length d = ap length b ∙ length_laid d at all (omega arith) in
    let k : length d₂ - (at + 5 + length o) ≡ length d - (at + (5 + length o)) = omega arith in
    let z : List ℕ = replicate (length d - (at + (5 + length o))) 0 in
    let y : length z ≡ length d - (at + (5 + length o)) = length-replicate (length d - (at + (5 + length o))) 0 in
    e₃ ∙ ap (λ (i : ℕ). laid d₂ (at + 5 + length o) (replicate i 0)) k
    ∙ ap (λ (r : List ℕ). laid r (at + 5 + length o) z) b
    ∙ laid_on d all z at (at + 5 + length o) (omega arith) (omega arith)
    ∙ laid_end d (all ++ z) at (omega (arith, length-append all z))

pub take_of_drop : (c u : ℕ) (l : List ℕ) → c ≤ u → u ≤ length l → take (u - c) (drop c l) ≡ drop c (take u l)
take_of_drop c u l h k =
    sym (ap (λ (m : ℕ). drop c (take m l)) (sym (add-sub_of_le h)) ∙ ap (drop c) (take-add c (u - c) l) ∙ drop_at (take c l) (take (u - c) (drop c l)) c (length-take-le c l (omega arith)))

pub encodes_snoc : (es : List Entry) (e : Entry) → encodes (es ++ (e ∷ [])) ≡ encodes es ++ encode e
unfolding encodes
encodes_snoc [] e = append-nil (encode e)
encodes_snoc (x ∷ es) e = ap (λ (r : List ℕ). encode x ++ r) (encodes_snoc es e) ∙ sym (append_assoc (encode x) (encodes es) (encode e))

-- so many bytes gone of those used leave as much as the area has room for
kept_room : (es : List Entry) (used size over area : ℕ) → length (encodes es) ≡ used → size ≤ area → used ≤ area → over ≡ used + size - area
    → kept (used - over) es ≡ kept (area - size) es
kept_room es used size zero area u s h o =
    kept_all (used - 0) es (omega arith) ∙ sym (kept_all (area - size) es (omega arith))
kept_room es used size (suc over) area u s h o = ap (λ (m : ℕ). kept m es) (omega arith)

pub holds_added : (held : Held) (j j₁ j₂ : List ℕ) (used over gone : ℕ) (e : Entry) → Bytes j → used ≤ length j → whole held 0 (take used j) ≡ true
    → 5 + length e.bytes ≤ length j
    → over ≡ used + (length e.bytes + 5) - length j
    → gone ≤ length (take used j)
    → drop gone (take used j) ≡ encodes (kept (length (take used j) - over) (entries_in held 0 (take used j)))
    → j₁ ≡ laid j 0 (take (used - gone) (drop gone j))
    → j₂ ≡ take (used - gone) j₁ ++ (encode e ++ replicate (length j₁ - (used - gone + (5 + length e.bytes))) 0)
    → Holds (length j) (added (length j) (entries_in held 0 (take used j)) e) j₂ (used - gone + (length e.bytes + 5))
unfolding added area_of
holds_added held j j₁ j₂ used over gone e bs hu w f o g c m p =
    let es : List Entry = entries_in held 0 (take used j) in
    let left : ℕ = used - gone in
    let le : length (encode e) ≡ 5 + length e.bytes = length_encode e in
    let u : length (take used j) ≡ used = length-take-le used j hu in
    let s : length (take left (drop gone j)) ≡ left = length-take-le left (drop gone j) (simp length-drop (omega arith)) in
    let l : length j₁ ≡ length j = ap length m ∙ length_laid j 0 (take left (drop gone j)) (omega arith) in
    let t : take left j₁ ≡ encodes (kept (length (take used j) - over) es) =
    ap (take left) m ∙ take_laid j (take left (drop gone j)) left s ∙ take_of_drop gone used j (omega arith) hu ∙ c in
    let v : length (encodes es) ≡ length (take used j) = ap length (encoding held (take used j) (bytes_take used j bs) w).1 in
    let k : kept (length (take used j) - over) es ≡ kept (length j - length (encode e)) es =
    kept_room es (length (take used j)) (length (encode e)) over (length j) v (omega arith) (omega arith) (omega arith) in
    let b : encodes (kept (length j - length (encode e)) es ++ (e ∷ [])) ≡ take left j₁ ++ encode e =
    encodes_snoc (kept (length j - length (encode e)) es) e ∙ ap (λ (r : List Entry). encodes r ++ encode e) (sym k) ∙ ap (λ (r : List ℕ). r ++ encode e) (sym t) in
    let x : length (take left j₁) ≡ left = length-take-le left j₁ (omega arith) in
    let z : length (encodes (kept (length j - length (encode e)) es ++ (e ∷ []))) ≡ left + length (encode e) =
    ap length b ∙ length-append (take left j₁) (encode e) ∙ ap (λ (i : ℕ). i + length (encode e)) x in
    let q : length j₁ - (left + (5 + length e.bytes)) ≡ length j - length (encodes (kept (length j - length (encode e)) es ++ (e ∷ []))) = omega arith in
    record {
      bytes =
          p ∙ sym (append_assoc (take left j₁) (encode e) (replicate (length j₁ - (left + (5 + length e.bytes))) 0))
          ∙ ap (λ (r : List ℕ). r ++ replicate (length j₁ - (left + (5 + length e.bytes))) 0) (sym b)
          ∙ ap (λ (i : ℕ). encodes (kept (length j - length (encode e)) es ++ (e ∷ [])) ++ replicate i 0) q;
      used = omega arith;
    }
