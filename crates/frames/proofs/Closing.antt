-- What the stores of a reply leave.
use Rattle.std.proofs.Common.{◌≡◌, ℕ, ◌+◌, ◌≤◌, List, [], ◌∷◌, ◌++◌, length, take, drop, refl, ap, ◌∙◌, append_assoc, arith, length-append, length-drop, length-take-le}
use Rattle.digits.specs.Digits.{digits_of}
use Rattle.digits.specs.Laid.{laid}
use Rattle.digits.proofs.Laid.{laid_on, laid_kept, take_laid, part_laid, laid_over}
use Rattle.frames.specs.Frame.{low_byte, sc_of, reply_of, CR, LF}

-- a reply is seven bytes longer than what follows its station
pub length_reply : (h st : ℕ) (rest : List ℕ) → length (reply_of h st rest) ≡ length rest + 7
unfolding reply_of
length_reply h st rest = simp length-append (omega arith)

module _ (d : List ℕ) (h st many : ℕ) (fits : many + 7 ≤ length d) where
  rest : List ℕ
  rest = take many (drop 3 d)

  before : List ℕ
  before = h ∷ (digits_of 2 st ++ rest)

  length_rest : length rest ≡ many
  unfolding rest
  length_rest = length-take-le many (drop 3 d) (simp length-drop (omega arith))

  length_before : length before ≡ many + 3
  unfolding before
  length_before = simp length_rest (omega arith)

  opened : (r1 r2 : List ℕ) → r1 ≡ laid d 0 (h ∷ []) → r2 ≡ laid r1 1 (digits_of 2 st) → r2 ≡ laid d 0 before
  unfolding before rest
  opened r1 r2 e f =
      f ∙ rw e (laid_on d (h ∷ []) (digits_of 2 st) 0 1 refl (omega arith)) ∙ laid_kept d (h ∷ digits_of 2 st) many (omega arith)

  pub closing : (sc : ℕ) (r1 r2 r3 r4 : List ℕ) → r1 ≡ laid d 0 (h ∷ []) → r2 ≡ laid r1 1 (digits_of 2 st) → sc ≡ low_byte (take (many + 3) r2)
      → r3 ≡ laid r2 (many + 3) (digits_of 2 sc) → r4 ≡ laid r3 (many + 3 + 2) (CR ∷ LF ∷ []) → r4 ≡ laid d 0 (reply_of h st (take many (drop 3 d)))
  unfolding before rest reply_of
  closing sc r1 r2 r3 r4 e1 e2 es e3 e4 =
      let o = opened r1 r2 e1 e2 in
      let s : sc ≡ low_byte before = es ∙ ap low_byte (ap (take (many + 3)) o ∙ take_laid d before (many + 3) length_before) in
      let p : r3 ≡ laid d 0 (before ++ sc_of before) = e3 ∙ rw (o, s) (laid_on d before (sc_of before) 0 (many + 3) (omega (arith, length_before)) (omega arith)) in
      let l : length (before ++ sc_of before) ≡ many + 3 + 2 = simp length-append (omega (arith, length_rest)) in
      e4 ∙ rw p (laid_on d (before ++ sc_of before) (CR ∷ LF ∷ []) 0 (many + 3 + 2) (omega (arith, l)) (omega arith))
      ∙ ap (laid d 0) (append_assoc before (sc_of before) (CR ∷ LF ∷ []))

-- a reply closed over content that was laid from byte 3 on is the reply of that content
pub closed_over : (d content : List ℕ) (h st n : ℕ) → length content ≡ n → n + 7 ≤ length d
    → laid (laid d 3 content) 0 (reply_of h st (take n (drop 3 (laid d 3 content)))) ≡ laid d 0 (reply_of h st content)
closed_over d content h st n e f =
    rw (part_laid d content 3 n e (omega arith)) (laid_over d content (reply_of h st content) 3 (omega (arith, length_reply h st content)) (omega arith))
