-- The laws of specs/Laws.antt.
use Rattle.std.proofs.Common.{◌≡◌, ℕ, ◌+◌, ◌-◌, ◌/◌, ◌%◌, ◌<◌, ◌≤◌, Bool, true, false, cond, eqb, ltb, ◌↔◌, List, [], ◌∷◌, ◌++◌, length, take, drop, sym, refl, ap, ◌∙◌, append_assoc, arith, length-append, length-drop, length-take-le, take_at, drop_at, ltb-false, ltb-true, eq-eqb, ne_eqb, eqb-true}
use Rattle.digits.specs.Digits.{byte_of, capitals, digits_of, admitted, number_of}
use Rattle.digits.proofs.Inverse.{and_left, and_right, inverse, rules}
use Rattle.frames.specs.Frame.{beforeSC, sc_in, sc_of, low_byte, says_number, sum_true, sum_off, closed, reply_of, CR, LF}
use Rattle.frames.specs.Laws.{TrueSC, Reply}
use Rattle.frames.proofs.Closing.{length_reply}

-- two bytes say a number below 256 just where they are admitted and are, in capitals, its two digits
pub says_digits : (r : ℕ) (s : List ℕ) (n : ℕ) → length s ≡ 2 → n < 256 → (says_number r s n ≡ true) ↔ ((admitted r s ≡ true) × (capitals s ≡ digits_of 2 n))
says_digits r s n l h = (there, back)
  where
    there : says_number r s n ≡ true → (admitted r s ≡ true) × (capitals s ≡ digits_of 2 n)
    there e =
        let a = and_left (admitted r s) (eqb (number_of s) n) e in
        let v = eqb-true (number_of s) n (and_right (admitted r s) (eqb (number_of s) n) e) in
        (a, sym ((inverse 2).digits_of_value s l ((rules s).digits r a)) ∙ ap (digits_of 2) v)

    back : (admitted r s ≡ true) × (capitals s ≡ digits_of 2 n) → says_number r s n ≡ true
    back e = rw e.0 (eq-eqb _ n (sym (rules s).same_number ∙ ap number_of e.1 ∙ (inverse 2).value_of_digits n h))

-- so a number's own two digits say it, under every release
pub own_digits : (r n : ℕ) → n < 256 → says_number r (digits_of 2 n) n ≡ true
own_digits r n h =
    (says_digits r (digits_of 2 n) n ((inverse 2).as_many n) h).1
    ((inverse 2).are_digits r n, (rules (digits_of 2 n)).capitals_only ((inverse 2).are_digits 1 n))

pub true_sc : (r : ℕ) (frame : List ℕ) → TrueSC r frame
unfolding sum_true
true_sc r frame h =
    let k : 2 ≤ length (drop (length frame - 4) frame) = simp length-drop (omega arith) in
    says_digits r (sc_in frame) (low_byte (beforeSC frame)) (length-take-le 2 (drop (length frame - 4) frame) k) (omega arith)

module _ (before : List ℕ) where
  length_closed : length (closed before) ≡ length before + 4
  length_closed = simp length-append (omega arith)

  pub before_closed : beforeSC (closed before) ≡ before
  before_closed = take_at before (sc_of before ++ (CR ∷ LF ∷ [])) (length (closed before) - 4) (omega (arith, length_closed))

  pub sc_closed : sc_in (closed before) ≡ sc_of before
  sc_closed =
      ap (take 2) (drop_at before (sc_of before ++ (CR ∷ LF ∷ [])) (length (closed before) - 4) (omega (arith, length_closed)))

  pub closed_true : (r : ℕ) → sum_true r (closed before) ≡ true
  unfolding sum_true
  closed_true r = rw (sc_closed, before_closed) (own_digits r (low_byte before) (omega arith))

-- a digit's byte is not '@'
digit_not_off : (n : ℕ) → n < 16 → eqb (byte_of n) 0x40 ≡ false
unfolding byte_of
digit_not_off n h = go (ltb n 10) refl
  where
    go : (b : Bool) → ltb n 10 ≡ b → eqb (cond b (n + 0x30) (n - 10 + 0x41)) 0x40 ≡ false
    go true e = let k = ltb-true n 10 e in ne_eqb (n + 0x30) 0x40 (omega arith)
    go false e = let k = ltb-false n 10 e in ne_eqb (n - 10 + 0x41) 0x40 (omega arith)

pub reply : (header station : ℕ) (rest : List ℕ) → Reply header station rest
unfolding reply_of sum_off
reply h st rest =
    let w = h ∷ (digits_of 2 st ++ rest) in
    let l : length w ≡ length rest + 3 = omega arith in
    record {
      starts = refl;
      says = refl;
      is_true = closed_true w;
      is_on = rw (sc_closed w, digit_not_off (low_byte w / 16 % 16) (omega arith));
      ends =
          ap (drop (length rest + 5)) (sym (append_assoc w (sc_of w) (CR ∷ LF ∷ [])))
          ∙ drop_at (w ++ sc_of w) (CR ∷ LF ∷ []) (length rest + 5) (simp length-append (omega arith));
      as_long = length_reply h st rest;
    }
