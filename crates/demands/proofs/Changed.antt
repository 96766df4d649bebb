-- One changed byte, and what the tests of a frame say of it.
use Prim.Native.Nat.{ℕ, zero, suc, ◌+◌, ◌-◌, ◌≤◌, ◌<◌}
use mathlib.Core.Path.{◌≡◌, refl, sym, ap, ap₂, ◌∙◌}
use mathlib.Core.Logic.{◌⊎◌, inl, inr}
use mathlib.Core.Bool.{Bool, true, false, not, ◌&&◌, ◌||◌, true≢false}
use mathlib.Core.List.{List, [], ◌∷◌}
use native.Mathlib.Omega.{arith}
use lib.Dec.{eqb, ltb}
use lib.ListN.{length, take, drop, get_or, set, length-set, length-take, length-drop, get_or-eq_default, get_or-map}
use lib.Seq.{length-take-le, get_or-set_same, get_or-set_other, map-set_same, take-set-le, take-set-lt, drop-set-lt, drop-set-add, get_or-take, get_or-drop, ext_get_or}
use borrow.Author.Tests.{eqb-true, eqb-false, eq-eqb, ne_eqb, ltb-true, ltb-false, le-leb}
use Rattle.digits.specs.Digits.{capital, capitals, admitted, number_of}
use Rattle.digits.proofs.Inverse.{and_right, rules}
use Rattle.frames.specs.declared.checks.Sum.TheVariants.{Wrong}
use Rattle.frames.specs.Frame.{command, CR, LF, station_in, message_in, content_in, beforeSC, sc_in, sum_of, low_byte, sc_of, test_call_fits, shaped, sum_true, sum_off, sum_said}
use Rattle.frames.proofs.Bools.{and_false}
use Rattle.frames.proofs.Promised.{true_sc}
use Rattle.frames.proofs.TestID.{by_message}
use Rattle.frames.proofs.Three.{at_sign, said_wrong}
use Rattle.refusals.proofs.Tested.{shape}
use Rattle.demands.specs.OneByte.{Changed, misshapen, OnlySize}

-- a byte put into others
sum_set : (s : List ℕ) (i b : ℕ) → i < length s → sum_of (set s i b) + get_or s i 0 ≡ sum_of s + b
sum_set [] i b h = absurd (omega arith)
sum_set (x ∷ s) zero b h = omega arith
sum_set (x ∷ s) (suc i) b h = let e = sum_set s i b (omega arith) in omega (arith, e)

-- one of the SC's two places, counted from its first
record InSC (place n : ℕ) : Type 0 where
  at : ℕ
  two : at < 2
  is : place ≡ n - 4 + at

in_two : {place n : ℕ} → 4 ≤ n → (place + 4 ≡ n) ⊎ (place + 3 ≡ n) → InSC place n
in_two l (inl e) = record { at = 0; two = omega arith; is = omega (arith, e) }
in_two l (inr e) = record { at = 1; two = omega arith; is = omega (arith, e, l) }

module _ {place : ℕ} {f f' : List ℕ} (ch : Changed place f f') where
  -- the other byte
  abbrev new : ℕ
  new = get_or f' place 0

  inside : place < length f
  inside = go (ltb place (length f)) refl
    where
      go : (b : Bool) → ltb place (length f) ≡ b → place < length f
      go true e = ltb-true _ _ e
      go false e =
          let l = ltb-false _ _ e in
          absurd (ch.differs (get_or-eq_default f' 0 (omega (arith, l, ch.same_length)) ∙ sym (get_or-eq_default f 0 l)))

  -- the changed frame is the frame with that byte put in
  is_set : f' ≡ set f place new
  is_set = ext_get_or 0 f' (set f place new) (ch.same_length ∙ sym (length-set f place new)) (λ i _. go i (eqb i place) refl)
    where
      go : (i : ℕ) (b : Bool) → eqb i place ≡ b → get_or f' i 0 ≡ get_or (set f place (get_or f' place 0)) i 0
      go i true e =
          let q = eqb-true _ _ e in
          ap (λ (k : ℕ). get_or f' k 0) q ∙ sym (ap (λ (k : ℕ). get_or (set f place (get_or f' place 0)) k 0) q ∙ get_or-set_same f place (get_or f' place 0) 0 inside)
      go i false e = let q = eqb-false _ _ e in ch.elsewhere i q ∙ sym (get_or-set_other f place i (get_or f' place 0) 0 q)

  -- what stands before it is as it was
  part_same : (many from : ℕ) → from + many ≤ place → take many (drop from f') ≡ take many (drop from f)
  part_same many from h =
      let e : from + (place - from) ≡ place = omega arith in
      ap (λ (g : List ℕ). take many (drop from g)) (is_set ∙ sym (ap (λ (k : ℕ). set f k new) e))
      ∙ ap (take many) (drop-set-add from f (place - from) new)
      ∙ take-set-le many (drop from f) (place - from) new (omega arith)

  -- whether a byte that was there still is
  still : (at v : ℕ) → get_or f at 0 ≡ v → eqb (get_or f' at 0) v ≡ not (eqb place at)
  still at v was = go (eqb place at) refl
    where
      go : (b : Bool) → eqb place at ≡ b → eqb (get_or f' at 0) v ≡ not b
      go true e =
          let q = eqb-true _ _ e in
          ne_eqb _ _ (λ z. ch.differs (ap (λ (k : ℕ). get_or f' k 0) q ∙ z ∙ sym was ∙ sym (ap (λ (k : ℕ). get_or f k 0) q)))
      go false e = eq-eqb _ _ (ch.elsewhere at (λ z. eqb-false _ _ e (sym z)) ∙ was)

  module _ (s : shaped f ≡ true) where
    long : 10 ≤ length f
    long = (shape f s).long

    -- test 6 is passed where its bytes are still there
    pub shape_is : shaped f' ≡ not (misshapen place f')
    unfolding shaped
    shape_is =
        let w = shape f s in
        let n = ch.same_length in
        rw (
          still 0 command w.header,
          still (length f' - 2) CR (ap (λ (k : ℕ). get_or f (k - 2) 0) n ∙ w.cr),
          still (length f' - 1) LF (ap (λ (k : ℕ). get_or f (k - 1) 0) n ∙ w.lf),
          le-leb 10 (length f') (omega (arith, n, w.long)),
          le-leb (length f') 1023 (omega (arith, n, w.most)),
        )
        (go (eqb place 0) (eqb place (length f' - 2)) (eqb place (length f' - 1)) (test_call_fits f'))
      where
        go : (p q t u : Bool) → not p && (not q && (not t && u)) ≡ not (p || (q || (t || not u)))
        go true q t u = refl
        go false true t u = refl
        go false false true u = refl
        go false false false true = refl
        go false false false false = refl

    module _ (r : ℕ) (was : sum_true r f ≡ true) where
      was_true : (admitted r (sc_in f) ≡ true) × (capitals (sc_in f) ≡ sc_of (beforeSC f))
      was_true = (true_sc r f (omega (arith, long))).0 was

      sc_long : length (sc_in f) ≡ 2
      sc_long = length-take-le 2 (drop (length f - 4) f) (simp length-drop (omega (arith, long)))

      -- '@@' has two bytes that the true SC had not
      not_off : sum_off f' ≡ false
      unfolding sum_off
      not_off = go (eqb (get_or (sc_in f') 0 0) 0x40) (eqb (get_or (sc_in f') 1 0) 0x40) refl refl
        where
          -- the one that is as it was
          kept : (i : ℕ) → i < 2 → (length f - 4 + i ≡ place → ⊥) → get_or (sc_in f') i 0 ≡ 0x40 → ⊥
          kept i l n e =
              true≢false
              (sym was_true.0
              ∙ at_sign r (sc_in f) i
              (sym (here f) ∙ sym (ch.elsewhere (length f - 4 + i) n) ∙ ap (λ (k : ℕ). get_or f' (k - 4 + i) 0) (sym ch.same_length) ∙ here f' ∙ e))
            where
              here : (g : List ℕ) → get_or g (length g - 4 + i) 0 ≡ get_or (sc_in g) i 0
              here g = sym (get_or-take 2 (drop (length g - 4) g) i 0 l ∙ get_or-drop (length g - 4) g i 0)

          go : (p q : Bool) → eqb (get_or (sc_in f') 0 0) 0x40 ≡ p → eqb (get_or (sc_in f') 1 0) 0x40 ≡ q → p && q ≡ false
          go false q x y = refl
          go true false x y = refl
          go true true x y =
              absurd
              (kept 0 (omega arith) (λ z. kept 1 (omega arith) (λ w. omega (arith, z, w, long)) (eqb-true _ _ y)) (eqb-true _ _ x))

      -- a byte before the SC changes the sum, and not the SC
      wrong_sum : place < length f - 4 → sum_true r f' ≡ false
      unfolding sum_true
      wrong_sum l =
          let n = ch.same_length in
          let m = length f - 4 in
          let sc : sc_in f' ≡ sc_in f =
          ap₂ (λ (k : ℕ) (g : List ℕ). take 2 (drop (k - 4) g)) n is_set ∙ ap (take 2) (drop-set-lt m f place new l) in
          let b : beforeSC f' ≡ set (take m f) place new =
          ap₂ (λ (k : ℕ) (g : List ℕ). take (k - 4) g) n is_set ∙ take-set-lt m f place new l in
          let t = sum_set (take m f) place new (simp length-take (omega (arith, l, inside))) in
          let o : get_or (take m f) place 0 ≡ get_or f place 0 = get_or-take m f place 0 l in
          let v : number_of (sc_in f) ≡ low_byte (beforeSC f) =
          eqb-true _ _ (and_right (admitted r (sc_in f)) (eqb (number_of (sc_in f)) (low_byte (beforeSC f))) was) in
          rw (
            sc,
            b,
            ne_eqb (number_of (sc_in f)) (low_byte (set (take m f) place new)) (λ z. ch.differs (omega (arith, t, o, v, z, ch.bytes.0, ch.bytes.1))),
            and_false (admitted r (sc_in f)),
          )

      -- a byte of the SC
      module _ (at : ℕ) (l : at < 2) (e : place ≡ length f - 4 + at) where
        sc_set : sc_in f' ≡ set (sc_in f) at new
        sc_set =
            ap₂ (λ (k : ℕ) (g : List ℕ). take 2 (drop (k - 4) g)) ch.same_length (is_set ∙ ap (λ (k : ℕ). set f k new) e)
            ∙ ap (take 2) (drop-set-add (length f - 4) f at new)
            ∙ take-set-lt 2 (drop (length f - 4) f) at new l

        same_before : beforeSC f' ≡ beforeSC f
        same_before = ap (λ (k : ℕ). take (k - 4) f') ch.same_length ∙ part_same (length f - 4) 0 (omega (arith, e))

        old_is : get_or (sc_in f) at 0 ≡ get_or f place 0
        old_is = get_or-take 2 (drop (length f - 4) f) at 0 l ∙ get_or-drop (length f - 4) f at 0 ∙ sym (ap (λ (k : ℕ). get_or f k 0) e)

        new_is : get_or (sc_in f') at 0 ≡ new
        new_is = ap (λ (t : List ℕ). get_or t at 0) sc_set ∙ get_or-set_same (sc_in f) at new 0 (omega (arith, sc_long, l))

        -- in capitals
        capital_at : (t : List ℕ) → get_or (capitals t) at 0 ≡ capital (get_or t at 0)
        unfolding capital
        capital_at t = get_or-map capital t at 0

        -- an SC that is true again is the same in capitals
        same_letter : sum_true r f' ≡ true → capital new ≡ capital (get_or f place 0)
        same_letter t =
            let again = (true_sc r f' (omega (arith, long, ch.same_length))).0 t in
            let same : capitals (sc_in f') ≡ capitals (sc_in f) = again.1 ∙ ap sc_of same_before ∙ sym was_true.1 in
            sym (ap capital new_is) ∙ sym (capital_at (sc_in f')) ∙ ap (λ (s : List ℕ). get_or s at 0) same ∙ capital_at (sc_in f) ∙ ap capital old_is

        -- so it isn't, under release 1
        not_under_one : r ≡ 1 → sum_true r f' ≡ true → ⊥
        not_under_one one t =
            let again = (true_sc r f' (omega (arith, long, ch.same_length))).0 t in
            ch.differs (sym (plain f' again.0 new_is) ∙ same_letter t ∙ plain f was_true.0 old_is)
          where
            plain : (g : List ℕ) → admitted r (sc_in g) ≡ true → {b : ℕ} → get_or (sc_in g) at 0 ≡ b → capital b ≡ b
            plain g a {b} is =
                sym (ap capital is)
                ∙ sym (capital_at (sc_in g))
                ∙ ap (λ (s : List ℕ). get_or s at 0) ((rules (sc_in g)).capitals_only (rw (← one) a))
                ∙ is

        -- and under release 2 it is where the letter is the same
        true_again : r ≡ 2 → capital new ≡ capital (get_or f place 0) → sum_true r f' ≡ true
        true_again two letter =
            let same : capitals (sc_in f') ≡ capitals (sc_in f) =
            ap capitals sc_set ∙ map-set_same capital (sc_in f) at new 0 (letter ∙ sym (ap capital old_is)) in
            (true_sc r f' (omega (arith, long, ch.same_length))).1 (
              ap (λ (k : ℕ). admitted k (sc_in f')) two
                  ∙ sym ((rules (sc_in f')).either 2)
                  ∙ ap (admitted 2) same
                  ∙ (rules (sc_in f)).either 2
                  ∙ (rules (sc_in f)).digits r was_true.0,
              same ∙ was_true.1 ∙ sym (ap sc_of same_before),
            )

      -- a place that is neither before the SC nor that of CR or LF is one of the SC's
      in_sc : length f - 4 ≤ place → misshapen place f' ≡ false → (place + 4 ≡ length f) ⊎ (place + 3 ≡ length f)
      in_sc l m = go (ltb place (length f - 3)) (ltb place (length f - 2)) (ltb place (length f - 1)) refl refl refl
        where
          passed : (p q t u : Bool) → p || (q || (t || u)) ≡ false → (q ≡ false) × (t ≡ false)
          passed true q t u e = absurd (true≢false e)
          passed false true t u e = absurd (true≢false e)
          passed false false true u e = absurd (true≢false e)
          passed false false false u e = (refl, refl)

          not_last : (eqb place (length f' - 2) ≡ false) × (eqb place (length f' - 1) ≡ false)
          not_last = passed (eqb place 0) (eqb place (length f' - 2)) (eqb place (length f' - 1)) (not (test_call_fits f')) m

          go : (a b c : Bool) → ltb place (length f - 3) ≡ a → ltb place (length f - 2) ≡ b → ltb place (length f - 1) ≡ c
              → (place + 4 ≡ length f) ⊎ (place + 3 ≡ length f)
          go true b c x y z = let k = ltb-true place (length f - 3) x in inl (omega (arith, k, l))
          go false true c x y z = let k = ltb-false place (length f - 3) x in let j = ltb-true place (length f - 2) y in inr (omega (arith, k, j))
          go false false true x y z =
              let k = ltb-false place (length f - 2) y in
              let j = ltb-true place (length f - 1) z in
              absurd (eqb-false place (length f' - 2) not_last.0 (omega (arith, k, j, ch.same_length)))
          go false false false x y z =
              let k = ltb-false place (length f - 1) z in absurd (eqb-false place (length f' - 1) not_last.1 (omega (arith, k, inside, ch.same_length)))

      -- where test 6 is still passed the sum is wrong, but for an SC that is true again in letters of another size
      pub wrong : misshapen place f' ≡ false → (OnlySize place f f' → sum_true r f' ≡ true → ⊥) → sum_said r f' ≡ Wrong
      wrong m again = said_wrong r f' not_off (go (ltb place (length f - 4)) refl)
        where
          not_true : (b : Bool) → sum_true r f' ≡ b → (sum_true r f' ≡ true → ⊥) → sum_true r f' ≡ false
          not_true true e n = absurd (n e)
          not_true false e n = e

          of_sc : (place + 4 ≡ length f) ⊎ (place + 3 ≡ length f) → sum_true r f' ≡ true → ⊥
          of_sc w t =
              let i = in_two (omega (arith, long)) w in
              again (record { of_sc = w; same_letter = same_letter i.at i.two i.is t }) t

          go : (b : Bool) → ltb place (length f - 4) ≡ b → sum_true r f' ≡ false
          go true e = wrong_sum (ltb-true _ _ e)
          go false e = not_true (sum_true r f') refl (of_sc (in_sc (ltb-false _ _ e) m))

      -- no such SC is true under release 1, and under release 2 each is
      pub none_under_one : r ≡ 1 → OnlySize place f f' → sum_true r f' ≡ true → ⊥
      none_under_one one o = let i = in_two (omega (arith, long)) o.of_sc in not_under_one i.at i.two i.is one

      pub each_under_two : r ≡ 2 → OnlySize place f f' → sum_true r f' ≡ true
      each_under_two two o = let i = in_two (omega (arith, long)) o.of_sc in true_again i.at i.two i.is two o.same_letter

    -- the fields before the SC, where it is the SC that has changed
    module _ (o : OnlySize place f f') where
      behind : (length f - 4 ≤ place) × (place < length f - 2)
      behind = let i = in_two (omega (arith, long)) o.of_sc in let e = i.is in (omega (arith, e), omega (arith, e, i.two, long))

      pub same_station : station_in f' ≡ station_in f
      same_station = part_same 2 1 (omega (arith, behind.0, long))

      pub same_message : message_in f' ≡ message_in f
      same_message = part_same 3 3 (omega (arith, behind.0, long))

      pub same_content : content_in f' ≡ content_in f
      same_content =
          ap (λ (k : ℕ). take (k - 10) (drop 6 f')) ch.same_length ∙ part_same (length f - 10) 6 (omega (arith, behind.0, long))

      pub still_shaped : shaped f' ≡ true
      still_shaped =
          let n = ch.same_length in
          shape_is
          ∙ rw (
            ne_eqb place 0 (λ z. omega (arith, z, behind.0, long)),
            ne_eqb place (length f' - 2) (λ z. omega (arith, z, n, behind.1)),
            ne_eqb place (length f' - 1) (λ z. omega (arith, z, n, behind.1)),
            test_call_lem,
          )
        where
          test_call_lem : test_call_fits f' ≡ true
          test_call_lem =
              ap₂ (λ (t : Bool) (k : ℕ). not t || eqb k 20) (by_message f' (message_in f) same_message ∙ sym (by_message f (message_in f) refl)) ch.same_length
              ∙ (shape f s).test_call_lem
