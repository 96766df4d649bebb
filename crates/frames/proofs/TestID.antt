-- A test call's ID, by its bytes, and the length that test 6 asks of it (02, c).
use Rattle.std.proofs.Common.{◌≡◌, ℕ, ◌+◌, ◌<◌, ◌≤◌, Bool, true, false, cond, ◌&&◌, eqb, ltb, List, [], ◌∷◌, length, get_or, take, drop, sym, refl, ap, ◌∙◌, arith, length-take, get_or-drop, get_or-take, ltb-false, ltb-true, eqb-true}
use lib.ListN.{get_or-eq_default}
use Rattle.digits.specs.Text.{text}
use Rattle.digits.proofs.Inverse.{and_left, and_right}
use Rattle.frames.specs.Frame.{message_in, has_testID}
use Rattle.frames.specs.Laws.{TestID}
use Rattle.frames.proofs.Bools.{and_false}

module _ (f : List ℕ) where
  -- the bytes of the ID, where they stand in the frame
  in_frame : (i : ℕ) → i < 3 → get_or (message_in f) i 0 ≡ get_or f (3 + i) 0
  in_frame i h = get_or-take 3 (drop 3 f) i 0 h ∙ get_or-drop 3 f i 0

  pub by_bytes : has_testID f ≡ eqb (get_or f 3 0) 0x32 && (eqb (get_or f 4 0) 0x30 && eqb (get_or f 5 0) 0x30)
  unfolding has_testID
  by_bytes = rw (in_frame 0 (omega arith), in_frame 1 (omega arith), in_frame 2 (omega arith))

  -- with fewer than six bytes the ID isn't all there
  pub cut : length f < 6 → has_testID f ≡ false
  cut h =
      by_bytes
      ∙ rw (get_or-eq_default f 0 {n = 5} (omega arith), and_false (eqb (get_or f 4 0) 0x30), and_false (eqb (get_or f 3 0) 0x32))

  -- so where it is, six are there
  pub six : has_testID f ≡ true → 6 ≤ length f
  six e = go (ltb (length f) 6) refl
    where
      go : (b : Bool) → ltb (length f) 6 ≡ b → 6 ≤ length f
      go true k = let z : ◌≡◌ {A = ℕ} 0 1 = ap (λ (b : Bool). cond b 0 1) (sym e ∙ cut (ltb-true (length f) 6 k)) in absurd (omega (arith, z))
      go false k = ltb-false (length f) 6 k

-- three bytes are '200'
abbrev pub is200 : List ℕ → Bool
is200 id = eqb (get_or id 0 0) 0x32 && (eqb (get_or id 1 0) 0x30 && eqb (get_or id 2 0) 0x30)

pub by_message : (f id : List ℕ) → message_in f ≡ id → has_testID f ≡ is200 id
unfolding has_testID
by_message f id e = rw e

-- the front of a frame, or a frame with more behind it, has the same ID
pub front_same : (n : ℕ) (f : List ℕ) → 6 ≤ n → has_testID (take n f) ≡ has_testID f
front_same n f h =
    by_bytes (take n f)
    ∙ rw (get_or-take n f 3 0 (omega arith), get_or-take n f 4 0 (omega arith), get_or-take n f 5 0 (omega arith)) (sym (by_bytes f))

-- at most three bytes that begin so are these
three : (l : List ℕ) → length l ≤ 3 → get_or l 0 0 ≡ 0x32 → get_or l 1 0 ≡ 0x30 → get_or l 2 0 ≡ 0x30 → l ≡ text "200"
three [] h a b c = absurd (omega (arith, a))
three (x ∷ []) h a b c = absurd (omega (arith, b))
three (x ∷ y ∷ []) h a b c = absurd (omega (arith, c))
three (x ∷ y ∷ z ∷ []) h a b c = rw (a, b, c)
three (x ∷ y ∷ z ∷ w ∷ l) h a b c = absurd (omega (arith, h))

pub test_id : (frame : List ℕ) → TestID frame
unfolding has_testID
test_id frame = (there, λ e. rw e)
  where
    l : List ℕ
    l = message_in frame

    a : Bool
    a = eqb (get_or l 0 0) 0x32

    b : Bool
    b = eqb (get_or l 1 0) 0x30

    c : Bool
    c = eqb (get_or l 2 0) 0x30

    there : a && (b && c) ≡ true → l ≡ text "200"
    there e =
        three l (simp length-take (omega arith)) (eqb-true _ _ (and_left a (b && c) e)) (eqb-true _ _ (and_left b c (and_right a (b && c) e)))
        (eqb-true _ _ (and_right b c (and_right a (b && c) e)))
