-- The laws of specs/Laws.antt.
use Prim.Native.Nat.{ℕ, suc, ◌+◌, ◌-◌, ◌≤◌, ◌<◌}
use mathlib.Core.Path.{◌≡◌, refl, sym, ap, ap₂, ◌∙◌, subst}
use mathlib.Core.Bool.{Bool, true, false, cond, not, ◌&&◌}
use mathlib.Core.List.{List, [], ◌∷◌, ◌++◌, append_assoc}
use native.Mathlib.Nat.{add-zero}
use native.Mathlib.Omega.{arith}
use lib.Dec.{ltb, eqb}
use lib.ListN.{length, take, drop, get_or, length-append, length-drop}
use lib.Seq.{drop-append-add, get_or-drop}
use borrow.Author.Tests.{lt-ltb, le-ltb, le-leb, lt-leb, ltb-true, ltb-false, eq-eqb, ne_eqb, eqb-true}
use Rattle.frames.specs.Frame.{command, CR, LF, has_testID}
use Rattle.digits.proofs.Bools.{either, was_false, was_not}
use Rattle.digits.proofs.Inverse.{and_left, and_right}
use Rattle.frames.proofs.Bools.{and_false}
use Rattle.frames.proofs.TestID.{by_bytes, six, front_same, test_id}
use Rattle.finder.specs.declared.Found.{Found}
use Rattle.finder.specs.declared.Found.TheVariants.{Frame, Nothing, Wait, TooLong}
use Rattle.finder.specs.Find.{place_of, pair_first, pair_of, begins_test_call, skipped, skip_of, from_it, window_of, by_length, by_pair, find_in, part_of}
use Rattle.finder.specs.Laws.{FullWindow, Head, last_two, Quiet, find_before, later_by, TestCallRule, FoundAsBefore}
use Rattle.finder.proofs.Search.{not_CR, rest_is, stands_there}
use Rattle.finder.proofs.Finding.{is_cut, is_whole, is_long}

pub full_window : (received : List ℕ) → FullWindow received
full_window s h t l k =
    sym (is_long s (skip_of s) refl h (ap begins_test_call (rest_is s (skip_of s)) ∙ t) (window_of s) (pair_of (window_of s)) (ap (take 1023) (sym (rest_is s (skip_of s)))) refl (omega arith) l)

-- a comparison, with so much more on both sides
ltb_more : (k a n : ℕ) → ltb (k + a) (k + n) ≡ ltb a n
ltb_more k a n = go (ltb a n) refl
  where
    go : (b : Bool) → ltb a n ≡ b → ltb (k + a) (k + n) ≡ b
    go true e = let h = ltb-true a n e in lt-ltb (k + a) (k + n) (omega arith)
    go false e = let h = ltb-false a n e in le-ltb (k + a) (k + n) (omega arith)

-- what each rule finds, with so many bytes before
length_more : (k a : ℕ) (bytes : List ℕ) → by_length (k + a) bytes ≡ later_by k (by_length a bytes)
length_more k a bytes = go (ltb (length bytes) 20)
  where
    go : (b : Bool) → cond b (Wait (k + a)) (Frame (k + a) (k + a + 20)) ≡ later_by k (cond b (Wait a) (Frame a (a + 20)))
    go true = refl
    go false = ap (Frame (k + a)) (omega arith)

pair_more : (k a : ℕ) (window : List ℕ) → by_pair (k + a) window ≡ later_by k (by_pair a window)
pair_more k a window = first (ltb (pair_of window) (length window))
  where
    p : ℕ
    p = pair_of window

    second : (b : Bool) → cond b (TooLong (k + a + 1)) (Wait (k + a)) ≡ later_by k (cond b (TooLong (a + 1)) (Wait a))
    second true = ap TooLong (omega arith)
    second false = refl

    first : (b : Bool) → cond b (Frame (k + a) (k + a + (p + 2))) (cond (eqb (length window) 1023) (TooLong (k + a + 1)) (Wait (k + a)))
        ≡ later_by k (cond b (Frame a (a + (p + 2))) (cond (eqb (length window) 1023) (TooLong (a + 1)) (Wait a)))
    first true = ap (Frame (k + a)) (omega arith)
    first false = second (eqb (length window) 1023)

-- bytes of which none is a '!' that stays: what is found behind them counts from their start
module _ (before s : List ℕ) (e : skip_of (before ++ s) ≡ length before + skip_of s) where
  from : from_it (before ++ s) ≡ from_it s
  from = rw (e, drop-append-add before s (skip_of s))

  pub later : find_in (before ++ s) ≡ later_by (length before) (find_in s)
  unfolding find_in
  later = rw (from, e, length-append before s, ltb_more (length before) (skip_of s) (length s)) (first (ltb (skip_of s) (length s)))
    where
      k : ℕ
      k = length before

      a : ℕ
      a = skip_of s

      second : (b : Bool) → cond b (by_length (k + a) (from_it s)) (by_pair (k + a) (window_of s)) ≡ later_by k (cond b (by_length a (from_it s)) (by_pair a (window_of s)))
      second true = length_more k a (from_it s)
      second false = pair_more k a (window_of s)

      first : (b : Bool)
          → cond (not b) (Nothing (k + length s)) (cond (begins_test_call (from_it s)) (by_length (k + a) (from_it s)) (by_pair (k + a) (window_of s)))
          ≡ later_by k (cond (not b) (Nothing (length s)) (cond (begins_test_call (from_it s)) (by_length a (from_it s)) (by_pair a (window_of s))))
      first true = second (begins_test_call (from_it s))
      first false = refl

-- bytes without '!' are such
quiet_skip : (before s : List ℕ) → Quiet before → skip_of (before ++ s) ≡ length before + skip_of s
quiet_skip [] s q = omega arith
quiet_skip (x ∷ t) s q = go (eqb x command) q (quiet_skip t s)
  where
    go : (b : Bool) → cond b 0 (suc (place_of command t)) ≡ suc (length t) → (Quiet t → skip_of (t ++ s) ≡ length t + skip_of s)
        → cond (b && not (skipped (x ∷ (t ++ s)))) 0 (suc (skip_of (t ++ s))) ≡ suc (length t) + skip_of s
    go true q ih = absurd (omega (arith, q))
    go false q ih = omega (arith, ih (omega (arith, q)))

-- a truth value is not both
differ : {b : Bool} → b ≡ true → b ≡ false → ⊥
differ t f = let z : ◌≡◌ {A = ℕ} 0 1 = ap (λ (b : Bool). cond b 0 1) (sym t ∙ f) in omega (arith, z)

-- CR LF at the front, by its two bytes
pair_two : (s : List ℕ) → pair_first s ≡ true → take 2 s ≡ CR ∷ LF ∷ []
pair_two [] e = absurd (differ e refl)
pair_two (x ∷ []) e = absurd (differ e refl)
pair_two (x ∷ y ∷ s) e = rw (eqb-true x CR (and_left (eqb x CR) (eqb y LF) e), eqb-true y LF (and_right (eqb x CR) (eqb y LF) e))

two_pair : (s : List ℕ) → take 2 s ≡ CR ∷ LF ∷ [] → pair_first s ≡ true
two_pair [] e = absurd (omega (arith, ap length e))
two_pair (x ∷ []) e = absurd (omega (arith, ap length e))
two_pair (x ∷ y ∷ s) e = rw (eq-eqb x CR (ap (λ (l : List ℕ). get_or l 0 0) e), eq-eqb y LF (ap (λ (l : List ℕ). get_or l 1 0) e))

not_two : (s : List ℕ) → (take 2 s ≡ CR ∷ LF ∷ [] → ⊥) → pair_first s ≡ false
not_two s n = go (pair_first s) refl
  where
    go : (b : Bool) → pair_first s ≡ b → pair_first s ≡ false
    go true e = absurd (n (pair_two s e))
    go false e = e

-- a head by its fields, and as the finder asks for it
begins : (d : List ℕ) → Head d → begins_test_call d ≡ true
begins d h = rw (not_two (drop 1 d) h.station, (test_id d).1 h.id)

head : (d : List ℕ) → get_or d 0 0 ≡ command → begins_test_call d ≡ true → Head d
head d e t =
    record {
      bang = e;
      station = λ q. differ (two_pair (drop 1 d) q) (was_false refl (and_left (not (pair_first (drop 1 d))) (has_testID d) t));
      id = (test_id d).0 (and_right (not (pair_first (drop 1 d))) (has_testID d) t);
    }

-- a '!' that stays is the first
stays_first : (s : List ℕ) → 1 ≤ length s → get_or s 0 0 ≡ command → skipped s ≡ false → 0 ≡ skip_of s
stays_first [] h e t = absurd (omega arith)
stays_first (x ∷ s) h e t = rw (eq-eqb x command e, t)

-- behind bytes without '!', at the head of a test call
module _ (before bytes : List ℕ) (q : Quiet before) (h : Head bytes) where
  six_there : 6 ≤ length bytes
  six_there = six bytes ((test_id bytes).1 h.id)

  call : begins_test_call (take (length bytes - 0) (drop 0 bytes)) ≡ true
  call = ap begins_test_call (rest_is bytes 0) ∙ begins bytes h

  found : 20 ≤ length bytes → last_two bytes ≡ CR ∷ LF ∷ [] → find_in (before ++ bytes) ≡ Frame (length before) (length before + 20)
  found l p =
      let stays_so : skipped bytes ≡ false = rw (begins bytes h, two_pair (drop 18 bytes) p, le-leb 20 (length bytes) l) in
      let whole = is_whole bytes 0 (stays_first bytes (omega arith) h.bang stays_so) (omega arith) call (omega (arith, ap length (rest_is bytes 0))) in
      later before bytes (quiet_skip before bytes q) ∙ ap (later_by (length before)) (sym whole) ∙ ap₂ Frame (omega arith) (omega arith)

  waits : length bytes < 20 → find_in (before ++ bytes) ≡ Wait (length before)
  waits l =
      let stays_so : skipped bytes ≡ false = rw (begins bytes h, lt-leb 20 (length bytes) l) in
      let cut = is_cut bytes 0 (stays_first bytes (omega (arith, six_there)) h.bang stays_so) (omega (arith, six_there)) call (omega (arith, ap length (rest_is bytes 0))) in
      later before bytes (quiet_skip before bytes q) ∙ ap (later_by (length before)) (sym cut) ∙ ap Wait (omega arith)

looks_on : (before bytes : List ℕ) → Quiet before → Head (command ∷ bytes) → 19 ≤ length bytes → (last_two (command ∷ bytes) ≡ CR ∷ LF ∷ [] → ⊥)
    → find_in (before ++ (command ∷ bytes)) ≡ later_by (length before + 1) (find_in bytes)
looks_on before bytes q h l n =
    ap find_in (sym (append_assoc before (command ∷ []) bytes))
    ∙ later (before ++ (command ∷ [])) bytes (ap skip_of (append_assoc before (command ∷ []) bytes) ∙ quiet_skip before (command ∷ bytes) q ∙ one)
    ∙ ap (λ (k : ℕ). later_by k (find_in bytes)) (length-append before (command ∷ []))
  where
    gone : skipped (command ∷ bytes) ≡ true
    gone = rw (begins (command ∷ bytes) h, not_two (drop 18 (command ∷ bytes)) n, le-leb 20 (length (command ∷ bytes)) (omega arith))

    one : length before + skip_of (command ∷ bytes) ≡ length (before ++ (command ∷ [])) + skip_of bytes
    one = rw gone (simp length-append (omega arith))

-- where no test call begins at the first '!', it stays
stays_place : (s : List ℕ) → begins_test_call (drop (place_of command s) s) ≡ false → skip_of s ≡ place_of command s
stays_place [] t = refl
stays_place (x ∷ s) t = go (eqb x command) t (stays_place s)
  where
    go : (b : Bool) → begins_test_call (drop (cond b 0 (suc (place_of command s))) (x ∷ s)) ≡ false
        → (begins_test_call (drop (place_of command s) s) ≡ false → skip_of s ≡ place_of command s)
        → cond (b && not (skipped (x ∷ s))) 0 (suc (skip_of s)) ≡ cond b 0 (suc (place_of command s))
    go true t ih = rw t
    go false t ih = ap suc (ih t)

no_call : (received : List ℕ) → begins_test_call (drop (place_of command received) received) ≡ false → find_in received ≡ find_before received
unfolding find_in
no_call s t = rw (stays_place s t, t)

-- one byte on, where no pair begins
one_on : {k : ℕ} (x : ℕ) (s : List ℕ) → pair_first (x ∷ s) ≡ false → k ≤ pair_of s → suc k ≤ pair_of (x ∷ s)
one_on x s e h = rw e (omega arith)

-- no pair begins in the first six bytes of a test call
six_on : (d : List ℕ) → get_or d 0 0 ≡ command → begins_test_call d ≡ true → 6 ≤ pair_of (take 1023 d)
six_on d e t = go d e t (six d (and_right (not (pair_first (drop 1 d))) (has_testID d) t)) (by_bytes d)
  where
    go : (d : List ℕ) → get_or d 0 0 ≡ command → begins_test_call d ≡ true → 6 ≤ length d
        → has_testID d ≡ eqb (get_or d 3 0) 0x32 && (eqb (get_or d 4 0) 0x30 && eqb (get_or d 5 0) 0x30) → 6 ≤ pair_of (take 1023 d)
    go [] e t h i = absurd (omega arith)
    go (a ∷ []) e t h i = absurd (omega arith)
    go (a ∷ b ∷ []) e t h i = absurd (omega arith)
    go (a ∷ b ∷ c ∷ []) e t h i = absurd (omega arith)
    go (a ∷ b ∷ c ∷ x ∷ []) e t h i = absurd (omega arith)
    go (a ∷ b ∷ c ∷ x ∷ y ∷ []) e t h i = absurd (omega arith)
    go (a ∷ b ∷ c ∷ x ∷ y ∷ z ∷ s) e t h i =
        let p = eqb b CR && eqb c LF in
        let k = sym i ∙ and_right (not p) (has_testID (a ∷ b ∷ c ∷ x ∷ y ∷ z ∷ s)) t in
        let n : p ≡ false = was_false refl (and_left (not p) (has_testID (a ∷ b ∷ c ∷ x ∷ y ∷ z ∷ s)) t) in
        let m = eqb y 0x30 && eqb z 0x30 in
        let x-is = eqb-true x 0x32 (and_left (eqb x 0x32) m k) in
        let y-is = eqb-true y 0x30 (and_left (eqb y 0x30) (eqb z 0x30) (and_right (eqb x 0x32) m k)) in
        let z-is = eqb-true z 0x30 (and_right (eqb y 0x30) (eqb z 0x30) (and_right (eqb x 0x32) m k)) in
        let cx : eqb c CR && eqb x LF ≡ false = rw (ne_eqb x LF (λ q. omega (arith, x-is, q))) (and_false (eqb c CR)) in
        let u = take 1017 s in
        one_on a (b ∷ c ∷ x ∷ y ∷ z ∷ u) (not_CR a (b ∷ c ∷ x ∷ y ∷ z ∷ u) (λ q. omega (arith, e, q)))
        (one_on b (c ∷ x ∷ y ∷ z ∷ u) n
        (one_on c (x ∷ y ∷ z ∷ u) cx
        (one_on x (y ∷ z ∷ u) (not_CR x (y ∷ z ∷ u) (λ q. omega (arith, x-is, q)))
        (one_on y (z ∷ u) (not_CR y (z ∷ u) (λ q. omega (arith, y-is, q))) (one_on z u (not_CR z u (λ q. omega (arith, z-is, q))) (omega arith))))))

-- so where one begins at the first '!', what is found there by document 01's rule is a 200H frame
module _ (s : List ℕ) where
  -- the bytes from the first '!' on
  abbrev d : List ℕ
  d = drop (place_of command s) s

  first : place_of command s < length s → get_or d 0 0 ≡ command
  first h = get_or-drop (place_of command s) s 0 0 ∙ ap (λ (i : ℕ). get_or s i 0) (add-zero (place_of command s)) ∙ stands_there command s h

  abbrev Called : Found → Type 0
  Called (Frame start used) = has_testID (take (used - start) (drop start s)) ≡ true
  Called (Nothing drop) = Unit {0}
  Called (Wait drop) = Unit {0}
  Called (TooLong drop) = Unit {0}

  called : begins_test_call d ≡ true → Called (find_before s)
  called t =
      either Called (not (ltb (place_of command s) (length s))) (λ _. tt)
      (λ h. either Called (ltb (pair_of w) (length w)) (λ _. at_pair (ltb-true _ _ (was_not h))) (λ _. either Called (eqb (length w) 1023) (λ _. tt) (λ _. tt)))
    where
      w : List ℕ
      w = take 1023 d

      at_pair : place_of command s < length s → has_testID (take (place_of command s + (pair_of w + 2) - place_of command s) d) ≡ true
      at_pair h =
          let n : place_of command s + (pair_of w + 2) - place_of command s ≡ pair_of w + 2 = omega arith in
          ap (λ (i : ℕ). has_testID (take i d)) n ∙ front_same (pair_of w + 2) d (omega (arith, six_on d (first h) t))
          ∙ and_right (not (pair_first (drop 1 d))) (has_testID d) t

  -- a test call at the first '!' has its head there
  headed : begins_test_call d ≡ true → Head d
  headed t = head d (first (omega (arith, six d (and_right (not (pair_first (drop 1 d))) (has_testID d) t), length-drop (place_of command s) s))) t

  as_before : (Head d → ⊥) → find_in s ≡ find_before s
  as_before n = choose (begins_test_call d) refl
    where
      choose : (b : Bool) → begins_test_call d ≡ b → find_in s ≡ find_before s
      choose true t = absurd (n (headed t))
      choose false t = no_call s t

pub test_call_rule : TestCallRule find_in
test_call_rule = record { found = found; waits = waits; looks_on = looks_on; as_before = as_before }

pub found_as_before : FoundAsBefore find_in
found_as_before s start used e i = as_before s (λ h. i ((test_id (part_of (Frame start used) s)).0 (subst (Called s) e (called s (begins (d s) h))))) ∙ e
