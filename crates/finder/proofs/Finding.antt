-- What the finder's searches give, case by case.
use Prim.Native.Nat.{ℕ, suc, ◌+◌, ◌-◌, ◌≤◌, ◌<◌}
use mathlib.Core.Path.{◌≡◌, refl, ◌∙◌}
use mathlib.Core.Bool.{Bool, true, false, cond, not, ◌&&◌}
use mathlib.Core.List.{List, [], ◌∷◌}
use native.Mathlib.Omega.{arith}
use lib.ListN.{length, take, drop, length-take, length-drop}
use lib.Dec.{ltb, eqb}
use borrow.Author.Tests.{lt-ltb, le-ltb, eq-eqb, ne_eqb, ltb-true, ltb-false}
use Rattle.frames.specs.Frame.{CR, LF}
use Rattle.finder.specs.declared.Found.{Found}
use Rattle.finder.specs.declared.Found.TheVariants.{Frame, Nothing, Wait, TooLong}
use Rattle.finder.specs.Find.{pair_of, begins_test_call, skip_of, from_it, window_of, by_length, by_pair, find_in}
use Rattle.finder.proofs.Search.{rest_is}

-- a pair has two bytes
pub pair_within : (s : List ℕ) → pair_of s < length s → pair_of s + 2 ≤ length s
pair_within [] h = absurd (omega arith)
pair_within (x ∷ []) h = absurd (omega arith)
pair_within (x ∷ y ∷ s) h = go (eqb x CR && eqb y LF) (pair_within (y ∷ s)) h
  where
    go : (b : Bool) → (pair_of (y ∷ s) < suc (length s) → pair_of (y ∷ s) + 2 ≤ suc (length s))
        → cond b 0 (suc (pair_of (y ∷ s))) < suc (suc (length s)) → cond b 0 (suc (pair_of (y ∷ s))) + 2 ≤ suc (suc (length s))
    go true ih h = omega arith
    go false ih h = omega (arith, ih (omega arith))

-- the counts lie within so many bytes
abbrev pub Within : Found → ℕ → Type 0
Within (Frame start used) n = (start ≤ used) × (used ≤ n)
Within (Nothing drop) n = drop ≤ n
Within (Wait drop) n = drop ≤ n
Within (TooLong drop) n = drop ≤ n

pub within : (s : List ℕ) → Within (find_in s) (length s)
unfolding find_in
within s = first (ltb k n) refl
  where
    k : ℕ
    k = skip_of s

    n : ℕ
    n = length s

    w : List ℕ
    w = window_of s

    p : ℕ
    p = pair_of w

    long : length (from_it s) ≡ n - k
    long = length-drop k s

    fits : k < n → k + length w ≤ n
    fits h = simp (length-take, length-drop) (omega arith)

    last : (b : Bool) → k < n → Within (cond b (TooLong (k + 1)) (Wait k)) n
    last true h = omega arith
    last false h = omega arith

    by_pair_lem : (b : Bool) → ltb p (length w) ≡ b → k < n → Within (cond b (Frame k (k + (p + 2))) (cond (eqb (length w) 1023) (TooLong (k + 1)) (Wait k))) n
    by_pair_lem true e h = (omega arith, omega (arith, pair_within w (ltb-true p (length w) e), fits h))
    by_pair_lem false e h = last (eqb (length w) 1023) h

    by_length_lem : (b : Bool) → ltb (length (from_it s)) 20 ≡ b → k < n → Within (cond b (Wait k) (Frame k (k + 20))) n
    by_length_lem true e h = omega arith
    by_length_lem false e h = (omega arith, omega (arith, ltb-false (length (from_it s)) 20 e, long))

    second : (b : Bool) → k < n → Within (cond b (by_length k (from_it s)) (by_pair k w)) n
    second true h = by_length_lem (ltb (length (from_it s)) 20) refl h
    second false h = by_pair_lem (ltb p (length w)) refl h

    first : (b : Bool) → ltb k n ≡ b → Within (cond (not b) (Nothing n) (cond (begins_test_call (from_it s)) (by_length k (from_it s)) (by_pair k w))) n
    first true e = second (begins_test_call (from_it s)) (ltb-true k n e)
    first false e = omega arith

pub is_nothing : (s : List ℕ) (start : ℕ) → start ≡ skip_of s → length s ≤ start → Nothing (length s) ≡ find_in s
unfolding find_in
is_nothing s start e h = rw (← e, le-ltb start (length s) h)

-- at the '!' where the search stopped
module _ (s : List ℕ) (start : ℕ) (e : start ≡ skip_of s) (h : start < length s) where
  -- the bytes from it on, as the code lends them
  abbrev bytes : List ℕ
  bytes = take (length s - start) (drop start s)

  same : bytes ≡ from_it s
  same = rest_is s start ∙ rw e

  module _ (t : begins_test_call bytes ≡ true) where
    pub is_cut : length bytes < 20 → Wait start ≡ find_in s
    unfolding find_in
    is_cut k = rw (← same, t, ← e, lt-ltb start (length s) h, lt-ltb (length bytes) 20 k)

    pub is_whole : 20 ≤ length bytes → Frame start (start + 20) ≡ find_in s
    unfolding find_in
    is_whole k = rw (← same, t, ← e, lt-ltb start (length s) h, le-ltb (length bytes) 20 k)

  module _ (t : begins_test_call bytes ≡ false) (w : List ℕ) (n : ℕ) (f : w ≡ take 1023 bytes) (g : n ≡ pair_of w) where
    pub is_frame : n < length w → Frame start (start + (n + 2)) ≡ find_in s
    unfolding find_in
    is_frame k = rw (← same, t, ← f, ← g, ← e, lt-ltb start (length s) h, lt-ltb n (length w) k)

    pub is_long : length w ≤ n → length w ≡ 1023 → TooLong (start + 1) ≡ find_in s
    unfolding find_in
    is_long k l = rw (← same, t, ← f, ← g, ← e, lt-ltb start (length s) h, le-ltb n (length w) k, eq-eqb (length w) 1023 l)

    pub is_wait : length w ≤ n → (length w ≡ 1023 → ⊥) → Wait start ≡ find_in s
    unfolding find_in
    is_wait k l = rw (← same, t, ← f, ← g, ← e, lt-ltb start (length s) h, le-ltb n (length w) k, ne_eqb (length w) 1023 l)
