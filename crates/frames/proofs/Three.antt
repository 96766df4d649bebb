-- The sum test's three answers (02, f): a true SC is not '@@', so one of them holds.
use Rattle.std.proofs.Common.{◌≡◌, ℕ, zero, suc, ◌≤◌, Bool, true, false, cond, not, ◌&&◌, ◌||◌, eqb, ◌↔◌, List, [], ◌∷◌, length, get_or, sym, refl, ap, true≢false, arith, length-take, eqb-true}
use mathlib.Core.Bool.{false≢true}
use Rattle.digits.specs.Digits.{admits, admitted}
use Rattle.digits.specs.Text.{text}
use Rattle.digits.proofs.Inverse.{and_left, and_right}
use Rattle.frames.specs.declared.checks.Sum.{Sum}
use Rattle.frames.specs.declared.checks.Sum.TheVariants.{True, SwitchedOff, Wrong}
use Rattle.frames.specs.Frame.{sc_in, sum_true, sum_off, sum_said, is_wrong}
use Rattle.frames.specs.Laws.{OneOfThree}
use Rattle.frames.proofs.Bools.{and_false}

-- '@' is no digit, under any release and wherever it stands
pub at_sign : (r : ℕ) (s : List ℕ) (i : ℕ) → get_or s i 0 ≡ 0x40 → admitted r s ≡ false
unfolding admits
at_sign r [] i e = absurd (omega (arith, e))
at_sign r (b ∷ s) zero e = rw (e, and_false (eqb r 2))
at_sign r (b ∷ s) (suc i) e = rw (at_sign r s i e, and_false (admits r b))

-- at most two bytes that are both '@'
two : (s : List ℕ) → length s ≤ 2 → get_or s 0 0 ≡ 0x40 → get_or s 1 0 ≡ 0x40 → s ≡ text "@@"
two [] h a b = absurd (omega (arith, a))
two (x ∷ []) h a b = absurd (omega (arith, b))
two (x ∷ y ∷ []) h a b = rw (a, b)
two (x ∷ y ∷ z ∷ s) h a b = absurd (omega (arith, h))

-- which of three, as a number
abbrev place_of : Sum → ℕ
place_of True = 0
place_of SwitchedOff = 1
place_of Wrong = 2

module _ (release : ℕ) (frame : List ℕ) where
  -- a frame that is switched off has no true SC
  pub off_not_true : sum_off frame ≡ true → sum_true release frame ≡ false
  unfolding sum_off sum_true
  off_not_true e = rw (at_sign release (sc_in frame) 0 (eqb-true _ _ (and_left (eqb (get_or (sc_in frame) 0 0) 0x40) (eqb (get_or (sc_in frame) 1 0) 0x40) e)))

  -- each answer, from the two tests
  pub said_off : sum_off frame ≡ true → sum_said release frame ≡ SwitchedOff
  unfolding sum_said
  said_off e = rw (off_not_true e, e)

  pub said_true : sum_true release frame ≡ true → sum_said release frame ≡ True
  unfolding sum_said
  said_true e = rw e

  pub said_wrong : sum_off frame ≡ false → sum_true release frame ≡ false → sum_said release frame ≡ Wrong
  unfolding sum_said
  said_wrong e f = rw (f, e)

  -- test 7 as document 01 has it: neither true nor '@@'
  pub neither : is_wrong (sum_said release frame) ≡ not (sum_true release frame || sum_off frame)
  unfolding sum_said
  neither = go (sum_true release frame) (sum_off frame)
    where
      go : (t o : Bool) → is_wrong (cond t True (cond o SwitchedOff Wrong)) ≡ not (t || o)
      go true o = refl
      go false true = refl
      go false false = refl

  pub one_of_three : OneOfThree release frame
  unfolding sum_off sum_said
  one_of_three =
      record {
        off = (λ e. two (sc_in frame) (simp length-take (omega arith)) (eqb-true _ _ (and_left p q e)) (eqb-true _ _ (and_right p q e)), λ e. rw e);
        says_true = go_true (sum_true release frame) (p && q);
        says_off = go_off (sum_true release frame) (p && q) off_not_true;
        says_wrong = go_wrong (sum_true release frame) (p && q);
      }
    where
      p : Bool
      p = eqb (get_or (sc_in frame) 0 0) 0x40

      q : Bool
      q = eqb (get_or (sc_in frame) 1 0) 0x40

      said : Bool → Bool → Sum
      said t o = cond t True (cond o SwitchedOff Wrong)

      -- two that differ
      no : {A : Type 0} (s t : Sum) → (place_of s ≡ place_of t → ⊥) → s ≡ t → A
      no s t f e = absurd (f (ap place_of e))

      go_true : (t o : Bool) → (said t o ≡ True) ↔ (t ≡ true)
      go_true true o = (λ e. refl, λ e. refl)
      go_true false true = (no SwitchedOff True (λ z. omega (arith, z)), λ e. absurd (false≢true e))
      go_true false false = (no Wrong True (λ z. omega (arith, z)), λ e. absurd (false≢true e))

      go_off : (t o : Bool) → (o ≡ true → t ≡ false) → (said t o ≡ SwitchedOff) ↔ (o ≡ true)
      go_off true true h = absurd (false≢true (sym (h refl)))
      go_off true false h = (no True SwitchedOff (λ z. omega (arith, z)), λ e. absurd (false≢true e))
      go_off false true h = (λ e. refl, λ e. refl)
      go_off false false h = (no Wrong SwitchedOff (λ z. omega (arith, z)), λ e. absurd (false≢true e))

      go_wrong : (t o : Bool) → (said t o ≡ Wrong) ↔ ((t ≡ false) × (o ≡ false))
      go_wrong true o = (no True Wrong (λ z. omega (arith, z)), λ e. absurd (true≢false e.0))
      go_wrong false true = (no SwitchedOff Wrong (λ z. omega (arith, z)), λ e. absurd (true≢false e.1))
      go_wrong false false = (λ e. (refl, refl), λ e. refl)
