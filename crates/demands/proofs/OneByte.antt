-- What the sum catches of one changed byte, over whole calls.
use Prim.Native.Nat.{ℕ}
use mathlib.Core.Path.{◌≡◌, refl, sym, ap, ◌∙◌}
use mathlib.Core.Bool.{Bool, true, false, cond, not}
use mathlib.Core.List.{List}
use native.Mathlib.Omega.{arith}
use lib.ListN.{length}
use Rattle.frames.specs.declared.checks.Sum.TheVariants.{True, Wrong}
use Rattle.frames.specs.Frame.{shaped, says_number, sum_true, sum_said, station_passes}
use Rattle.frames.proofs.Three.{said_true}
use Rattle.messages.specs.Rows.{first_of}
use Rattle.std.specs.Prelude.{Option, None, Some}
use Rattle.frames.specs.declared.checks.Sum.{Sum}
use Rattle.calls.specs.Calls.{Call, Outcome, lengths_of, sum_code, unanswered}
use Rattle.refusals.specs.Refusals.{early}
use Rattle.refusals.proofs.Rows.{EarlyPassed, past_early, told_said}
use Rattle.link.specs.Answer.{answer_of}
use Rattle.link.proofs.Answering.{silent_answer}
use Rattle.demands.specs.Refused.{among}
use Rattle.demands.proofs.Own.{own as ours}
use Rattle.demands.specs.TestCalls.{handed}
use Rattle.demands.specs.SwitchedOff.{early_numbers}
use Rattle.demands.specs.OneByte.{Changed, Passes, misshapen, Caught, OnlySize, Unnoticed, OneByte}
use Rattle.demands.proofs.Refused.{told_is, by_six}
use Rattle.demands.proofs.Alike.{by_sum, fields_alike, same_answers}
use Rattle.demands.proofs.SwitchedOff.{early_of_lem, early_passes, late_number_lem, switched_off}
use Rattle.demands.proofs.Changed.{shape_is, wrong, none_under_one, each_under_two, same_station, same_message, same_content, still_shaped}

-- a call that passes, and the same with another frame
module _ {r : ℕ} {c : Call} (p : Passes r c) where
  abbrev passed : EarlyPassed (length c.sent.reply) c.sent.frame c.sent.axes c.sent.settings (lengths_of c.areas) c.areas.journal c.areas.kept
  passed = early_passes c p.to_six

  module _ (f' : List ℕ) where
    abbrev d : Call
    d = handed c.areas c.sent f'

    unshaped : shaped f' ≡ false → answer_of d ≡ unanswered None 6 c.areas
    unshaped s = by_six d passed.reply_long passed.areas passed.axes_fit_lem passed.release_fits_lem s

    by_seven : shaped f' ≡ true → sum_said c.sent.settings.release f' ≡ Wrong → answer_of d ≡ unanswered (Some Wrong) 7 c.areas
    by_seven s w =
        silent_answer d 7 (sym (late_number_lem d none ∙ rw w)) (λ z. omega (arith, z))
        ∙ ap (λ (t : Option Sum). unanswered t 7 c.areas) (told_said c.sent.settings.release f' none ∙ ap Some w)
      where
        none : first_of (early d) ≡ 0
        none =
            early_of_lem d
            ∙ past_early (length c.sent.reply) f' c.sent.axes c.sent.settings (lengths_of c.areas) c.areas.journal c.areas.kept
            (record { reply_long = passed.reply_long; areas = passed.areas; axes_fit_lem = passed.axes_fit_lem; release_fits_lem = passed.release_fits_lem; shape = s })
            0

    -- one changed byte, but for an SC that is true again
    module _ {place : ℕ} (ch : Changed place c.sent.frame f') where
      caught : (OnlySize place c.sent.frame f' → sum_true r f' ≡ true → ⊥) → Caught ours c place f'
      caught again = go (misshapen place f') refl
        where
          go : (b : Bool) → misshapen place f' ≡ b → answer_of d ≡ cond b (unanswered None 6 c.areas) (unanswered (Some Wrong) 7 c.areas)
          go true m = unshaped (shape_is ch passed.shape ∙ ap not m)
          go false m =
              by_seven (shape_is ch passed.shape ∙ ap not m)
              (ap (λ (k : ℕ). sum_said k f') p.release_is ∙ wrong ch passed.shape r p.true_sc m again)

-- a letter of the SC in another size
module _ {c : Call} (p : Passes 2 c) {place : ℕ} {f' : List ℕ} (ch : Changed place c.sent.frame f') (o : OnlySize place c.sent.frame f') where
  is_true : (f : List ℕ) → sum_true 2 f ≡ true → sum_said c.sent.settings.release f ≡ True
  is_true f e = ap (λ (k : ℕ). sum_said k f) p.release_is ∙ said_true 2 f e

  same : answer_of (handed c.areas c.sent f') ≡ answer_of c
  unfolding station_passes
  same =
      let s = (passed p).shape in
      let t = is_true f' (each_under_two ch s 2 p.true_sc refl o) ∙ sym (is_true c.sent.frame p.true_sc) in
      let k = by_sum c.areas c.sent f' c.sent.frame t in
      same_answers c.areas c.sent f' c.sent.frame
      (fields_alike c.areas c.sent f' c.sent.frame (still_shaped ch s o ∙ sym s) k.0 k.1
      (ap (λ (station : List ℕ). says_number c.sent.settings.release station c.sent.settings.station) (same_station ch s o))
      (λ _. same_message ch s o)
      (λ _. same_content ch s o))
      t

  -- of which a true sum is told
  told : (answer_of c).sum ≡ Some True
  told = told_is c ∙ told_said c.sent.settings.release c.sent.frame p.to_six ∙ ap Some (is_true c.sent.frame p.true_sc)

  unnoticed : Unnoticed ours c f'
  unnoticed =
      record {
        not_six = λ e.
            let n = ap (λ (o : Outcome). o.number) (sym same) ∙ e in
            let z : ◌≡◌ {A = ℕ} 1 0 = ap sum_code (sym told ∙ (switched_off.sum_told c).untested (ap (λ (k : ℕ). among k early_numbers) n)) in
            omega (arith, z);
        not_seven = λ e.
            let n = ap (λ (o : Outcome). o.number) (sym same) ∙ e in
            let z : ◌≡◌ {A = ℕ} 1 3 = ap sum_code (sym told ∙ (switched_off.sum_told c).seven.0 n) in
            omega (arith, z);
        same_answer = same;
      }

pub one_byte : OneByte ours
one_byte =
    record {
      under_one = λ c p place f' ch. caught p f' ch (none_under_one ch (passed p).shape 1 p.true_sc refl);
      under_two = λ c p place f' ch other. caught p f' ch (λ o _. other o);
      size_unnoticed = λ c p place f' ch o. unnoticed p ch o;
    }
