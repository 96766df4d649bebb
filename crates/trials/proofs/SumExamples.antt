-- The examples of the sum's three answers, by computing.
use Prim.Native.Nat.{ℕ}
use mathlib.Core.Path.{◌≡◌, refl, ap}
use mathlib.Core.Bool.{true, false}
use mathlib.Core.List.{List}
use native.Mathlib.Omega.{arith}
use lib.ListN.{get_or}
use Rattle.digits.specs.Text.{text}
use Rattle.calls.specs.Calls.{Outcome, sum_code}
use Rattle.demands.specs.SwitchedOff.{Off, Before}
use Rattle.trials.specs.Broken.{smallest}
use Rattle.trials.specs.SumExamples.{sends, SumExamples, SumBroken}
use Rattle.trials.proofs.Computing.{a_call}

-- '2D' is not '@@'
no_off : Off (sends false "!992082D\r\n") → ⊥
no_off e = let f : ◌≡◌ {A = ℕ} 0x32 0x40 = ap (λ (t : List ℕ). get_or t 0 0) e in omega (arith, f)

pub sum_examples : SumExamples
unfolding a_call
sum_examples =
    record {
      is_true = λ _. (refl, refl);
      is_off_lem = ((refl, refl), (refl, refl));
      is_wrong_lem = λ _. (refl, refl);
      once = (λ _. (refl, refl), λ _. (refl, refl));
      before_eight = ((refl, refl), (refl, refl));
      seven_before_eight = λ _. (refl, refl);
      eight = λ _. (refl, refl);
      after_six = (λ _. (refl, refl), λ _. (refl, refl), λ _. (refl, refl));
      untested = ((refl, refl), (refl, refl), (refl, refl), (refl, refl), (refl, refl));
      small_letters = (refl, refl);
      later = ((refl, refl), λ _. (refl, refl), (refl, refl), (refl, refl), (refl, refl), (refl, refl));
      not_written = refl;
      written = refl;
      history = refl;
      stepped_back_lem = refl;
      is_sent = refl;
      not_off = no_off;
      same_error = record { frame = refl; station = refl; release = refl; held = refl; fitted = refl; heard = (refl, refl) };
    }

-- by the numbers of what is told
pub sum_broken : SumBroken
unfolding a_call
sum_broken =
    record {
      twelve_for_wrong_lem = λ e. let f : ◌≡◌ {A = ℕ} 3 2 = ap sum_code ((e (sends true "!992082E\r\n")).twelve.0 refl).0 in omega (arith, f);
      allows_always_lem = λ e. let f : ◌≡◌ {A = ℕ} 0 12 = ap (λ (o : Outcome). o.number) (e (sends true "!99208@@\r\n") refl) in omega (arith, f);
      forbids_always_lem = λ e. let f : ◌≡◌ {A = ℕ} 12 0 = ap (λ (b : Before). b.number) (e (sends true "!99208@@\r\n")) in omega (arith, f);
      twelve_last_lem = λ e. let f : ◌≡◌ {A = ℕ} 8 12 = ap (λ (o : Outcome). o.number) (e (sends true "!9A208@@\r\n") refl) in omega (arith, f);
      twelve_first_lem = λ e. let f : ◌≡◌ {A = ℕ} 12 6 = ap (λ (o : Outcome). o.number) (e (sends true "!9208@@\r\n") refl) in omega (arith, f);
      once_is_off_lem = (
        λ e. let f : ◌≡◌ {A = ℕ} 0 7 = ap (λ (b : Before). b.number) (e (sends true "!99208@D\r\n")) in omega (arith, f),
        λ e. let f : ◌≡◌ {A = ℕ} 2 3 = ap sum_code ((e (sends false "!99208@D\r\n")).tested refl) in omega (arith, f),
      );
      off_writes_nothing_lem = λ e.
          let f : ◌≡◌ {A = ℕ} 7 0 = ap (λ (b : Before). b.number) (e smallest (sends true "").sent refl (text "24E0012C0130")) in
          omega (arith, f);
      off_as_true_lem = λ e. let f : ◌≡◌ {A = ℕ} 1 2 = ap sum_code ((e (sends true "!99208@@\r\n")).tested refl) in omega (arith, f);
      wrong_untested_lem = λ e. let f : ◌≡◌ {A = ℕ} 0 3 = ap sum_code ((e (sends true "!992082E\r\n")).tested refl) in omega (arith, f);
      told_at_six_lem = λ e. let f : ◌≡◌ {A = ℕ} 3 0 = ap sum_code ((e (sends true "!992082E\r")).untested refl) in omega (arith, f);
      told_if_accepted_lem = λ e. let f : ◌≡◌ {A = ℕ} 0 1 = ap sum_code ((e (sends true "!9A20835\r\n")).tested refl) in omega (arith, f);
      writes_first_lem = λ e.
          let f : ◌≡◌ {A = ℕ} 0x30 0 = ap (λ (o : Outcome). get_or o.areas.columns 0 0) (e (sends true "!9924E0012C0130@@\r\n") refl) in
          omega (arith, f);
      forbids_all_lem = λ e. let f : ◌≡◌ {A = ℕ} 12 0 = ap (λ (o : Outcome). o.number) (e (sends true "!992082D\r\n") no_off) in omega (arith, f);
    }
