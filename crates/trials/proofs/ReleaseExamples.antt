-- The examples of releases, by computing.
use Prim.Native.Nat.{ℕ}
use mathlib.Core.Path.{◌≡◌, refl, ap, subst, sym}
use mathlib.Core.Logic.{◌⊎◌, ⊎_elim}
use mathlib.Core.Bool.{true, true≢false}
use mathlib.Core.List.{List}
use native.Mathlib.Omega.{arith}
use lib.ListN.{get_or}
use Rattle.digits.specs.Text.{text}
use Rattle.calls.specs.Calls.{Outcome}
use Rattle.demands.specs.History.{Conduct}
use Rattle.demands.specs.Reading.{frame_with, asking}
use Rattle.demands.specs.TestCalls.{handed}
use Rattle.demands.specs.Releases.{EitherSize, Either}
use Rattle.trials.specs.Cases.{blank}
use Rattle.trials.specs.ReleaseExamples.{asks, host, ReleaseExamples, capitals_always, id_as_sent, sum_of_capitals, ReleasesBroken}
use Rattle.trials.proofs.Computing.{a_call}

-- of a release that is 1 or 2
both : (P : ℕ → Type 0) → P 1 → P 2 → (release : ℕ) → (release ≡ 1) ⊎ (release ≡ 2) → P release
both P p q release = ⊎_elim (λ e. subst P (sym e) p) (λ e. subst P (sym e) q)

-- a 24EH is no 200H, and a 200H is
of_24E : EitherSize (host 2) true (text "9a") (text "24e0012c024a4C") (text "1a") (text "24E0012C024A4C")
unfolding a_call
of_24E =
    record {
      station_is = refl;
      sc_true = λ _. refl;
      sc_off = λ e. absurd (true≢false e);
      test_call_lem = λ e. absurd (let f : ◌≡◌ {A = ℕ} 0x34 0x30 = ap (λ (t : List ℕ). get_or t 1 0) e in omega (arith, f));
      other = λ _. refl;
    }

of_200 : EitherSize (host 2) true (text "9a") (text "200abcdefABCD") (text "aC") (text "200abcdefABCD")
unfolding a_call
of_200 = record { station_is = refl; sc_true = λ _. refl; sc_off = λ e. absurd (true≢false e); test_call_lem = λ _. refl; other = λ n. absurd (n refl) }

pub release_examples : ReleaseExamples
unfolding a_call
release_examples =
    record {
      in_id = (refl, refl);
      in_station = (refl, refl);
      in_content = (refl, refl);
      in_sc = (refl, refl);
      no_letter = both _ refl refl;
      ten_bytes = both _ refl refl;
      small_test_call = refl;
      not_g = (refl, refl, refl);
      as_sent = (refl, refl);
      reply = refl;
      repeated = refl;
      read_back = refl;
      none = (refl, refl, refl);
      before_six = (refl, refl);
      after_five = refl;
      errors = (refl, refl);
      either_size = of_24E;
      either_test_call = of_200;
      accepted = refl;
    }

-- what the statement says of the 24EH in small letters
said : (board : Conduct) → Either board
    → board.answer (handed blank (host 2) (frame_with (text "9a") (text "24e0012c024a4C") (text "1a"))) ≡ board.answer (asking blank (host 2) true (text "24E0012C024A4C"))
said board e = e blank (host 2) refl true (text "9a") (text "24e0012c024a4C") (text "1a") (text "24E0012C024A4C") of_24E

pub releases_broken : ReleasesBroken
unfolding a_call
releases_broken =
    record {
      capitals_always_lem = λ e. let f : ◌≡◌ {A = ℕ} 7 0 = ap (λ (o : Outcome). o.number) (said capitals_always e) in omega (arith, f);
      either_always_lem = λ e.
          let f : ◌≡◌ {A = ℕ} 0x45 0x65 = ap (λ (t : List ℕ). get_or t 2 0) (e (asks blank 1 "!9A24e0012C0130@@\r\n") refl).id in
          omega (arith, f);
      id_as_sent_lem = λ e. let f : ◌≡◌ {A = ℕ} 0x65 0x45 = ap (λ (o : Outcome). get_or o.text 5 0) (said id_as_sent e) in omega (arith, f);
      sum_of_capitals_lem = λ e. let f : ◌≡◌ {A = ℕ} 7 0 = ap (λ (o : Outcome). o.number) (said sum_of_capitals e) in omega (arith, f);
      ten_in_capitals_lem = λ e.
          let f : ◌≡◌ {A = ℕ} 0x41 0x61 =
          ap (λ (o : Outcome). get_or o.text 6 0) (e blank (host 2) refl true (text "9a") (text "200abcdefABCD") (text "aC") (text "200abcdefABCD") of_200) in
          omega (arith, f);
      small_always_lem = λ e.
          let f : ◌≡◌ {A = ℕ} 0x41 0x61 =
          ap (λ (t : List ℕ). get_or t 2 0) (e (asks blank 1 "!9A208@@\r\n") (λ q. let g : ◌≡◌ {A = ℕ} 0x38 0x30 = ap (λ (t : List ℕ). get_or t 2 0) q in omega (arith, g))) in
          omega (arith, f);
      small_replies_lem = λ e.
          let f : ◌≡◌ {A = ℕ} 0x61 0x41 = ap (λ (o : Outcome). get_or o.text 2 0) (e (asks blank 1 "!9A208@@\r\n") refl) in
          omega (arith, f);
    }
