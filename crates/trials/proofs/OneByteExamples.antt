-- The examples of changed bytes, by computing.
use Prim.Native.Nat.{ℕ, ◌<◌}
use Prim.Native.String.{String}
use mathlib.Core.Path.{◌≡◌, refl, ap}
use mathlib.Core.Logic.{◌⊎◌, inl, inr}
use mathlib.Core.Bool.{true, false}
use mathlib.Core.List.{List}
use native.Mathlib.Omega.{arith}
use lib.Dec.{eqb, ltb}
use lib.ListN.{length, get_or, set, length-set}
use lib.Seq.{get_or-set_same, get_or-set_other}
use borrow.Author.Tests.{ltb-true, eqb-false}
use Rattle.digits.specs.Digits.{capital}
use Rattle.digits.specs.Text.{text}
use Rattle.calls.specs.Calls.{Outcome}
use Rattle.demands.specs.OneByte.{Changed, Passes, OnlySize}
use Rattle.trials.specs.OneByteExamples.{sent, OneByteExamples, OneByteBroken}
use Rattle.trials.proofs.Computing.{a_call}

any_change : (frame : List ℕ) (place b : ℕ) → place < length frame → get_or frame place 0 < 256 → b < 256 → (b ≡ get_or frame place 0 → ⊥)
    → Changed place frame (set frame place b)
any_change frame place b inside byte byte' other =
    let new = get_or-set_same frame place b 0 inside in
    record {
      same_length = length-set frame place b;
      differs = rw new other;
      elsewhere = λ k n. get_or-set_other frame place k b 0 n;
      bytes = (byte, rw new byte');
    }

passes : (release : ℕ) → (release ≡ 1) ⊎ (release ≡ 2) → Passes release (sent release "!992082D\r\n")
unfolding a_call
passes release (inl e) = rw e (record { release_is = refl; to_six = refl; true_sc = refl })
passes release (inr e) = rw e (record { release_is = refl; to_six = refl; true_sc = refl })

pub one_byte_examples : OneByteExamples
unfolding a_call
one_byte_examples =
    record {
      passes = passes;
      small_sc = record { release_is = refl; to_six = refl; true_sc = refl };
      any_change = any_change;
      second_letter = record { of_sc = inr refl; same_letter = refl };
      first_letter = record { of_sc = inl refl; same_letter = refl };
      each_byte = refl;
      test_call_lem = (refl, refl, refl, refl);
      of_20_bytes = (refl, refl);
      only_size = (refl, refl);
      of_content = (refl, refl, refl);
      code = (refl, refl, refl);
      two_changed = (refl, refl, refl);
      two_exchanged = (refl, refl, refl);
      off_changed = refl;
      off_test_call = (refl, refl, refl);
      off_code = ((refl, refl, refl), (refl, refl, refl));
    }

-- the number of an answer, the first digit of the SC of a 208H's reply, and what it leaves in column 303
abbrev number : Outcome → ℕ
number o = o.number

abbrev first_ofSC : Outcome → ℕ
first_ofSC o = get_or o.text 9 0

abbrev last_digit : Outcome → ℕ
last_digit o = get_or o.areas.columns 3 0

-- a byte of a frame that is another one, by computing
other : (f : String) (place b : ℕ) → ltb place (length (text f)) ≡ true → ltb (get_or (text f) place 0) 256 ≡ true → ltb b 256 ≡ true
    → eqb b (get_or (text f) place 0) ≡ false → Changed place (text f) (set (text f) place b)
other f place b i j k l = any_change (text f) place b (ltb-true _ _ i) (ltb-true _ _ j) (ltb-true _ _ k) (eqb-false _ _ l)

-- a letter of the content is none of the SC's, and '@' is no letter
not_sc : OnlySize 7 (text "!992120F9E\r\n") (text "!992120f9E\r\n") → ⊥
not_sc o = go o.of_sc
  where
    go : (◌≡◌ {A = ℕ} 11 12) ⊎ (◌≡◌ {A = ℕ} 10 12) → ⊥
    go (inl e) = omega (arith, e)
    go (inr e) = omega (arith, e)

not_letter : OnlySize 6 (text "!992082D\r\n") (text "!99208@D\r\n") → ⊥
unfolding capital
not_letter o = let f : ◌≡◌ {A = ℕ} 0x40 0x32 = o.same_letter in omega (arith, f)

pub one_byte_broken : OneByteBroken
unfolding a_call
one_byte_broken =
    let ok = passes 1 (inl refl) in
    let ok-two = passes 2 (inr refl) in
    let poll : String = "!992082D\r\n" in
    let small = other poll 7 0x64 refl refl refl refl in
    let letter : OnlySize 7 (text poll) (text "!992082d\r\n") = record { of_sc = inr refl; same_letter = refl } in
    record {
      without_first_lem = λ e.
          let test : String = "!99200012345678932\r\n" in
          let f : ◌≡◌ {A = ℕ} 0 7 = ap number (e (sent 1 test) (record { release_is = refl; to_six = refl; true_sc = refl }) 6 _ (other test 6 0x51 refl refl refl refl)) in
          omega (arith, f);
      seven_bits_lem = λ e. let f : ◌≡◌ {A = ℕ} 0 7 = ap number (e (sent 1 poll) ok 6 _ (other poll 6 0x41 refl refl refl refl)) in omega (arith, f);
      first_digit_lem = λ e. let f : ◌≡◌ {A = ℕ} 0 7 = ap number (e (sent 1 poll) ok 7 _ (other poll 7 0x45 refl refl refl refl)) in omega (arith, f);
      of_capitals_lem = λ e.
          let axes : String = "!992120F9E\r\n" in
          let f : ◌≡◌ {A = ℕ} 0 7 =
          ap number (e (sent 2 axes) (record { release_is = refl; to_six = refl; true_sc = refl }) 7 _ (other axes 7 0x66 refl refl refl refl) not_sc) in
          omega (arith, f);
      once_is_off_lem = λ e. let f : ◌≡◌ {A = ℕ} 0 7 = ap number (e (sent 2 poll) ok-two 6 _ (other poll 6 0x40 refl refl refl refl) not_letter) in omega (arith, f);
      either_always_lem = λ e. let f : ◌≡◌ {A = ℕ} 0 7 = ap number (e (sent 1 poll) ok 7 _ small) in omega (arith, f);
      capitals_always_lem = λ e. (e (sent 2 poll) ok-two 7 _ small letter).not_seven refl;
      all_wrong_lem = λ e. (e (sent 2 poll) ok-two 7 _ small letter).not_seven refl;
      all_six_lem = λ e. (e (sent 2 poll) ok-two 7 _ small letter).not_six refl;
      small_for_small_lem = λ e.
          let f : ◌≡◌ {A = ℕ} 0x62 0x42 = ap first_ofSC (e (sent 2 poll) ok-two 7 _ small letter).same_answer in
          omega (arith, f);
      seven_for_six_lem = λ e. let f : ◌≡◌ {A = ℕ} 7 6 = ap number (e (sent 1 poll) ok 9 _ (other poll 9 0x0B refl refl refl refl)) in omega (arith, f);
      done_then_refused_lem = λ e.
          let code : String = "!9924E0012C04303034373F\r\n" in
          let f : ◌≡◌ {A = ℕ} 0x38 0 =
          ap last_digit (e (sent 1 code) (record { release_is = refl; to_six = refl; true_sc = refl }) 20 _ (other code 20 0x38 refl refl refl refl)) in
          omega (arith, f);
    }
