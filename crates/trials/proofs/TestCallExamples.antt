-- The examples of test calls, by computing.
use Prim.Native.Nat.{ℕ, ◌<◌}
use mathlib.Core.Path.{◌≡◌, refl, ap}
use mathlib.Core.Bool.{false}
use mathlib.Core.List.{List, [], ◌++◌}
use native.Mathlib.Omega.{arith}
use lib.ListN.{length, get_or}
use Rattle.digits.specs.Text.{text}
use Rattle.finder.specs.declared.Found.{Found}
use Rattle.finder.specs.Find.{find_in, drop_of}
use Rattle.finder.specs.Laws.{Head, find_before}
use Rattle.calls.specs.Calls.{Outcome}
use Rattle.demands.specs.History.{Conduct, ours}
use Rattle.demands.specs.TestCalls.{test_call, SaidBack, EveryTestCall}
use Rattle.trials.specs.Cases.{blank, bench}
use Rattle.trials.specs.Useless.{refuser, parrot}
use Rattle.trials.specs.TestCallExamples.{line_ends, host, TestCallExamples, TestCallsLost}
use Rattle.trials.proofs.Computing.{a_call}

pub test_call_examples : TestCallExamples
unfolding a_call
test_call_examples =
    record {
      line = refl;
      found = refl;
      said = refl;
      checked = refl;
      nested = refl;
      nested_said = refl;
      areas_pass = refl;
      heard = record { reply_long = omega arith; axes_fit_lem = refl; release_fits_lem = refl; station_byte = omega arith };
      quiet = refl;
      head = record { bang = refl; station = λ e. let f : ◌≡◌ {A = ℕ} 0x39 0x0D = ap (λ (l : List ℕ). get_or l 0 0) e in omega (arith, f); id = refl };
      nineteen = refl;
      twenty_one = refl;
      other_id = refl;
      as_before = refl;
    }

-- a 200H of 21 bytes
abbrev longer : List ℕ
longer = text "!99200123456789AB@@\r\n"

-- what the statement says of line ends with '@@', alone
said_back : (find : List ℕ → Found) (board : Conduct) → EveryTestCall find board → SaidBack find board blank host (test_call host false line_ends) line_ends 0 (test_call host false line_ends ++ [])
said_back find board e =
    e blank test_call_examples.areas_pass host test_call_examples.heard false refl line_ends [] [] refl refl

-- the head of a test call, with bytes behind it
headed : (behind : List ℕ) → Head (text "!99200" ++ behind)
headed behind = record { bang = refl; station = test_call_examples.head.station; id = refl }

-- what such finders and such boards give of it
pub test_calls_lost : TestCallsLost
unfolding a_call
test_calls_lost =
    record {
      cut = λ e. let f : ◌≡◌ {A = ℕ} 8 20 = ap drop_of (said_back find_before ours e).found in omega (arith, f);
      not_waited = λ e. let f : ◌≡◌ {A = ℕ} 8 0 = ap drop_of (e.waits [] (text "!99200\r\n") refl (headed (text "\r\n")) (omega arith)) in omega (arith, f);
      never_skips = λ e.
          let f : ◌≡◌ {A = ℕ} 20 21 =
          ap drop_of (e.looks_on [] (text "99200012345678901234") refl (headed (text "012345678901234")) (omega arith) (λ q. let g : ◌≡◌ {A = ℕ} 0x32 0x0D = ap (λ (l : List ℕ). get_or l 0 0) q in omega (arith, g))) in
          omega (arith, f);
      any_station = λ e.
          let f : ◌≡◌ {A = ℕ} 20 3 =
          ap drop_of (e (text "!\r\n20012345678901234") 0 3 refl (λ q. let g : ◌≡◌ {A = ℕ} 0 3 = ap length q in omega (arith, g))) in
          omega (arith, f);
      refused = λ e. let f : ◌≡◌ {A = ℕ} 8 0 = (said_back find_in refuser e).number in omega (arith, f);
      same_reply = λ e. let f : ◌≡◌ {A = ℕ} 0x30 0x0D = ap (λ (t : List ℕ). get_or t 6 0) (said_back find_in parrot e).says in omega (arith, f);
      other_number = λ e.
          let f : ◌≡◌ {A = ℕ} 103 6 =
          ap (λ (o : Outcome). o.number) (e blank test_call_examples.areas_pass host test_call_examples.heard longer refl (λ q. let g : ◌≡◌ {A = ℕ} 21 20 = q in omega (arith, g))) in
          omega (arith, f);
      error_reply = λ e. let f : ◌<◌ 103 101 = e (bench blank longer) refl in omega (arith, f);
    }
