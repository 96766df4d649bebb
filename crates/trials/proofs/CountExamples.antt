-- The examples of the kept count, by computing.
use Prim.Native.Nat.{ℕ, zero, suc, ◌<◌}
use mathlib.Core.Path.{◌≡◌, refl, sym, ap}
use mathlib.Core.Bool.{true≢false}
use mathlib.Core.List.{List, [], ◌∷◌}
use native.Mathlib.Omega.{arith}
use lib.ListN.{get_or, replicate}
use Rattle.digits.specs.Text.{text}
use Rattle.journal.specs.Journal.{entry_for}
use Rattle.kinds.specs.Kinds.{points_tag}
use Rattle.std.specs.Prelude.{Some}
use Rattle.table.specs.Table.{message_of}
use Rattle.calls.specs.Calls.{Areas, Sent, Call, put_in}
use Rattle.refusals.specs.Refusals.{refusal_of}
use Rattle.demands.specs.History.{Conduct, ours, Event, frame, step_back, CountTrue, EveryHistory}
use Rattle.demands.specs.Survive.{Accepted}
use Rattle.demands.proofs.Commands.{counting, writing, clearing}
use Rattle.trials.specs.Cases.{holding, bench}
use Rattle.trials.specs.Broken.{smallest, small, lot_code, point_one, clear_one, send}
use Rattle.trials.specs.CountExamples as count
use Rattle.trials.specs.CountExamples.{handed, one, CountExamples, counts_twice, takes_named, back_given, CountBroken}
use Rattle.trials.proofs.Computing.{a_call}
use Rattle.trials.proofs.Useless.{zero_bytes}
use Rattle.trials.proofs.Broken.{kept_so}

pub count_examples : CountExamples
unfolding a_call
count_examples =
    record {
      written = (refl, refl);
      cleared = (refl, refl);
      stepped = (refl, refl, refl);
      replied = (refl, refl);
      above = (refl, refl, refl);
      wrong = (refl, refl, refl, refl);
      true_count = (refl, refl);
      other = (refl, refl, refl, refl);
      given_back = (refl, refl);
      in_order = (refl, refl, refl);
      checked = refl;
      back = (refl, refl, refl, refl);
    }

-- a board of two slots, of which the second is effective, and of which the first
abbrev second : Areas
second = put_in (holding 2) (entry_for points_tag 2 (1 ∷ replicate 39 0)) smallest

abbrev first : Areas
first = put_in (holding 2) (entry_for points_tag 1 (1 ∷ replicate 39 0)) smallest

-- point 1 written over itself; point 1, which isn't effective, cleared; a lot code and a poll with a count that is wrong
abbrev over : Call
over = bench first (text "!992440010010100000000000000000001@@\r\n")

abbrev clear : Call
clear = bench second (text "!99246001001@@\r\n")

abbrev code : Call
code = handed 3 "!9924E0012C0430303437@@\r\n"

abbrev poll : Call
poll = handed 1 "!99208@@\r\n"

record Told : Type 0 where
  over_refused : refusal_of over ≡ 0
  over_known : message_of 1 over.sent.frame ≡ Some writing
  clear_refused : refusal_of clear ≡ 0
  clear_known : message_of 1 clear.sent.frame ≡ Some clearing
  poll_refused : refusal_of poll ≡ 0
  poll_known : message_of 1 poll.sent.frame ≡ Some counting

told : Told
unfolding a_call
told =
    record {
      over_refused = refl;
      over_known = refl;
      clear_refused = refl;
      clear_known = refl;
      poll_refused = refl;
      poll_known = refl;
    }

is_over : Accepted 0x244 over
is_over = record { message = writing; named = refl; known = told.over_known; number = told.over_refused; bytes = zero_bytes 580 }

is_clear : Accepted 0x246 clear
is_clear = record { message = clearing; named = refl; known = told.clear_known; number = told.clear_refused; bytes = zero_bytes 580 }

is_poll : Accepted 0x208 poll
is_poll = record { message = counting; named = refl; known = told.poll_known; number = told.poll_refused; bytes = zero_bytes 580 }

-- the journal with the entry of point 1 is bytes
entry_bytes : (n i : ℕ) → get_or (0x50 ∷ 0 ∷ 0x2A ∷ 0 ∷ 1 ∷ replicate n 0) i 0 < 256
entry_bytes n zero = omega arith
entry_bytes n (suc zero) = omega arith
entry_bytes n (suc (suc zero)) = omega arith
entry_bytes n (suc (suc (suc zero))) = omega arith
entry_bytes n (suc (suc (suc (suc zero)))) = omega arith
entry_bytes n (suc (suc (suc (suc (suc i))))) = zero_bytes n i

one_entry : one.journal ≡ 0x50 ∷ 0 ∷ 0x2A ∷ 0 ∷ 1 ∷ replicate 575 0
unfolding a_call
one_entry = refl

one_bytes : (i : ℕ) → get_or one.journal i 0 < 256
one_bytes i = rw one_entry (entry_bytes 575 i)

-- point 2 written
abbrev second_point : Sent
second_point = send "!992440020010100000000000000000001@@\r\n"

-- a history after which the count is another
miscounted : (board : Conduct) (events : List Event) → (CountTrue (small board events).areas → ⊥) → EveryHistory board → ⊥
miscounted board events k h = k (kept_so board h events).counted

pub count_broken : CountBroken
unfolding a_call
count_broken =
    record {
      counts_twice_lem = (
        λ e. let f : ◌≡◌ {A = ℕ} 2 1 = e.written over is_over in omega (arith, f),
        miscounted counts_twice (frame point_one ∷ frame point_one ∷ []) (λ f. let g : ◌≡◌ {A = ℕ} 2 1 = f in omega (arith, g)),
      );
      takes_named_lem = (
        λ e. let f : ◌≡◌ {A = ℕ} 0 1 = e.cleared clear is_clear in omega (arith, f),
        miscounted takes_named (frame second_point ∷ frame clear_one ∷ []) (λ f. let g : ◌≡◌ {A = ℕ} 0 1 = f in omega (arith, g)),
      );
      back_given_lem = (
        λ e. let f : ◌≡◌ {A = ℕ} 1 0 = e.stepped one one_bytes refl in omega (arith, f),
        miscounted back_given (frame point_one ∷ step_back ∷ []) (λ f. let g : ◌≡◌ {A = ℕ} 1 0 = f in omega (arith, g)),
      );
      code_counts_lem = λ e. let f : ◌≡◌ {A = ℕ} 0 3 = e.other code (λ z. omega (arith, z)) (λ z. omega (arith, z)) in omega (arith, f);
      unknown_forgets_lem = λ e. let f : ◌≡◌ {A = ℕ} 0 1 = e.other (handed 1 "!99299@@\r\n") (λ z. omega (arith, z)) (λ z. omega (arith, z)) in omega (arith, f);
      refusal_forgets_lem = λ e. let f : ◌≡◌ {A = ℕ} 0 1 = e.refused (handed 1 "!99246001001@@\r\n") (λ z. omega (arith, z)) in omega (arith, f);
      back_forgets_lem = λ e. let f : ◌≡◌ {A = ℕ} 0 1 = e.refused_back (count.counting 1 smallest) (λ z. omega (arith, z)) in omega (arith, f);
      walks_slots = λ e. let f : ◌≡◌ {A = ℕ} 0x30 0x31 = ap (λ (s : List ℕ). get_or s 8 0) (e.trusts poll is_poll) in omega (arith, f);
      eleven_first_lem = λ e. let f : ◌≡◌ {A = ℕ} 11 8 = ((e.eleven (handed 1 "!9A246001001@@\r\n")).not_before (λ z. omega (arith, z))).0 in omega (arith, f);
      eleven_at_code_lem = λ e. absurd (true≢false (sym (((e.eleven code).by_id refl).0 refl)));
      eleven_at_n = λ e. absurd (true≢false (sym (((e.eleven (handed 2 "!99208@@\r\n")).by_id refl).0 refl)));
      clears_untested_lem = λ e. let f : ◌≡◌ {A = ℕ} 0 11 = ((e.eleven (handed 1 "!99246001001@@\r\n")).by_id refl).1 refl in omega (arith, f);
      content_first_lem = λ e. let f : ◌≡◌ {A = ℕ} 103 11 = ((e.eleven (handed 1 "!99244@@\r\n")).by_id refl).1 refl in omega (arith, f);
      replies_above_lem = λ e. let f : ◌≡◌ {A = ℕ} 0 11 = ((e.eleven (handed 3 "!99208@@\r\n")).by_id refl).1 refl in omega (arith, f);
      replies_eleven_lem = λ e. let f : ◌≡◌ {A = ℕ} 0x26 0 = ap (λ (s : List ℕ). get_or s 0 0) ((e.eleven (handed 1 "!99246001001@@\r\n")).nothing_done refl).0 in omega (arith, f);
      wipes_at_eleven_lem = λ e.
          let f : ◌≡◌ {A = ℕ} 0 1 = ap (λ (a : Areas). get_or a.points 0 0) ((e.eleven (bench (count.counting 2 first) (text "!99246001001@@\r\n"))).nothing_done refl).1 in
          omega (arith, f);
      back_wipes_lem = λ e.
          let f : ◌≡◌ {A = ℕ} 0 1 = ap (λ (a : Areas). get_or a.points 0 0) ((e.eleven_back (count.counting 2 first)).nothing_done refl).1 in omega (arith, f);
      nine_first_lem = λ e.
          let f : ◌≡◌ {A = ℕ} 9 11 = ((e.eleven_back (count.counting 1 smallest)).by_count refl).1 (λ z. let g : ◌≡◌ {A = ℕ} 1 0 = z in omega (arith, g)) in
          omega (arith, f);
      points_alone_lem = λ e.
          let f : ◌≡◌ {A = ℕ} 0 11 = ((e.eleven_back (count.counting 2 (small ours (frame lot_code ∷ [])).areas)).by_count refl).1 (λ z. let g : ◌≡◌ {A = ℕ} 2 0 = z in omega (arith, g)) in
          omega (arith, f);
      checks_no_count_lem = λ e. let f : ◌≡◌ {A = ℕ} 11 0 = (e (handed 1 "!99246001001@@\r\n")).number in omega (arith, f);
    }
