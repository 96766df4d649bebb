-- The examples of looking first, by computing.
use Prim.Native.Nat.{ℕ, ◌≤◌}
use mathlib.Core.Path.{◌≡◌, refl, sym, ap, ◌∙◌, subst}
use mathlib.Core.Bool.{cond}
use mathlib.Core.List.{List}
use native.Mathlib.Omega.{arith}
use lib.ListN.{length, get_or, replicate}
use borrow.Author.Tests.{leb-true}
use Rattle.kinds.specs.Kinds.{columns_tag, run_of}
use Rattle.table.specs.declared.Message.{Message}
use Rattle.std.specs.Prelude.{Some}
use Rattle.messages.specs.Shown.{names_run}
use Rattle.calls.specs.Calls.{Areas, Call, Outcome, area_in, written, sum_code}
use Rattle.orders.specs.Orders.{writes}
use Rattle.link.specs.Answer.{held}
use Rattle.demands.specs.Reading.{start_of, count_of}
use Rattle.demands.specs.Survive.{Outside}
use Rattle.demands.specs.LookFirst.{Look, kind_named, bytes_said}
use Rattle.demands.proofs.Commands.{counting, clearing, changing}
use Rattle.trials.specs.LookExamples.{looked, replying, LookExamples, spoils_beside, not_the_last, LookBroken}
use Rattle.trials.proofs.Computing.{a_call}

pub look_examples : LookExamples
unfolding a_call
look_examples =
    record {
      no_run = (refl, refl, refl);
      query_runs = (refl, refl, refl, refl);
      write_runs = (refl, refl, refl, refl, refl);
      forty_five_lem = refl;
      forty_five_slots = refl;
      silent = ((refl, refl), (refl, refl), (refl, refl));
      error = ((refl, refl), (refl, refl));
      in_order = (refl, refl);
      short = (refl, refl, refl, refl);
      act_met = λ c. record { number_is = refl; length_is = refl; kept_is = refl; sum_is = refl; areas_are = refl; reply_is = refl };
      check_met = λ c. record { number_is = refl; sum_is = refl; message_is = refl; start_is = refl; count_is = refl };
    }

same_row : {r m : Message} → Some r ≡ Some m → r ≡ m
same_row e = cc

-- frames that are shown with the bench's reply area, which is long enough
abbrev poll : Call
poll = looked "!99208@@\r\n"

abbrev clear : Call
clear = looked "!99246001002@@\r\n"

abbrev code : Call
code = looked "!9924E0012C0430303437@@\r\n"

enough : 1024 ≤ length poll.sent.reply
enough = leb-true 1024 (length poll.sent.reply) refl

-- column 999, and the last of the lot code's columns
abbrev last : Areas → ℕ
last a = get_or a.columns 699 0

pub look_broken : LookBroken
unfolding a_call
look_broken =
    record {
      gives_one_lem = λ e. (e (replying 1023 "!99208@@\r\n")).never_one refl;
      beyond_first_lem = λ e. let f : ◌≡◌ {A = ℕ} 105 106 = (e (looked "!99246005000@@\r\n")).number in omega (arith, f);
      tells_refused_lem = λ e. let f : ◌≡◌ {A = ℕ} 0x246 0 = ((e (looked "!9929937\r\n")).nothing_shown (λ z. omega (arith, z))).0 in omega (arith, f);
      exchanges = λ e.
          let d = e clear refl enough in
          let f : ◌≡◌ {A = ℕ} 2 1 = subst (λ (m : Message). ◌≡◌ {A = ℕ} 2 (cond (names_run m) (start_of m clear.sent) 0)) (sym (same_row {r = clearing} d.named)) d.start in
          omega (arith, f);
      counts_one_lem = λ e.
          let d = e poll refl enough in
          let f : ◌≡◌ {A = ℕ} 1 0 = subst (λ (m : Message). ◌≡◌ {A = ℕ} 1 (cond (names_run m) (count_of m poll.sent) 0)) (sym (same_row {r = counting} d.named)) d.count in
          omega (arith, f);
      as_query_lem = λ e.
          let d = e clear refl enough in
          let f : ◌≡◌ {A = ℕ} 0x209 0x246 = d.id ∙ ap (λ (m : Message). m.id) (sym (same_row {r = clearing} d.named)) in
          omega (arith, f);
      untold_sum = λ e. let f : ◌≡◌ {A = ℕ} 2 0 = ap sum_code (e poll).sum in omega (arith, f);
      by_reply_area_lem = λ e. let f : ◌≡◌ {A = ℕ} 0 0x208 = ap (λ (k : Look). k.shown.message) (e poll (replicate 1023 0)) in omega (arith, f);
      without_check_lem = (
        λ e. let f : ◌≡◌ {A = ℕ} 0 7 = (e (looked "!992082E\r\n")).number in omega (arith, f),
        λ e. let f : ◌≡◌ {A = ℕ} 0 7 = ap (λ (o : Outcome). o.number) (e (looked "!992082E\r\n")) in omega (arith, f),
      );
      without_reply_lem = λ e. let f : ◌≡◌ {A = ℕ} 0 13 = ap (λ (o : Outcome). length o.text) (e poll) in omega (arith, f);
      spoils_refused_lem = λ e. let f : ◌≡◌ {A = ℕ} 0xFF 0 = ap last ((e (looked "!9929937\r\n")).nothing_done (λ z. omega (arith, z))) in omega (arith, f);
      spoils_short_lem = λ e. let f : ◌≡◌ {A = ℕ} 0xFF 0 = ap last ((e (replying 1023 "!99208@@\r\n")).nothing_done (λ z. omega (arith, z))) in omega (arith, f);
      spoils_query_lem = λ e.
          let d = e poll refl enough in
          let f : ◌≡◌ {A = ℕ} 0xFF 0 = ap last (d.query (ap (λ (m : Message). writes m.does) (sym (same_row {r = counting} d.named)))) in
          omega (arith, f);
      spoils_beside_lem = λ e.
          let d = e code refl enough in
          let q = sym (same_row {r = changing} d.named) in
          let f : ◌≡◌ {A = ℕ} 0xFF 0 =
          (subst
          (λ (m : Message). Outside (kind_named m code) 300 4 (area_in m.tag code.areas) (area_in m.tag (spoils_beside.act code).areas))
          q
          d.no_other
          ).behind_it
          699
          (leb-true 4 699 refl) in
          omega (arith, f);
      spoils_other_lem = λ e.
          let d = e clear refl enough in
          let q = ap (λ (m : Message). m.tag) (sym (same_row {r = clearing} d.named)) in
          let f : ◌≡◌ {A = ℕ} 0xFF 0 = ap (λ (area : List ℕ). get_or area 699 0) (d.no_other_kind columns_tag (λ z. omega (arith, q, z))) in
          omega (arith, f);
      without_entry_lem = λ e.
          let d = e code refl enough in
          let q = sym (same_row {r = changing} d.named) in
          let w = ap (λ (m : Message). writes m.does) q in
          let f : ◌≡◌ {A = ℕ} 0 9 =
          subst
          (λ (m : Message). ◌≡◌ {A = ℕ} 0 (written (held code) m.tag 300 4 (bytes_said m 4 code) code.areas).kept.used)
          q
          (ap (λ (a : Areas). a.kept.used) (d.write w)) in
          omega (arith, f);
      not_the_last_lem = λ e.
          let d = e code refl enough in
          let q = sym (same_row {r = changing} d.named) in
          let w = ap (λ (m : Message). writes m.does) q in
          let f : ◌≡◌ {A = ℕ} 0 0x37 =
          subst
          (λ (m : Message). get_or (run_of (kind_named m code) 300 4 (area_in m.tag (not_the_last.act code).areas)) 3 0 ≡ get_or (bytes_said m 4 code) 3 0)
          q
          (ap (λ (bytes : List ℕ). get_or bytes 3 0) (d.these w)) in
          omega (arith, f);
    }
