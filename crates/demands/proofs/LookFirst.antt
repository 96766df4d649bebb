-- Looking before storing, from the check and the act.
use Prim.Native.Nat.{ℕ, ◌≤◌}
use mathlib.Core.Path.{◌≡◌, refl, sym, ap, ◌∙◌, subst}
use mathlib.Core.Bool.{Bool, true, false, cond}
use mathlib.Core.List.{[], ◌++◌}
use native.Mathlib.Omega.{arith}
use lib.ListN.{length}
use borrow.Author.Tests.{le-leb, le-ltb}
use Rattle.kinds.specs.Kinds.{run_of}
use Rattle.kinds.proofs.Known.{room}
use Rattle.kinds.proofs.Promised.{run}
use Rattle.table.specs.declared.Action.{Action}
use Rattle.table.specs.declared.Action.TheVariants.{SayBack, CountPoints, ListPoints, ReadRun, AxisStatus, WritePoints, ClearRun, ChangeRun, ShowFlags, SetFlag}
use Rattle.table.specs.declared.Message.{Message}
use Rattle.std.specs.Prelude.{Some, None}
use Rattle.messages.specs.Asked.{Asked, Refused, Order, number_given}
use Rattle.messages.specs.declared.Shown.{Shown}
use Rattle.messages.specs.Shown.{names_run, shown_of}
use Rattle.messages.proofs.Judged.{refused_from}
use Rattle.messages.proofs.Promised.{judgement}
use Rattle.messages.proofs.Shapes.{Shape, shaped}
use Rattle.calls.specs.Calls.{Areas, Call, Outcome, area_in, written, sum_code}
use Rattle.refusals.specs.Refusals.{too_short, area_rows, check_rows, late_rows, count_rows, check_early, late, check_silent_of}
use Rattle.orders.specs.Orders.{writes}
use Rattle.orders.proofs.Judging.{not_so}
use Rattle.link.specs.Answer.{held, asked, answer_of}
use Rattle.link.specs.Check.{Looked, check_of, act_of}
use Rattle.link.proofs.Answering.{accepted}
use Rattle.link.proofs.Carrying.{fine, areas_long}
use Rattle.link.proofs.Checking.{checked_by, without_reply_lem, short_act, long_act, same_act, same_gives}
use Rattle.board.specs.Calls.{shown}
use Rattle.board.proofs.Answered.{same_cabinet}
use Rattle.demands.specs.History.{message_by}
use Rattle.demands.specs.Reading.{start_of, count_of}
use Rattle.demands.specs.Survive.{Outside}
use Rattle.demands.specs.LookFirst.{our_panel, replying_in, Halves, kind_named, bytes_said, ShownIsDone, LookFirst, ContractsAsOne, CabinetAsOne, CabinetLooks}
use Rattle.demands.proofs.Refused.{number_given_lem, changes_nothing}
use Rattle.demands.proofs.Asking.{Took, took}
use Rattle.demands.proofs.Sole.{one_answer, one_cabinet_answer}
use Rattle.demands.proofs.Written.{areas_left, wrote, only_named}

-- what is shown, by what a check answered
number_shown : (a : Asked) → (shown_of a).number ≡ number_given a
number_shown (Refused k) = refl
number_shown (Order m start count) = refl

refusal_shown : (a : Asked) → ((shown_of a).number ≡ 0 → ⊥) → ((shown_of a).message ≡ 0) × ((shown_of a).start ≡ 0) × ((shown_of a).count ≡ 0)
refusal_shown (Refused k) n = (refl, refl, refl)
refusal_shown (Order m start count) n = absurd (n refl)

-- none of a check's own rows gives 1, and none of a message's
not_one : (c : Call) → check_silent_of c ≡ 1 → ⊥
unfolding check_silent_of check_rows area_rows late_rows count_rows
not_one c =
    number_given_lem (λ (k : ℕ). k ≡ 1 → ⊥) (check_early c ++ late c) (λ e. omega (arith, e))
    (λ e. omega (arith, e), (λ e. omega (arith, e), (λ e. omega (arith, e), (λ e. omega (arith, e), (λ e. omega (arith, e), (λ e. omega (arith, e), (λ e. omega (arith, e), (λ e. omega (arith, e), (λ e. omega (arith, e), (λ e. omega (arith, e), (λ e. omega (arith, e), tt)))))))))))

never_one : (c : Call) → (shown c).number ≡ 1 → ⊥
never_one c =
    checked_by c (λ (a : Asked). (shown_of a).number ≡ 1 → ⊥)
    (λ _. of_message (asked c) (λ k e. refused_from (held c) c.sent.settings.fitted c.sent.settings.release c.sent.frame k e))
    (λ _. not_one c)
  where
    of_message : (a : Asked) → ((k : ℕ) → a ≡ Refused k → 101 ≤ k) → (shown_of a).number ≡ 1 → ⊥
    of_message (Refused k) f e = absurd (omega (arith, f k refl, e))
    of_message (Order m start count) f e = absurd (omega (arith, e))

-- the outcome of an act, by its reply area
number_done : (c : Call) (b : Bool) → too_short (length c.sent.reply) ≡ b → (act_of c).number ≡ cond b 1 (shown c).number
number_done c true e = ap (λ (o : Outcome). o.number) (short_act c e)
number_done c false e = ap (λ (o : Outcome). o.number) (long_act c e) ∙ sym (number_shown (check_of c).asked)

sum_done : (c : Call) (b : Bool) → too_short (length c.sent.reply) ≡ b → (act_of c).sum ≡ cond b None (check_of c).sum
sum_done c true e = ap (λ (o : Outcome). o.sum) (short_act c e)
sum_done c false e = ap (λ (o : Outcome). o.sum) (long_act c e)

code_done : (c : Call) (b : Bool) → too_short (length c.sent.reply) ≡ b → sum_code (act_of c).sum ≡ cond b 0 (sum_code (check_of c).sum)
code_done c true e = ap sum_code (sum_done c true e)
code_done c false e = ap sum_code (sum_done c false e)

halves : (c : Call) → Halves c (our_panel.check c) (act_of c)
halves c =
    record {
      never_one = never_one c;
      number = number_done c _ refl;
      sum = sum_done c _ refl;
      nothing_shown = refusal_shown (check_of c).asked;
      nothing_done = λ n. ap (λ (o : Outcome). o.areas) (same_act c) ∙ changes_nothing.frame c (λ z. n (ap (λ (o : Outcome). o.number) (same_act c) ∙ z));
    }

-- a write names a run
names : (a : Action) (m : Message) → Shape a m → writes a ≡ true → 1 ≤ m.start
names SayBack m s w = not_so w
names CountPoints m s w = not_so w
names ListPoints m s w = not_so w
names ReadRun m s w = not_so w
names AxisStatus m s w = not_so w
names WritePoints m s w = s.0.1
names ClearRun m s w = s.1
names ChangeRun m s w = s.0.1
names ShowFlags m s w = not_so w
names SetFlag m s w = s.1

-- what a frame's message does, where the frame is accepted, with the numbers that the frame says
module _ (c : Call) (m : Message) (t : Took m c) where
  acted : (act_of c).areas ≡ (answer_of c).areas
  acted = ap (λ (o : Outcome). o.areas) (same_act c)

  -- a write of so many from a number on, and the run that it leaves
  abbrev Wrote : ℕ → ℕ → Type 0
  Wrote start count =
      ((act_of c).areas ≡ written (held c) m.tag start count (bytes_said m count c) c.areas)
      × (run_of (kind_named m c) start count (area_in m.tag (act_of c).areas) ≡ bytes_said m count c)
      × Outside (kind_named m c) start count (area_in m.tag c.areas) (area_in m.tag (act_of c).areas)

  written_so : writes m.does ≡ true → Wrote (start_of m c.sent) (count_of m c.sent)
  written_so w =
      let r = wrote m c t w in
      let k = kind_named m c in
      let n = start_of m c.sent in
      let area = area_in m.tag c.areas in
      let own = ap (area_in m.tag) acted ∙ r.own in
      let read = run k n (count_of m c.sent) (bytes_said m (count_of m c.sent) c) area r.run.long (omega (arith, room k n (count_of m c.sent) r.run.run.held_all, r.run.long, areas_long c.areas (fine c t.heard).areas m.tag)) in (
        acted ∙ areas_left m c t true w,
        ap (run_of k n (count_of m c.sent)) own ∙ read.read_back,
        subst (λ (a : Areas). Outside k n (count_of m c.sent) area (area_in m.tag a)) (sym acted) r.only.outside,
      )

  -- with the numbers that are shown
  module _ (start count : ℕ) (known : message_by c.sent ≡ Some m) (s : start ≡ cond (names_run m) (start_of m c.sent) 0) (k : count ≡ cond (names_run m) (count_of m c.sent) 0) where
    wrote_shown : writes m.does ≡ true → Wrote start count
    wrote_shown w =
        let named = le-leb _ _ (names m.does m (shaped c.sent.settings.release c.sent.frame m known).shape w) in
        let s' : start_of m c.sent ≡ start = sym (s ∙ rw named) in
        let k' : count_of m c.sent ≡ count = sym (k ∙ rw named) in
        subst (λ (x : ℕ). Wrote start x) k' (subst (λ (x : ℕ). Wrote x (count_of m c.sent)) s' (written_so w))

    outside_shown : Outside (kind_named m c) start count (area_in m.tag c.areas) (area_in m.tag (act_of c).areas)
    outside_shown = go (writes m.does) refl
      where
        go : (b : Bool) → writes m.does ≡ b → Outside (kind_named m c) start count (area_in m.tag c.areas) (area_in m.tag (act_of c).areas)
        go true w = (wrote_shown w).2
        go false w =
            subst (λ (a : Areas). Outside (kind_named m c) start count (area_in m.tag c.areas) (area_in m.tag a)) (sym (acted ∙ areas_left m c t false w))
            (record { before_it = λ i b. refl; behind_it = λ i b. refl; as_long = refl })

shown_is_done : (c : Call) → (shown c).number ≡ 0 → 1024 ≤ length c.sent.reply → ShownIsDone c (shown c) (act_of c).areas
shown_is_done c z long =
    let zero = sym (ap (λ (o : Outcome). o.number) (same_act c)) ∙ number_done c false (le-ltb _ _ long) ∙ z in
    let a = accepted c zero in
    let asks : (check_of c).asked ≡ asked c = checked_by c (λ (x : Asked). (shown_of x).number ≡ 0 → x ≡ asked c) (λ _ _. refl) (λ n e. absurd (n e)) z in
    let e : shown c ≡ shown_of (Order a.message a.start a.count) = ap shown_of (asks ∙ a.order) in
    let j = (judgement (held c) c.sent.settings.fitted c.sent.settings.release c.sent.frame).order a.message a.start a.count a.order in
    let m = a.message in
    let t = took m c j.0 zero in
    let s : (shown c).start ≡ cond (names_run m) (start_of m c.sent) 0 = ap (λ (w : Shown). w.start) e ∙ ap (λ (n : ℕ). cond (names_run m) n 0) j.1 in
    let k : (shown c).count ≡ cond (names_run m) (count_of m c.sent) 0 = ap (λ (w : Shown). w.count) e ∙ ap (λ (n : ℕ). cond (names_run m) n 0) j.2 in
    record {
      message = m;
      id = ap (λ (w : Shown). w.message) e;
      named = j.0;
      start = s;
      count = k;
      query = λ w. acted c m t ∙ areas_left m c t false w;
      write = λ w. (wrote_shown c m t (shown c).start (shown c).count j.0 s k w).0;
      these = λ w. (wrote_shown c m t (shown c).start (shown c).count j.0 s k w).1;
      no_other = outside_shown c m t (shown c).start (shown c).count j.0 s k;
      no_other_kind = λ tag n. ap (area_in tag) (acted c m t) ∙ (only_named m c t).others tag n;
    }

pub look_first : LookFirst our_panel
unfolding check_of check_silent_of
look_first =
    record {
      as_one = same_act;
      same_refusals = halves;
      any_reply_area = λ c reply. refl;
      does_what_is_shown = shown_is_done;
    }

pub contracts_as_one : ContractsAsOne
contracts_as_one c r r' a a' reply reply' x y = one_answer answer_of c r r' a a' reply reply' (same_gives c (same_act c) x) y

pub cabinet_as_one : CabinetAsOne
cabinet_as_one c n n' l l' u u' v v' s s' a a' reply reply' x y =
    one_cabinet_answer answer_of c n n' l l' u u' v v' s s' a a' reply reply' (same_cabinet c (same_act c) x) y

pub cabinet_looks : CabinetLooks
cabinet_looks c k told m start count n l u v s a reply x y =
    let e = without_reply_lem c in
    let of : (f : Shown → ℕ) → f (shown_of (check_of (replying_in [] c)).asked) ≡ f (shown c) = λ f. ap (λ (w : Looked). f (shown_of w.asked)) e in
    let kn : k ≡ (shown c).number = x.number_is ∙ of (λ (w : Shown). w.number) in
    let w : record { number = k; message = m; start = start; count = count } ≡ shown c =
    λ i. record { number = kn i; message = (x.message_is ∙ of (λ (w : Shown). w.message)) i; start = (x.start_is ∙ of (λ (w : Shown). w.start)) i; count = (x.count_is ∙ of (λ (w : Shown). w.count)) i } in
    record {
      number = y.gives.number_is ∙ number_done c _ refl ∙ ap (cond (too_short (length c.sent.reply)) 1) (sym kn);
      sum = y.sum_is ∙ code_done c _ refl ∙ ap (cond (too_short (length c.sent.reply)) 0) (sym (x.sum_is ∙ ap (λ (w : Looked). sum_code w.sum) e));
      done = λ z long.
          subst (ShownIsDone c _) (sym y.gives.areas_are) (subst (λ (v : Shown). ShownIsDone c v (act_of c).areas) (sym w) (shown_is_done c (sym kn ∙ z) long));
    }
