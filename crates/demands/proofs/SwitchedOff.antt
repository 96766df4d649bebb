-- Demand 2 of the sum.
use Prim.Native.Nat.{ℕ, ◌≤◌, ◌<◌}
use mathlib.Core.Path.{◌≡◌, refl, sym, ap, ◌∙◌}
use mathlib.Core.Bool.{Bool, true, false, cond, not, ◌&&◌, ◌||◌, true≢false}
use mathlib.Core.List.{List, []}
use native.Mathlib.Omega.{arith}
use lib.Dec.{eqb}
use lib.ListN.{length}
use borrow.Author.Tests.{eqb-true, eqb-false}
use Rattle.digits.specs.Laid.{laid}
use Rattle.digits.specs.Text.{text}
use Rattle.frames.specs.declared.checks.Sum.{Sum}
use Rattle.frames.specs.declared.checks.Sum.TheVariants.{True, SwitchedOff, Wrong}
use Rattle.frames.specs.Frame.{content_in, sc_of, sum_true, sum_off, sum_said, is_off, is_wrong, station_passes}
use Rattle.frames.proofs.Bools.{and_false}
use Rattle.frames.proofs.Three.{neither, said_off, one_of_three}
use Rattle.messages.specs.Rows.{first_of}
use Rattle.kinds.specs.declared.Held.{Held}
use Rattle.std.specs.Prelude.{Option, Some, None}
use Rattle.table.specs.declared.Message.{Message}
use Rattle.messages.specs.Asked.{asked_rows, number_given}
use Rattle.calls.specs.Calls.{Call, Outcome, lengths_of, unanswered}
use Rattle.refusals.specs.Refusals.{area_rows, check_rows, late_rows, count_rows, early, silent_of, told_of}
use Rattle.refusals.specs.Refusals.{late as lates}
use Rattle.refusals.proofs.Rows.{EarlyPassed, forbidden, late_number, early_number, early_rows, late_rows_lem, late_by_lem, past_early, early_passed, early_given, silent_is, call_passed, told_untested, told_said, same_told_after}
use Rattle.link.specs.Answer.{held, asked, text_of, areas_after, answer_of}
use Rattle.link.proofs.Answering.{silent_answer, heard_answer, asked_number_lem}
use Rattle.demands.specs.Refused.{among}
use Rattle.demands.specs.History.{message_by}
use Rattle.demands.proofs.Own.{own as ours}
use Rattle.demands.specs.SwitchedOff.{allowing, silent_before, Before, but_sum, AsBefore, OffAsTrue, Forbidden, OthersSame, early_numbers, SumTold, SwitchedOffRule, ContractAsBefore}
use Rattle.demands.specs.Reading.{before, command_of}
use Rattle.demands.proofs.Refused.{answer_either, told_is, number_given_lem, wrong, asked_high}
use Rattle.demands.proofs.Commands.{high, low, summed}
use Rattle.demands.proofs.Alike.{same_text_lem, same_areas, same_but_sum, text_alike}

-- the number that the sum and the station give, or what comes behind them
abbrev late_by : Sum → Bool → Bool → ℕ → ℕ
late_by s unchecked ours k = cond (is_off s && not unchecked) 12 (cond (is_wrong s) 7 (cond (not ours) 8 k))

is_seven : (s : Sum) (u o : Bool) (k : ℕ) → (k ≡ 7 → ⊥) → late_by s u o k ≡ 7 → s ≡ Wrong
is_seven True u true k n e = absurd (n e)
is_seven True u false k n e = absurd (omega (arith, e))
is_seven SwitchedOff true true k n e = absurd (n e)
is_seven SwitchedOff true false k n e = absurd (omega (arith, e))
is_seven SwitchedOff false o k n e = absurd (omega (arith, e))
is_seven Wrong u o k n e = refl

is_twelve : (s : Sum) (u o : Bool) (k : ℕ) → (k ≡ 12 → ⊥) → late_by s u o k ≡ 12 → (s ≡ SwitchedOff) × (u ≡ false)
is_twelve True u true k n e = absurd (n e)
is_twelve True u false k n e = absurd (omega (arith, e))
is_twelve SwitchedOff true true k n e = absurd (n e)
is_twelve SwitchedOff true false k n e = absurd (omega (arith, e))
is_twelve SwitchedOff false o k n e = (refl, refl)
is_twelve Wrong u o k n e = absurd (omega (arith, e))

-- the count's number, behind them
abbrev counting : Call → ℕ
counting c = cond (wrong c) 11 0

count_other : (c : Call) (n : ℕ) → (0 ≡ n → ⊥) → (11 ≡ n → ⊥) → counting c ≡ n → ⊥
count_other c n zero eleven = go (wrong c)
  where
    go : (b : Bool) → ◌≡◌ {A = ℕ} (cond b 11 0) n → ⊥
    go true e = eleven e
    go false e = zero e

untested_not : {s : Sum} → None ≡ Some s → ⊥
untested_not {s} e = let z : ◌≡◌ {A = ℕ} 0 1 = ap tag e in omega (arith, z)
  where
    tag : Option Sum → ℕ
    tag None = 0
    tag (Some s) = 1

-- a call's tests before the sum, with what comes behind them
abbrev early_of : Call → ℕ → ℕ
early_of c = early_number (length c.sent.reply) c.sent.frame c.sent.axes c.sent.settings (lengths_of c.areas) c.areas.journal c.areas.kept

pub early_of_lem : (c : Call) → first_of (early c) ≡ early_of c 0
early_of_lem c = early_rows (length c.sent.reply) c.sent.frame c.sent.axes c.sent.settings (lengths_of c.areas) c.areas.journal c.areas.kept

-- what no test before the sum refuses passes them, and has the number that the sum and the station give it
pub early_passes : (c : Call) → first_of (early c) ≡ 0
    → EarlyPassed (length c.sent.reply) c.sent.frame c.sent.axes c.sent.settings (lengths_of c.areas) c.areas.journal c.areas.kept
early_passes c e =
    (early_passed (length c.sent.reply) c.sent.frame c.sent.axes c.sent.settings (lengths_of c.areas) c.areas.journal c.areas.kept
    (sym (early_of_lem c) ∙ e)
    ).0

late : (c : Call) → first_of (early c) ≡ 0 → (k : ℕ) → early_of c k ≡ k
late c e k =
    past_early (length c.sent.reply) c.sent.frame c.sent.axes c.sent.settings (lengths_of c.areas) c.areas.journal c.areas.kept
    (early_passes c e)
    k

early_silent : (c : Call) → (first_of (early c) ≡ 0 → ⊥) → silent_of c ≡ first_of (early c)
early_silent c n =
    silent_is c
    ∙ (early_given (length c.sent.reply) c.sent.frame c.sent.axes c.sent.settings (lengths_of c.areas) c.areas.journal c.areas.kept _ (λ z. n (early_of_lem c ∙ z))).0
    ∙ sym (early_of_lem c)

-- with '@@' allowed, the number is that of before
before_is : (c : Call)
    → silent_before c
    ≡ early_of c (cond (not (sum_true c.sent.settings.release c.sent.frame || sum_off c.sent.frame)) 7 (cond (not (station_passes c.sent.settings.release c.sent.settings.station c.sent.frame)) 8 (counting c)))
unfolding check_rows area_rows count_rows
before_is c = refl

allowed_silent : (c : Call) → silent_of (allowing true c) ≡ silent_before c
allowed_silent c =
    let s = sum_said c.sent.settings.release c.sent.frame in
    silent_is (allowing true c)
    ∙ ap (early_of c) (rw (and_false (is_off s), neither c.sent.settings.release c.sent.frame))
    ∙ sym (before_is c)

as_before : AsBefore ours
as_before c = go (eqb (silent_before c) 0) refl
  where
    on : Call
    on = allowing true c

    go : (b : Bool) → eqb (silent_before c) 0 ≡ b
        → but_sum (answer_of on)
        ≡ cond b (record { number = number_given (asked c); text = text_of c (asked c); areas = areas_after c (asked c) }) (record { number = silent_before c; text = []; areas = c.areas })
    go true e =
        let r = c.sent.settings.release in
        let t = same_text_lem c r r true c.sent.settings.unchecked (asked c) in
        let s = same_areas c r r true c.sent.settings.unchecked (asked c) in
        ap but_sum (heard_answer on (allowed_silent c ∙ eqb-true _ _ e)) ∙ (λ i. record { number = number_given (asked c); text = t i; areas = s i })
    go false e = ap but_sum (silent_answer on (silent_before c) (sym (allowed_silent c)) (eqb-false _ _ e))

pub contract_as_before : ContractAsBefore
contract_as_before c r areas' reply' a =
    let e = as_before c in
    record {
      number_is = a.number_is ∙ ap (λ (b : Before). b.number) e;
      length_is = a.length_is ∙ ap (λ (b : Before). length b.text) e;
      kept_is = a.kept_is ∙ ap (λ (b : Before). b.areas.kept) e;
      areas_are = a.areas_are ∙ ap (λ (b : Before). b.areas) e;
      reply_is = a.reply_is ∙ ap (λ (b : Before). laid c.sent.reply 0 b.text) e;
    }

-- the command with an allowed '@@', and with a true SC
off_as_true_lem : OffAsTrue ours
unfolding station_passes
off_as_true_lem a h u said =
    let st = h.settings.station in
    let r = h.settings.release in
    same_but_sum a h (command_of false st said) (command_of true st said)
    (text_alike a h (high st) (low st) (high st) (low st) said (text "@@") (sc_of (before st said)) refl refl
    (allows (command_of false st said) ∙ sym (allows (command_of true st said)))
    (ap is_wrong (summed r false st said) ∙ sym (ap is_wrong (summed r true st said)))
    refl)
  where
    allows : (f : List ℕ) → forbidden h.settings f ≡ false
    allows f = rw u (and_false (is_off (sum_said h.settings.release f)))

-- the number of what no test before the sum refuses
pub late_number_lem : (c : Call) → first_of (early c) ≡ 0
    → silent_of c ≡ late_by (sum_said c.sent.settings.release c.sent.frame) c.sent.settings.unchecked (station_passes c.sent.settings.release c.sent.settings.station c.sent.frame)
    (counting c)
late_number_lem c e =
    silent_is c
    ∙ late c e (late_number c.sent.settings c.sent.frame c.areas.points c.areas.kept 0)
    ∙ sym (late_rows_lem c.sent.settings c.sent.frame c.areas.points c.areas.kept)
    ∙ late_by_lem c.sent.settings c.sent.frame c.areas.points c.areas.kept (sum_said c.sent.settings.release c.sent.frame) refl

-- a number from 1 to 100 is that of a refusal without a reply, and such a one is the number
silent_of_lem : (c : Call) (k : ℕ) → 1 ≤ k → k < 101 → (answer_of c).number ≡ k → silent_of c ≡ k
silent_of_lem c k l m =
    answer_either c (λ (o : Outcome). o.number ≡ k → silent_of c ≡ k)
    (λ _ e. absurd (let h = asked_high c (λ z. let y : k ≡ 0 = sym e ∙ z in omega (arith, y, l)) in omega (arith, h, e, m)))
    (λ _ e. e)

number_of_lem : (c : Call) (k : ℕ) → 1 ≤ k → silent_of c ≡ k → (answer_of c).number ≡ k
number_of_lem c k l e = ap (λ (o : Outcome). o.number) (silent_answer c k (sym e) (λ z. omega (arith, z, l)))

-- where '@@' is forbidden
forbidden_rule : Forbidden ours
unfolding check_rows area_rows
forbidden_rule c o =
    silent_answer off (silent_of off) refl some
    ∙ (λ i. unanswered (told_of c) (is i) c.areas)
  where
    off : Call
    off = allowing false c

    seen : forbidden off.sent.settings c.sent.frame ≡ true
    seen = let r = c.sent.settings.release in rw (said_off r c.sent.frame ((one_of_three r c.sent.frame).off.1 o))

    some : silent_of off ≡ 0 → ⊥
    some z = true≢false (sym seen ∙ (call_passed off z).allowed)

    is : silent_of off ≡ early_of c 12
    is = silent_is off ∙ ap (early_of c) (rw seen)

-- and where it isn't sent
others_same : OthersSame ours
others_same c n = go (eqb (silent_of off) 0) refl
  where
    off : Call
    off = allowing false c

    on : Call
    on = allowing true c

    not_off : is_off (sum_said c.sent.settings.release c.sent.frame) ≡ false
    not_off = by (sum_said c.sent.settings.release c.sent.frame) refl
      where
        by : (s : Sum) → sum_said c.sent.settings.release c.sent.frame ≡ s → is_off s ≡ false
        by True e = refl
        by SwitchedOff e = let o = one_of_three c.sent.settings.release c.sent.frame in absurd (n (o.off.0 (o.says_off.0 e)))
        by Wrong e = refl

    same : silent_of off ≡ silent_of on
    same = silent_is off ∙ ap (early_of c) (rw not_off) ∙ sym (silent_is on)

    told : told_of off ≡ told_of on
    told = same_told_after c.sent.settings.release c.sent.frame c.sent.frame (early_of_lem off ∙ sym (early_of_lem on)) refl

    go : (b : Bool) → eqb (silent_of off) 0 ≡ b → answer_of off ≡ answer_of on
    go true e =
        let z = eqb-true _ _ e in
        let r = c.sent.settings.release in
        let t = same_text_lem c r r false true (asked c) in
        let s = same_areas c r r false true (asked c) in
        heard_answer off z ∙ (λ i. record { number = number_given (asked c); text = t i; areas = s i; sum = told i }) ∙ sym (heard_answer on (sym same ∙ z))
    go false e =
        let z = eqb-false _ _ e in
        silent_answer off (silent_of off) refl z
        ∙ ap (λ (t : Option Sum). unanswered t (silent_of off) c.areas) told
        ∙ sym (silent_answer on (silent_of off) same z)

-- the numbers of the tests before the sum, and of those from it on
early_listed : (c : Call) → (first_of (early c) ≡ 0 → ⊥) → among (first_of (early c)) early_numbers ≡ true
unfolding check_rows area_rows
early_listed c =
    number_given_lem (λ (k : ℕ). (k ≡ 0 → ⊥) → among k early_numbers ≡ true) (early c) (λ n. absurd (n refl))
    (λ _. refl, (λ _. refl, (λ _. refl, (λ _. refl, (λ _. refl, (λ _. refl, (λ _. refl, (λ _. refl, tt))))))))

asked_late : (held : Held) (fitted release : ℕ) (n : Option Message) (content : List ℕ) → among (first_of (asked_rows held fitted release n content)) early_numbers ≡ false
unfolding asked_rows
asked_late held fitted release None content = refl
asked_late held fitted release (Some m) content =
    number_given_lem (λ (k : ℕ). among k early_numbers ≡ false) (asked_rows held fitted release (Some m) content) refl (refl, (refl, (refl, (refl, (refl, (refl, (refl, tt)))))))

late_listed : (c : Call) → first_of (early c) ≡ 0 → among (answer_of c).number early_numbers ≡ false
unfolding late_rows count_rows
late_listed c e =
    answer_either c (λ (o : Outcome). among o.number early_numbers ≡ false)
    (λ _.
    rw (asked_number_lem c) (asked_late (held c) c.sent.settings.fitted c.sent.settings.release (message_by c.sent) (content_in c.sent.frame)))
    (λ _.
    rw (silent_is c ∙ late c e (late_number c.sent.settings c.sent.frame c.areas.points c.areas.kept 0))
    (number_given_lem (λ (k : ℕ). among k early_numbers ≡ false) (lates c) refl (refl, (refl, (refl, (refl, tt))))))

early_some : (c : Call) → (first_of (early c) ≡ 0 → ⊥) → among (answer_of c).number early_numbers ≡ true
early_some c n =
    let z = early_silent c n in
    let is : (answer_of c).number ≡ first_of (early c) = ap (λ (o : Outcome). o.number) (silent_answer c (first_of (early c)) (sym z) n) in
    rw is (early_listed c n)

-- so by its number it was tested, or not
was_tested : (c : Call) → among (answer_of c).number early_numbers ≡ false → first_of (early c) ≡ 0
was_tested c f = go (eqb (first_of (early c)) 0) refl
  where
    go : (b : Bool) → eqb (first_of (early c)) 0 ≡ b → first_of (early c) ≡ 0
    go true e = eqb-true _ _ e
    go false e = absurd (true≢false (sym (early_some c (eqb-false _ _ e)) ∙ f))

-- what is told is one of three
abbrev said_in : Option Sum → Sum
said_in None = True
said_in (Some s) = s

module _ (c : Call) where
  abbrev said : Sum
  said = sum_said c.sent.settings.release c.sent.frame

  abbrev unchecked : Bool
  unchecked = c.sent.settings.unchecked

  abbrev to_us : Bool
  to_us = station_passes c.sent.settings.release c.sent.settings.station c.sent.frame

  tested : first_of (early c) ≡ 0 → (answer_of c).sum ≡ Some said
  tested e = told_is c ∙ told_said c.sent.settings.release c.sent.frame e

  -- where it is told, it was tested
  told_tested : (s : Sum) → (answer_of c).sum ≡ Some s → (first_of (early c) ≡ 0) × (said ≡ s)
  told_tested s e = go (eqb (first_of (early c)) 0) refl
    where
      go : (b : Bool) → eqb (first_of (early c)) 0 ≡ b → (first_of (early c) ≡ 0) × (said ≡ s)
      go true q = let z = eqb-true _ _ q in (z, ap said_in (sym (tested z) ∙ e))
      go false q =
          let u = told_untested c.sent.settings.release c.sent.frame (eqb-false _ _ q) in
          absurd (untested_not (sym u ∙ sym (told_is c) ∙ e))

  sum_told : SumTold c (answer_of c)
  sum_told =
      record {
        untested = λ t. told_is c ∙ told_untested c.sent.settings.release c.sent.frame (λ z. true≢false (sym t ∙ late_listed c z));
        tested = λ f. tested (was_tested c f);
        used_off = λ f.
            let o = one_of_three c.sent.settings.release c.sent.frame in
            let z = was_tested c f in
            (λ e. o.off.0 (o.says_off.0 (ap said_in (sym (tested z) ∙ e))), λ q. tested z ∙ ap Some (o.says_off.1 (o.off.1 q)));
        seven = (
          λ e. let z = was_tested c (rw e) in tested z ∙ ap Some (is_seven said unchecked to_us (counting c) (count_other c 7 (λ z. omega (arith, z)) (λ z. omega (arith, z))) (sym (late_number_lem c z) ∙ silent_of_lem c 7 (omega arith) (omega arith) e)),
          λ e. let t = told_tested Wrong e in number_of_lem c 7 (omega arith) (late_number_lem c t.0 ∙ rw t.1),
        );
        twelve = (
          λ e.
              let z = was_tested c (rw e) in
              let t = is_twelve said unchecked to_us (counting c) (count_other c 12 (λ z. omega (arith, z)) (λ z. omega (arith, z))) (sym (late_number_lem c z) ∙ silent_of_lem c 12 (omega arith) (omega arith) e) in
              (tested z ∙ ap Some t.0, t.1),
          λ e. let t = told_tested SwitchedOff e.0 in number_of_lem c 12 (omega arith) (late_number_lem c t.0 ∙ rw (t.1, e.1)),
        );
      }

pub switched_off : SwitchedOffRule ours
switched_off = record { as_before = as_before; off_as_true_lem = off_as_true_lem; forbidden = forbidden_rule; others_same = others_same; sum_told = sum_told }
