-- Demand 1, from the table and the outcome.
use Prim.Native.Nat.{ℕ, ◌≤◌, ◌<◌}
use mathlib.Core.Path.{◌≡◌, refl, sym, ap, ◌∙◌, subst}
use mathlib.Core.Bool.{Bool, true, false, cond}
use mathlib.Core.List.{List, [], ◌∷◌, ◌++◌}
use native.Mathlib.Omega.{arith}
use lib.Dec.{eqb, ltb}
use lib.ListN.{length, drop}
use lib.Seq.{drop_at}
use borrow.Author.Tests.{eqb-true, eqb-false}
use Rattle.digits.specs.Laid.{laid}
use Rattle.digits.proofs.Bools.{either}
use Rattle.digits.proofs.Laid.{laid_nothing, laid_front}
use Rattle.frames.specs.Frame.{content_in, shaped, error_of}
use Rattle.frames.proofs.Closing.{length_reply}
use Rattle.kinds.specs.declared.Held.{Held}
use Rattle.std.specs.Prelude.{Option, Some, None}
use Rattle.table.specs.declared.Message.{Message}
use Rattle.messages.specs.Asked.{Asked, Refused, Order, asked_rows, number_given}
use Rattle.messages.specs.Rows.{Row, first_of}
use Rattle.table.specs.Table.{message_of}
use Rattle.messages.proofs.Judged.{asked_from}
use Rattle.frames.specs.declared.checks.Sum.{Sum}
use Rattle.calls.specs.Calls.{Areas, Call, Outcome, lengths_of, unanswered}
use Rattle.refusals.specs.Refusals.{axes_fit, release_fits, area_rows, check_rows, late_rows, count_rows, early, silent, silent_of, told_of, refusal_of, back_rows, back_refusal_of}
use Rattle.link.specs.Answer.{held, asked, areas_after, text_of, answer_of}
use Rattle.refusals.proofs.Rows.{AreasPass, past_areas, own_number, wrong_count, late_number, early_number, early_rows, eight_open, eight_given, eight_is, silent_is, refusal_is, told_untested}
use Rattle.link.proofs.Answering.{silent_answer, frame_number, asked_number_lem, heard_number}
use Rattle.back.specs.Back.{back_of}
use Rattle.demands.specs.Refused.{OneNumber, frame_numbers, back_numbers, among, NoOtherNumber, ChangesNothing, OneReply, ErrorsAgree, asks_write, QueryChangesNothing}
use Rattle.demands.specs.KeptCount.{to_eight}

-- an answer, by whether its frame was heard
pub answer_either : (c : Call) (P : Outcome → Type 0)
    → (silent_of c ≡ 0 → P (record { number = number_given (asked c); text = text_of c (asked c); areas = areas_after c (asked c); sum = told_of c }))
    → ((silent_of c ≡ 0 → ⊥) → P (unanswered (told_of c) (silent_of c) c.areas))
    → P (answer_of c)
unfolding answer_of
answer_either c P f g = either P (eqb (silent_of c) 0) (λ e. f (eqb-true _ _ e)) (λ e. g (eqb-false _ _ e))

-- what is told of the sum is what the tests tell
pub told_is : (c : Call) → (answer_of c).sum ≡ told_of c
told_is c = answer_either c (λ (o : Outcome). o.sum ≡ told_of c) (λ _. refl) (λ _. refl)

-- what passes the tests before 6 and isn't shaped is refused by 6, with the sum untested
pub by_six : (c : Call) → ltb (length c.sent.reply) 1024 ≡ false → AreasPass (lengths_of c.areas) c.areas.journal c.areas.kept
    → axes_fit c.sent.axes c.sent.settings.fitted ≡ true → release_fits c.sent.settings.release ≡ true → shaped c.sent.frame ≡ false
    → answer_of c ≡ unanswered None 6 c.areas
by_six c reply areas axes release shape =
    let l = lengths_of c.areas in
    let early = early_rows (length c.sent.reply) c.sent.frame c.sent.axes c.sent.settings l c.areas.journal c.areas.kept ∙ six 0 in
    silent_answer c 6 (sym (silent_is c ∙ six (late_number c.sent.settings c.sent.frame c.areas.points c.areas.kept 0))) (λ z. omega (arith, z))
    ∙ ap (λ (t : Option Sum). unanswered t 6 c.areas) (told_untested c.sent.settings.release c.sent.frame (λ z. let n : ◌≡◌ {A = ℕ} 6 0 = sym early ∙ z in omega (arith, n)))
  where
    -- whatever comes behind
    six : (k : ℕ) → early_number (length c.sent.reply) c.sent.frame c.sent.axes c.sent.settings (lengths_of c.areas) c.areas.journal c.areas.kept k ≡ 6
    six k =
        rw (
          reply,
          past_areas (lengths_of c.areas) c.areas.journal c.areas.kept areas (own_number c.sent.axes c.sent.settings c.sent.frame k),
          axes,
          release,
          shape,
        )

back_number : (a : Areas) → (back_of a).number ≡ back_refusal_of a
unfolding back_of
back_number a = either (λ (o : Outcome). o.number ≡ back_refusal_of a) (eqb (back_refusal_of a) 0) (λ e. sym (eqb-true _ _ e)) (λ e. refl)

pub one_number : OneNumber
one_number = record { frame = frame_number; back = back_number }

-- what is refused changes nothing
refused_left : (c : Call) (a : Asked) → (number_given a ≡ 0 → ⊥) → areas_after c a ≡ c.areas
refused_left c (Refused number) n = refl
refused_left c (Order m start count) n = absurd (n refl)

pub changes_nothing : ChangesNothing
unfolding back_of
changes_nothing =
    record {
      frame = λ c.
          answer_either c (λ (o : Outcome). (o.number ≡ 0 → ⊥) → o.areas ≡ c.areas) (λ _. refused_left c (asked c)) (λ _ _. refl);
      back = λ a.
          either (λ (o : Outcome). (o.number ≡ 0 → ⊥) → o.areas ≡ a) (eqb (back_refusal_of a) 0) (λ _ n. absurd (n refl)) (λ _ _. refl);
    }

-- what holds of 0, and of each row's number, holds of the number that is given
abbrev pub EachNumber : (ℕ → Type 0) → List Row → Type 0
EachNumber P [] = Unit
EachNumber P (r ∷ rs) = P r.number × EachNumber P rs

pub number_given_lem : (P : ℕ → Type 0) (rs : List Row) → P 0 → EachNumber P rs → P (first_of rs)
number_given_lem P [] z h = z
number_given_lem P (r ∷ rs) z h = either P r.holds (λ _. h.0) (λ _. number_given_lem P rs z h.1)

-- 11 is given only where the count is wrong, and where no test up to 8 refuses
pub eight_other : (c : Call) → to_eight c ≡ 11 → ⊥
unfolding check_rows area_rows late_rows
eight_other c =
    number_given_lem (λ (k : ℕ). k ≡ 11 → ⊥) (early c ++ late_rows c.sent.settings c.sent.frame) (λ e. omega (arith, e)) (
      λ e. omega (arith, e),
      (
        λ e. omega (arith, e),
        (
          λ e. omega (arith, e),
          (
            λ e. omega (arith, e),
            (
              λ e. omega (arith, e),
              (
                λ e. omega (arith, e),
                (
                  λ e. omega (arith, e),
                  (λ e. omega (arith, e), (λ e. omega (arith, e), (λ e. omega (arith, e), (λ e. omega (arith, e), tt)))),
                ),
              ),
            ),
          ),
        ),
      ),
    )

-- what its rows from 101 on give
abbrev pub asked_number : Call → ℕ
asked_number c = first_of (asked_rows (held c) c.sent.settings.fitted c.sent.settings.release (message_of c.sent.settings.release c.sent.frame) (content_in c.sent.frame))

abbrev pub wrong : Call → Bool
wrong c = wrong_count c.sent.settings c.sent.frame c.areas.points c.areas.kept

module _ (c : Call) where
  pub past_eight : to_eight c ≡ 0 → refusal_of c ≡ cond (wrong c) 11 (asked_number c)
  past_eight e =
      refusal_is c
      ∙ eight_open (length c.sent.reply) c.sent.frame c.sent.axes c.sent.settings (lengths_of c.areas) c.areas.journal c.areas.kept
      (sym (eight_is c) ∙ e)
      _

  pub up_to_eight : (to_eight c ≡ 0 → ⊥) → refusal_of c ≡ to_eight c
  up_to_eight n =
      refusal_is c
      ∙ eight_given (length c.sent.reply) c.sent.frame c.sent.axes c.sent.settings (lengths_of c.areas) c.areas.journal c.areas.kept _
      (λ z. n (eight_is c ∙ z))
      ∙ sym (eight_is c)

  pub by_eleven : refusal_of c ≡ 11 → wrong c ≡ true
  by_eleven e = go (eqb (to_eight c) 0) refl
    where
      other : asked_number c ≡ 11 → ⊥
      other f =
          let n =
          asked_from (held c) c.sent.settings.fitted c.sent.settings.release (message_of c.sent.settings.release c.sent.frame) (content_in c.sent.frame)
          (λ z. omega (arith, z, f)) in
          omega (arith, n, f)

      by : (w : Bool) → cond w 11 (asked_number c) ≡ 11 → w ≡ true
      by true f = refl
      by false f = absurd (other f)

      go : (b : Bool) → eqb (to_eight c) 0 ≡ b → wrong c ≡ true
      go true q = by (wrong c) (sym (past_eight (eqb-true _ _ q)) ∙ e)
      go false q = absurd (eight_other c (sym (up_to_eight (eqb-false _ _ q)) ∙ e))

-- the numbers of a frame: to 13 without a reply, and from 101 on
pub silent_low : (c : Call) → silent_of c ≤ 13
unfolding silent_of check_rows area_rows late_rows count_rows
silent_low c =
    number_given_lem (λ (k : ℕ). k ≤ 13) (silent c) (omega arith)
    (omega arith, (omega arith, (omega arith, (omega arith, (omega arith, (omega arith, (omega arith, (omega arith, (omega arith, (omega arith, (omega arith, (omega arith, tt))))))))))))

pub asked_high : (c : Call) → (number_given (asked c) ≡ 0 → ⊥) → 101 ≤ number_given (asked c)
asked_high c n =
    rw (asked_number_lem c)
    (asked_from (held c) c.sent.settings.fitted c.sent.settings.release (message_of c.sent.settings.release c.sent.frame) (content_in c.sent.frame) (λ e. n (asked_number_lem c ∙ e)))

-- each row's number is one of the list
abbrev Listed : List ℕ → ℕ → Type 0
Listed ns n = among n ns ≡ true

silent_listed : (c : Call) → Listed frame_numbers (silent_of c)
unfolding silent_of check_rows area_rows late_rows count_rows
silent_listed c = number_given_lem (Listed frame_numbers) (silent c) refl (refl, (refl, (refl, (refl, (refl, (refl, (refl, (refl, (refl, (refl, (refl, (refl, tt))))))))))))

asked_listed : (held : Held) (fitted release : ℕ) (n : Option Message) (content : List ℕ) → Listed frame_numbers (first_of (asked_rows held fitted release n content))
unfolding asked_rows
asked_listed held fitted release None content = refl
asked_listed held fitted release (Some m) content =
    number_given_lem (Listed frame_numbers) (asked_rows held fitted release (Some m) content) refl (refl, (refl, (refl, (refl, (refl, (refl, (refl, tt)))))))

back_listed : (a : Areas) → Listed back_numbers (back_refusal_of a)
unfolding back_refusal_of back_rows area_rows
back_listed a = number_given_lem (Listed back_numbers) (back_rows (lengths_of a) a.points a.journal a.kept) refl (refl, (refl, (refl, (refl, (refl, (refl, tt))))))

pub no_other_number : NoOtherNumber
no_other_number =
    record {
      frame = λ c.
          answer_either c (λ (o : Outcome). Listed frame_numbers o.number)
          (λ _.
          rw (asked_number_lem c) (asked_listed (held c) c.sent.settings.fitted c.sent.settings.release (message_of c.sent.settings.release c.sent.frame) (content_in c.sent.frame)))
          (λ _. silent_listed c);
      back = λ a. rw (back_number a) (back_listed a);
    }

text_none : (c : Call) → ((answer_of c).number ≡ 0 → ⊥) → (answer_of c).number < 100 → (answer_of c).text ≡ []
text_none c =
    answer_either c (λ (o : Outcome). (o.number ≡ 0 → ⊥) → o.number < 100 → o.text ≡ []) (λ _ n l. absurd (omega (arith, l, asked_high c n)))
    (λ _ _ _. refl)

-- an error reply is its number's
error_text : (c : Call) (a : Asked) → 101 ≤ number_given a → text_of c a ≡ error_of c.sent.settings.station (number_given a)
error_text c (Refused number) h = refl
error_text c (Order m start count) h = absurd (omega arith)

text_ten : (c : Call) → 101 ≤ (answer_of c).number → (answer_of c).text ≡ error_of c.sent.settings.station (answer_of c).number
text_ten c =
    answer_either c (λ (o : Outcome). 101 ≤ o.number → o.text ≡ error_of c.sent.settings.station o.number) (λ _. error_text c (asked c))
    (λ _ h. absurd (omega (arith, h, silent_low c)))

ten_long : (c : Call) → 101 ≤ (answer_of c).number → length (answer_of c).text ≡ 10
ten_long c h = ap length (text_ten c h) ∙ length_reply _ _ _

back_text : (a : Areas) → (back_of a).text ≡ []
unfolding back_of
back_text a = either (λ (o : Outcome). o.text ≡ []) (eqb (back_refusal_of a) 0) (λ _. refl) (λ _. refl)

-- what stands beyond ten bytes laid at the front
beyond : (area text : List ℕ) → length text ≡ 10 → drop 10 (laid area 0 text) ≡ drop 10 area
beyond area text l =
    ap (drop 10) (laid_front area text) ∙ drop_at text (drop (length text) area) 10 l ∙ ap (λ (n : ℕ). drop n area) l

pub one_reply : OneReply
one_reply =
    record {
      none = text_none;
      ten = λ c h. (text_ten c h, ten_long c h);
      area_left = λ c n h. ap (laid c.sent.reply 0) (text_none c n h) ∙ laid_nothing c.sent.reply 0;
      beyond_ten = λ c h. beyond c.sent.reply (answer_of c).text (ten_long c h);
      back = back_text;
    }

pub errors_agree : ErrorsAgree
errors_agree c d s =
    let q : asked c ≡ asked d = cc in
    let n : (answer_of c).number ≡ (answer_of d).number =
    frame_number c ∙ heard_number c s.heard.0 ∙ ap number_given q ∙ sym (heard_number d s.heard.1) ∙ sym (frame_number d) in
    (n, λ h. text_ten c h ∙ rw (n, s.station) (sym (text_ten d (subst (λ (k : ℕ). 101 ≤ k) n h))))

-- an order that does not write leaves all as it was
query_left : (c : Call) (a : Asked) → asks_write a ≡ false → areas_after c a ≡ c.areas
query_left c (Refused number) e = refl
query_left c (Order m start count) e = rw e

pub query_changes_nothing : QueryChangesNothing
query_changes_nothing c e = answer_either c (λ (o : Outcome). o.areas ≡ c.areas) (λ _. query_left c (asked c) e) (λ _. refl)
