-- Each number that the definitions give is 0 or a refusal's own, so a value of the code's type has it.
use Prim.Native.Nat.{ℕ}
use mathlib.Core.Path.{◌≡◌, refl, sym, ap, ◌∙◌, subst}
use mathlib.Core.Bool.{Bool, true, false, cond, ◌||◌}
use mathlib.Core.List.{List, [], ◌∷◌}
use native.Mathlib.Omega.{arith}
use lib.Dec.{eqb}
use lib.ListN.{length, replicate}
use borrow.Author.Tests.{eqb-true, eqb-false}
use Rattle.std.specs.Prelude.{Result, Ok, Err, ⊤}
use Rattle.messages.specs.declared.refusal.Refusal.{Refusal}
use Rattle.messages.specs.declared.refusal.Refusal.TheVariants.{ReplyArea, PointsArea, ColumnsArea, JournalArea, AxisRecords, Shape, WrongSum, OtherStation, NothingToStepBack, VariableAreas, KeptCount, SumSwitchedOff, Release, UnknownMessage, NotDigits, ContentLength, ProgramNumber, CountZero, NotHeld, AxisPattern, ChangeType}
use Rattle.messages.specs.declared.Request.{Request}
use Rattle.messages.specs.Refusal.{refusal_number, number_by}
use Rattle.messages.specs.Asked.{Asked, Refused, Order, asked_by, number_given}
use Rattle.messages.proofs.Judged.{refused_some}
use Rattle.calls.specs.Calls.{Areas, Call, Outcome}
use Rattle.refusals.specs.Refusals.{check_silent_of}
use Rattle.link.specs.Answer.{held, answer_of}
use Rattle.link.specs.Check.{Looked, check_of, act_of}
use Rattle.link.proofs.Checking.{checked_by, without_reply_lem, long_act, same_act}
use Rattle.back.specs.Back.{back_of}
use Rattle.demands.specs.Refused.{frame_numbers, back_numbers, among}
use Rattle.demands.specs.LookFirst.{replying_in}
use Rattle.demands.proofs.Refused.{no_other_number}
use Rattle.trials.specs.MetByCode.{Gave, Checks, Stepped, MetByCode}

-- what holds of each number in a list holds of one that stands in it
abbrev Each : (ℕ → Type 0) → List ℕ → Type 0
Each P [] = Unit
Each P (k ∷ ks) = P k × Each P ks

not_so : {A : Type 0} → false ≡ true → A
not_so e = absurd (let z : ◌≡◌ {A = ℕ} 1 0 = ap (λ (b : Bool). cond b 1 0) (sym e) in omega (arith, z))

of_each : (P : ℕ → Type 0) (ks : List ℕ) → Each P ks → (n : ℕ) → among n ks ≡ true → P n
of_each P [] h n e = not_so e
of_each P (k ∷ ks) h n e = go (eqb n k) refl (λ f. of_each P ks h.1 n f) e
  where
    go : (b : Bool) → eqb n k ≡ b → (among n ks ≡ true → P n) → b || among n ks ≡ true → P n
    go true q f g = subst P (sym (eqb-true n k q)) h.0
    go false q f g = f g

-- a refusal of the table, by its number
record Own (n : ℕ) : Type 0 where
  refusal : Refusal
  number : refusal_number refusal ≡ n

abbrev IsOwn : ℕ → Type 0
IsOwn n = (n ≡ 0 → ⊥) → Own n

none : IsOwn 0
none z = absurd (z refl)

own : (r : Refusal) → IsOwn (refusal_number r)
own r z = record { refusal = r; number = refl }

-- 0 apart, each number of a frame is a refusal's own, and each of a step back
of_frame : (n : ℕ) → among n frame_numbers ≡ true → IsOwn n
of_frame =
    of_each IsOwn frame_numbers (
      none,
      (
        own ReplyArea,
        (
          own PointsArea,
          (
            own ColumnsArea,
            (
              own VariableAreas,
              (
                own JournalArea,
                (
                  own AxisRecords,
                  (
                    own Release,
                    (
                      own Shape,
                      (
                        own SumSwitchedOff,
                        (
                          own WrongSum,
                          (
                            own OtherStation,
                            (
                              own KeptCount,
                              (
                                own UnknownMessage,
                                (
                                  own NotDigits,
                                  (
                                    own ContentLength,
                                    (own ProgramNumber, (own CountZero, (own NotHeld, (own AxisPattern, (own ChangeType, tt))))),
                                  ),
                                ),
                              ),
                            ),
                          ),
                        ),
                      ),
                    ),
                  ),
                ),
              ),
            ),
          ),
        ),
      ),
    )

of_back : (n : ℕ) → among n back_numbers ≡ true → IsOwn n
of_back =
    of_each IsOwn back_numbers
    (none, (own PointsArea, (own ColumnsArea, (own VariableAreas, (own JournalArea, (own KeptCount, (own NothingToStepBack, tt)))))))

-- so an answer of the code's type has it: done, or that refusal
record Numbered (n : ℕ) : Type 0 where
  outcome : Result ⊤ Refusal
  number : number_by outcome ≡ n

numbered : (n : ℕ) → IsOwn n → Numbered n
numbered n f = go (eqb n 0) refl
  where
    go : (b : Bool) → eqb n 0 ≡ b → Numbered n
    go true q = record { outcome = Ok tt; number = sym (eqb-true n 0 q) }
    go false q = let o = f (eqb-false n 0 q) in record { outcome = Err o.refusal; number = o.number }

gave : (outcomeOf : Call → Outcome) (c : Call) → Numbered (outcomeOf c).number → Gave outcomeOf c
gave outcomeOf c n =
    let o = outcomeOf c in
    record {
      answered = record { outcome = n.outcome; length = length o.text; kept = o.areas.kept; sum = o.sum };
      given_back = ap (λ (k : ℕ). record { number = k; length = length o.text; kept = o.areas.kept; sum = o.sum }) n.number;
      gives = record { number_is = n.number; length_is = refl; kept_is = refl; sum_is = refl; areas_are = refl; reply_is = refl };
    }

of_answer : (c : Call) → IsOwn (answer_of c).number
of_answer c = of_frame (answer_of c).number (no_other_number.frame c)

of_act : (c : Call) → IsOwn (act_of c).number
of_act c = subst (λ (o : Outcome). IsOwn o.number) (sym (same_act c)) (of_answer c)

-- a check says what the act says whose reply area is long enough
abbrev replied : Call → Call
replied c = replying_in (replicate 1024 0) c

same_check : (c : Call) → check_of (replied c) ≡ check_of c
same_check c = sym (without_reply_lem (replied c)) ∙ without_reply_lem c

of_check : (c : Call) → IsOwn (number_given (check_of c).asked)
of_check c =
    let e : (act_of (replied c)).number ≡ number_given (check_of c).asked =
    ap (λ (o : Outcome). o.number) (long_act (replied c) refl) ∙ ap (λ (k : Looked). number_given k.asked) (same_check c) in
    subst IsOwn e (of_act (replied c))

-- and it never says a refusal by 0
check_some : (c : Call) → (check_of c).asked ≡ Refused 0 → ⊥
check_some c =
    checked_by c (λ (a : Asked). a ≡ Refused 0 → ⊥)
    (λ _. refused_some (held c) c.sent.settings.fitted c.sent.settings.release c.sent.frame)
    (λ n e. n (let z : check_silent_of c ≡ 0 = cc in z))

record Asks (a : Asked) : Type 0 where
  asked : Result Request Refusal
  says : asked_by asked ≡ a

asks : (a : Asked) → IsOwn (number_given a) → (a ≡ Refused 0 → ⊥) → Asks a
asks (Refused n) f z = let o = f (λ e. z (ap Refused e)) in record { asked = Err o.refusal; says = ap Refused o.number }
asks (Order m start count) f z = record { asked = Ok (record { message = m; start = start; count = count }); says = refl }

checks : (c : Call) → Checks c
checks c =
    let a = asks (check_of c).asked (of_check c) (check_some c) in
    record {
      checked = record { asked = a.asked; sum = (check_of c).sum };
      says = ap (λ (x : Asked). record { asked = x; sum = (check_of c).sum }) a.says;
    }

stepped : (a : Areas) → Stepped a
stepped a =
    let n = numbered (back_of a).number (of_back (back_of a).number (no_other_number.back a)) in
    record { outcome = n.outcome; steps_back = record { number_is = n.number; kept_is = refl; areas_are = refl } }

pub met_by_code : MetByCode
met_by_code =
    record {
      answers_met = λ c. gave answer_of c (numbered (answer_of c).number (of_answer c));
      acts_met = λ c. gave act_of c (numbered (act_of c).number (of_act c));
      checks_met = checks;
      steps_back_met = stepped;
    }
