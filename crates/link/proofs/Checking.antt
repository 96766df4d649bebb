-- From the tests to what a check answers, and from that to the act, which is the answer.
use Prim.Native.Nat.{ℕ, ◌≤◌, ◌<◌}
use mathlib.Core.Path.{◌≡◌, refl, sym, ap, ◌∙◌}
use mathlib.Core.Bool.{Bool, true, false, cond}
use mathlib.Core.List.{List, []}
use native.Mathlib.Omega.{arith}
use lib.Dec.{eqb}
use lib.ListN.{length}
use borrow.Author.Tests.{ne_eqb, eqb-true, eqb-false, lt-ltb, le-ltb}
use Rattle.digits.specs.Laid.{laid}
use Rattle.digits.proofs.Laid.{laid_nothing}
use Rattle.frames.specs.Frame.{error_of}
use Rattle.kinds.specs.Kinds.{Sound}
use Rattle.messages.specs.Asked.{Asked, Refused, Order, number_given}
use Rattle.messages.specs.Rows.{first_of}
use Rattle.messages.proofs.Judged.{refused_from}
use Rattle.std.specs.Prelude.{Option, None}
use Rattle.frames.specs.declared.checks.Sum.{Sum}
use Rattle.calls.specs.Calls.{Areas, Call, Outcome, call_of, lengths_of, unanswered}
use Rattle.refusals.specs.Refusals.{too_short, silent_of, told_after, told_of, early, check_early, check_silent_of, check_told_of}
use Rattle.refusals.proofs.Rows.{passed, check_silent_is, told_untested}
use Rattle.refusals.proofs.Tested.{shaped_long, sound}
use Rattle.orders.specs.declared.Order as order
use Rattle.link.specs.Answer.{held, asked, text_of, areas_after, answer_of}
use Rattle.link.specs.Check.{Looked, check_of, refused_text, act_text, act_of}
use Rattle.link.specs.Contract.{GivenBack, Heard, Gives, Acts}
use Rattle.link.proofs.Answering.{silent_answer, heard_answer, silent_number_lem}
use Rattle.link.proofs.Outcomes.{gives_by}

-- what a check answers: a refusal without a reply, or what the frame asks
pub checked_silent : (c : Call) (k : ℕ) (t : Option Sum) → k ≡ check_silent_of c → t ≡ check_told_of c → (k ≡ 0 → ⊥) → record { asked = Refused k; sum = t } ≡ check_of c
unfolding check_of
checked_silent c k t e s n = rw (← e, ne_eqb k 0 n) (ap (λ (x : Option Sum). record { asked = Refused k; sum = x }) s)

pub checked_heard : (c : Call) (a : Asked) (t : Option Sum) → check_silent_of c ≡ 0 → a ≡ asked c → t ≡ check_told_of c → record { asked = a; sum = t } ≡ check_of c
unfolding check_of
checked_heard c a t e f s = rw e (λ i. record { asked = f i; sum = s i })

-- what its tests assure of the frame and of what is held
pub record Fits (c : Call) : Type 0 where
  pub frame_long : 10 ≤ length c.sent.frame
  pub sound_held : Sound (held c)

pub fits : (c : Call) → check_silent_of c ≡ 0 → Fits c
fits c e =
    let p =
    (passed 1024 c.sent.frame c.sent.axes c.sent.settings (lengths_of c.areas) c.areas.journal c.areas.kept c.areas.points
    (sym (check_silent_is c) ∙ e)
    ).0.early in
    record {
      frame_long = shaped_long c.sent.frame p.shape;
      sound_held = sound (lengths_of c.areas) p.areas.points p.areas.variables;
    }

-- what a check answers is a refusal without a reply, or what a heard frame asks
pub checked_by : (c : Call) (P : Asked → Type 0) → (check_silent_of c ≡ 0 → P (asked c)) → ((check_silent_of c ≡ 0 → ⊥) → P (Refused (check_silent_of c)))
    → P (check_of c).asked
unfolding check_of
checked_by c P heard not = go (eqb (check_silent_of c) 0) refl
  where
    go : (b : Bool) → eqb (check_silent_of c) 0 ≡ b → P (cond b (asked c) (Refused (check_silent_of c)))
    go true e = heard (eqb-true _ _ e)
    go false e = not (eqb-false _ _ e)

pub told_checked : (c : Call) → (check_of c).sum ≡ check_told_of c
unfolding check_of
told_checked c = refl

-- a check looks at no reply area
pub without_reply_lem : (c : Call) → check_of (call_of c.sent.frame c.sent.axes c.sent.settings [] c.areas) ≡ check_of c
unfolding check_of check_silent_of
without_reply_lem c = refl

-- a refusal's reply, by its number
pub no_text : (station n : ℕ) → n < 101 → refused_text station n ≡ []
no_text station n h = rw (lt-ltb n 101 h)

pub error_text : (station n : ℕ) → 101 ≤ n → refused_text station n ≡ error_of station n
error_text station n h = rw (le-ltb n 101 h)

-- with a reply area that is too short
module _ (c : Call) (e : too_short (length c.sent.reply) ≡ true) where
  short_early : first_of (early c) ≡ 1
  short_early = rw e

  short_silent : silent_of c ≡ 1
  unfolding silent_of
  short_silent = rw e

  pub short_act : act_of c ≡ unanswered None 1 c.areas
  unfolding act_of
  short_act = rw e

  some : {n : ℕ} → n ≡ 1 → n ≡ 0 → ⊥
  some f z = absurd (omega (arith, f, z))

  short_answer : answer_of c ≡ unanswered None 1 c.areas
  short_answer =
      silent_answer c 1 (sym short_silent) (some refl)
      ∙ ap (λ (t : Option Sum). unanswered t 1 c.areas) (told_untested c.sent.settings.release c.sent.frame (some short_early))

-- and with one that is long enough: the tests of an answer are those of a check
module _ (c : Call) (e : too_short (length c.sent.reply) ≡ false) where
  pub long_silent : silent_of c ≡ check_silent_of c
  unfolding silent_of check_silent_of
  long_silent = rw e

  long_early : first_of (early c) ≡ first_of (check_early c)
  long_early = rw e

  pub long_told : told_of c ≡ check_told_of c
  long_told = ap (λ (n : ℕ). told_after n c.sent.settings.release c.sent.frame) long_early

  -- what is done where the check answered so
  abbrev doing : Asked → Option Sum → Outcome
  doing a t = record { number = number_given a; text = act_text c a; areas = areas_after c a; sum = t }

  pub long_act : act_of c ≡ doing (check_of c).asked (check_of c).sum
  unfolding act_of
  long_act = rw e

  -- a refusal that the message gives is from 101 on, so its reply is the error reply
  as_text : (a : Asked) → ((k : ℕ) → a ≡ Refused k → 101 ≤ k) → act_text c a ≡ text_of c a
  as_text (Refused k) f = error_text c.sent.settings.station k (f k refl)
  as_text (Order m start count) f = refl

  long_answer : answer_of c ≡ doing (check_of c).asked (check_told_of c)
  long_answer =
      checked_by c (λ (a : Asked). answer_of c ≡ doing a (check_told_of c))
      (λ z.
      let t = as_text (asked c) (λ k q. refused_from (held c) c.sent.settings.fitted c.sent.settings.release c.sent.frame k q) in
      heard_answer c (long_silent ∙ z) ∙ (λ i. record { number = number_given (asked c); text = sym t i; areas = areas_after c (asked c); sum = long_told i }))
      (λ n.
      let low = (silent_number_lem c (λ z. n (sym long_silent ∙ z))).1 in
      silent_answer c (check_silent_of c) (sym long_silent) n
      ∙ (λ i. unanswered (long_told i) (check_silent_of c) c.areas)
      ∙ ap (λ (t : List ℕ). record { number = check_silent_of c; text = t; areas = c.areas; sum = check_told_of c })
      (sym (no_text c.sent.settings.station (check_silent_of c) (omega (arith, low, long_silent)))))

  long_same : act_of c ≡ answer_of c
  long_same = long_act ∙ ap (doing (check_of c).asked) (told_checked c) ∙ sym long_answer

-- "Checking and then doing, with nothing between, equals the old single call" (02, g)
pub same_act : (c : Call) → act_of c ≡ answer_of c
same_act c = go (too_short (length c.sent.reply)) refl
  where
    go : (b : Bool) → too_short (length c.sent.reply) ≡ b → act_of c ≡ answer_of c
    go true e = short_act c e ∙ sym (short_answer c e)
    go false e = long_same c e

-- results of one outcome are results of an equal one
pub same_gives : {f g : Call → Outcome} (c : Call) {r : GivenBack} {areas' : Areas} {reply' : List ℕ} → f c ≡ g c → Gives f c r areas' reply' → Gives g c r areas' reply'
same_gives {f} c e x =
    gives_by c (f c) _ _ _ (x.kept_is ∙ sym (ap (λ (a : Areas). a.kept) x.areas_are)) (sym e) x.number_is x.length_is x.sum_is x.areas_are
    x.reply_is

-- the act's three ends: the reply area is too short
pub acted_short : (c : Call) → length c.sent.reply < 1024
    → Acts c (record { number = 1; length = 0; kept = c.areas.kept; sum = None }) c.areas c.sent.reply
acted_short c e =
    gives_by c (unanswered None 1 c.areas) _ c.areas c.sent.reply refl (short_act c (lt-ltb _ _ e)) refl refl refl refl
    (sym (laid_nothing c.sent.reply 0))

module _ (c : Call) (long : 1024 ≤ length c.sent.reply) {k : Looked} (checked : k ≡ check_of c) where
  abbrev enough : too_short (length c.sent.reply) ≡ false
  enough = le-ltb _ _ long

  -- the check refused
  pub acted_refused : (n : ℕ) (r : GivenBack) (reply' : List ℕ) → k.asked ≡ Refused n
      → (r.number ≡ n) × (r.length ≡ length (refused_text c.sent.settings.station n)) × (r.kept ≡ c.areas.kept) × (r.sum ≡ k.sum)
      → reply' ≡ laid c.sent.reply 0 (refused_text c.sent.settings.station n) → Acts c r c.areas reply'
  acted_refused n r reply' e f g =
      let o : act_of c ≡ doing c enough (Refused n) k.sum =
      long_act c enough ∙ ap (λ (x : Looked). doing c enough x.asked x.sum) (sym checked) ∙ ap (λ (a : Asked). doing c enough a k.sum) e in
      gives_by c _ r c.areas reply' f.2 o f.0 f.1 f.3 refl g

  -- the check answered an order: the frame is heard, and orders that
  pub acted_heard : (o : order.Order) → k.asked ≡ Order o.message o.start o.count → o.held ≡ held c → Heard c o
  acted_heard o e h =
      checked_by c (λ (a : Asked). a ≡ Order o.message o.start o.count → Heard c o)
      (λ z q. record { silent_0 = long_silent c enough ∙ z; held_is = h; order = q })
      (λ n q. absurd (let z : ◌≡◌ {A = ℕ} 0 1 = cc in omega arith))
      (sym (ap (λ (x : Looked). x.asked) checked) ∙ e)

  -- and what it told of the sum is what an answer tells
  pub acted_told : k.sum ≡ told_of c
  acted_told = ap (λ (x : Looked). x.sum) checked ∙ told_checked c ∙ sym (long_told c enough)
