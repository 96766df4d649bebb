-- Each equation of one result, with the other's the other way round.
use Prim.Native.Nat.{ℕ}
use mathlib.Core.Path.{◌≡◌, sym, ap, ◌∙◌}
use mathlib.Core.List.{List}
use Rattle.link.specs.Contract.{GivenBack}
use Rattle.messages.proofs.Numbered.{same_asked_by, same_number}
use Rattle.messages.proofs.Shows as shows
use Rattle.link.specs.declared.Checked.{Checked}
use Rattle.link.specs.Check.{Looked, checked_by}
use Rattle.back.specs.Back.{Back}
use Rattle.calls.specs.Calls.{Call}
use Rattle.board.specs.Calls.{kept_of, answered_of, backed_of}
use Rattle.demands.specs.Sole.{OneAnswer, OneAnswered, OneStepped, OneCheck, OneStepBack, OneFound, OneReceive, OneCabinetAnswer, OneCabinetCheck, OneCabinetBack}

pub one_answer : OneAnswer
one_answer outcomeOf c r r' a a' reply reply' x y =
    let n : r.number ≡ r'.number = x.number_is ∙ sym y.number_is in
    let l : r.length ≡ r'.length = x.length_is ∙ sym y.length_is in
    let q : a ≡ a' = x.areas_are ∙ sym y.areas_are in
    let h : r.kept ≡ r'.kept = x.kept_is ∙ sym y.kept_is in
    let s : r.sum ≡ r'.sum = x.sum_is ∙ sym y.sum_is in
    (λ i. record { number = n i; length = l i; kept = h i; sum = s i }, q, x.reply_is ∙ sym y.reply_is)

pub one_answered : OneAnswered
one_answered r r' e =
    let o = same_number r.outcome r'.outcome (ap (λ (x : GivenBack). x.number) e) in
    λ i. record { outcome = o i; length = (e i).length; kept = (e i).kept; sum = (e i).sum }

pub one_stepped : OneStepped
one_stepped = same_number

same_checked : {r r' : Checked} → checked_by r ≡ checked_by r' → r ≡ r'
same_checked {r} {r'} e =
    let a = same_asked_by r.asked r'.asked (ap (λ (x : Looked). x.asked) e) in
    λ i. record { asked = a i; sum = (e i).sum }

pub one_check : (c : Call) → OneCheck c
one_check c =
    record {
      checked = λ r r' e f. same_checked (e ∙ sym f);
      shown = λ asked r r' e f. e ∙ sym f;
      shown_refusal = λ asked r r' e f. shows.shown_refusal asked e ∙ sym (shows.shown_refusal asked f);
      shown_number = λ asked r r' e f. shows.shown_number asked e ∙ sym (shows.shown_number asked f);
    }

pub one_step_back : OneStepBack
one_step_back before r r' a a' x y =
    let n : r.number ≡ r'.number = x.number_is ∙ sym y.number_is in
    let q : a ≡ a' = x.areas_are ∙ sym y.areas_are in
    let h : r.kept ≡ r'.kept = x.kept_is ∙ sym y.kept_is in
    (λ i. record { number = n i; kept = h i }, q)

pub one_found : (received : List ℕ) → OneFound received
one_found received = record { found = λ r r' e f. e ∙ sym f; part = λ f r r' e g. e ∙ sym g }

pub one_receive : OneReceive
one_receive f c c' s s' l l' d d' x y =
    (x.code_is ∙ sym y.code_is, x.start_is ∙ sym y.start_is, x.length_is ∙ sym y.length_is, x.drop_is ∙ sym y.drop_is)

pub one_cabinet_answer : OneCabinetAnswer
one_cabinet_answer outcomeOf c n n' l l' u u' v v' s s' a a' reply reply' x y =
    let t = (outcomeOf c).sum in
    let h = one_answer outcomeOf c (answered_of n l (kept_of u v) t) (answered_of n' l' (kept_of u' v') t) a a' reply reply' x.gives y.gives in (
      ap (λ (r : GivenBack). r.number) h.0,
      ap (λ (r : GivenBack). r.length) h.0,
      ap (λ (r : GivenBack). r.kept.used) h.0,
      ap (λ (r : GivenBack). r.kept.effective) h.0,
      x.sum_is ∙ sym y.sum_is,
      h.1,
      h.2,
    )

pub one_cabinet_check : OneCabinetCheck
one_cabinet_check c n n' s s' m m' start start' count count' x y = (
  x.number_is ∙ sym y.number_is,
  x.sum_is ∙ sym y.sum_is,
  x.message_is ∙ sym y.message_is,
  x.start_is ∙ sym y.start_is,
  x.count_is ∙ sym y.count_is,
)

pub one_cabinet_back : OneCabinetBack
one_cabinet_back before n n' u u' v v' a a' x y =
    let h = one_step_back before (backed_of n u v) (backed_of n' u' v') a a' x y in
    (ap (λ (r : Back). r.number) h.0, ap (λ (r : Back). r.kept.used) h.0, ap (λ (r : Back). r.kept.effective) h.0, h.1)
