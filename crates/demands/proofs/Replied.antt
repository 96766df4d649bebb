-- Every reply is closed by `reply_of`.
use Prim.Native.Nat.{ℕ}
use mathlib.Core.Path.{◌≡◌, refl, sym, ap, ◌∙◌, subst}
use mathlib.Core.List.{List, [], ◌++◌}
use native.Mathlib.Omega.{arith}
use lib.ListN.{get_or}
use borrow.Author.Tests.{ne_eqb}
use Rattle.digits.specs.Digits.{byte_of}
use Rattle.digits.specs.Text.{text}
use Rattle.frames.specs.Frame.{normal, three_of, content_in, reply_of}
use Rattle.frames.proofs.Promised.{reply}
use Rattle.table.specs.declared.Message.{Message}
use Rattle.std.specs.Prelude.{Some}
use Rattle.messages.specs.Asked.{Asked, Refused, Order, asked_of, number_given}
use Rattle.demands.specs.History.{message_by}
use Rattle.messages.proofs.Judged.{refused_some, told}
use Rattle.calls.specs.Calls.{Call, Outcome}
use Rattle.link.specs.Answer.{held, asked, text_of, answer_of}
use Rattle.link.proofs.Answering.{accepted, heard_answer}
use Rattle.demands.specs.Replied.{header_of, Framed, EveryReply, NormalReply, TestCallBack}
use Rattle.demands.proofs.Refused.{answer_either}
use Rattle.demands.proofs.Commands.{testing, message_of_lem, named}

-- what is asked is answered by a reply: no refusal has number 0
asked_framed : (c : Call) (a : Asked) → (a ≡ Refused 0 → ⊥) → Framed (number_given a) c.sent.settings.station (text_of c a)
asked_framed c (Refused k) n =
    record { rest = three_of k; is = rw (ne_eqb k 0 (λ e. n (ap Refused e))); law = reply (header_of k) c.sent.settings.station (three_of k) }
asked_framed c (Order m start count) n = record { rest = _; is = refl; law = reply normal c.sent.settings.station _ }

pub every_reply : EveryReply
every_reply c =
    answer_either c (λ (o : Outcome). (o.text ≡ [] → ⊥) → Framed o.number c.sent.settings.station o.text)
    (λ _ _. asked_framed c (asked c) (refused_some (held c) c.sent.settings.fitted c.sent.settings.release c.sent.frame))
    (λ _ n. absurd (n refl))

-- what is accepted is answered by a normal reply
normal_framed : (c : Call) → (answer_of c).number ≡ 0 → Framed 0 c.sent.settings.station (answer_of c).text
normal_framed c n =
    let a = accepted c n in
    let e = ap (λ (o : Outcome). o.text) (heard_answer c a.heard) ∙ ap (text_of c) a.order in
    subst (Framed 0 c.sent.settings.station) (sym e) (asked_framed c (Order a.message a.start a.count) not_refused)
  where
    not_refused : {m : Message} {start count : ℕ} → Order m start count ≡ Refused 0 → ⊥
    not_refused q = let z : ◌≡◌ {A = ℕ} 0 1 = cc in omega arith

pub normal_reply : NormalReply
normal_reply =
    record {
      framed = normal_framed;
      starts = λ c n. let f = normal_framed c n in ap (λ (t : List ℕ). get_or t 0 0) f.is ∙ f.law.starts;
    }

test_row : (c : Call) (m : Message) (start count : ℕ) → message_by c.sent ≡ Some testing → asked c ≡ Order m start count → testing ≡ m
unfolding asked_of
test_row c m start count e q =
    let t = (told (held c) c.sent.settings.fitted c.sent.settings.release (message_by c.sent) (content_in c.sent.frame) m start count q).message in
    cc

said_back : (c : Call) (m : Message) (start count : ℕ) → testing ≡ m
    → text_of c (Order m start count) ≡ reply_of normal c.sent.settings.station (text "200" ++ content_in c.sent.frame)
unfolding byte_of
said_back c m start count e = rw (← e)

pub test_call_back : TestCallBack
test_call_back c e n =
    let a = accepted c n in
    ap (λ (o : Outcome). o.text) (heard_answer c a.heard) ∙ ap (text_of c) a.order
    ∙ said_back c a.message a.start a.count (test_row c a.message a.start a.count (message_of_lem c.sent.settings.release c.sent.frame (text "200") e ∙ named.5 c.sent.settings.release) a.order)
    ∙ rw e
