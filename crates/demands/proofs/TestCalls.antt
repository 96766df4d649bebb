-- Every test call is found whole and said back.
use Prim.Native.Nat.{ℕ, ◌+◌, ◌-◌, ◌/◌, ◌%◌, ◌<◌}
use mathlib.Core.Path.{◌≡◌, refl, sym, ap, ap₂, ◌∙◌}
use mathlib.Core.Bool.{Bool, true, false, cond}
use mathlib.Core.List.{List, [], ◌∷◌, ◌++◌}
use native.Mathlib.Nat.{add-sub_cancel_left}
use native.Mathlib.Omega.{arith}
use lib.ListN.{length, take, drop, get_or, length-append, length-drop}
use lib.Seq.{length-take-le, take_at, drop_at, drop-append-le}
use borrow.Author.Tests.{le-ltb, le-leb, eq-eqb, eqb-true}
use Rattle.digits.specs.Text.{text}
use Rattle.digits.proofs.OneDigit.{byte_least}
use Rattle.frames.specs.Frame.{CR, LF, normal, reply_of, message_in, content_in, sc_of, shaped}
use Rattle.frames.proofs.TestID.{test_id}
use Rattle.finder.specs.declared.Found.{Found}
use Rattle.finder.specs.declared.Found.TheVariants.{Frame}
use Rattle.finder.specs.Find.{find_in, part_of}
use Rattle.finder.specs.Laws.{Head, last_two, Quiet}
use Rattle.finder.proofs.Promised.{test_call_rule, found_as_before}
use Rattle.kinds.specs.declared.Held.{Held}
use Rattle.kinds.specs.Kinds.{held_in}
use Rattle.std.specs.Prelude.{Option}
use Rattle.table.specs.declared.Message.{Message}
use Rattle.messages.specs.Asked.{asked_of, judged, number_given}
use Rattle.messages.proofs.Judged.{Right, ordered}
use Rattle.calls.specs.Calls.{Areas, Sent, Call, Outcome, lengths_of}
use Rattle.refusals.specs.Refusals.{silent_of}
use Rattle.refusals.proofs.Rows.{area_rows_lem, areas_pass, call_passed}
use Rattle.refusals.proofs.Tested.{shape}
use Rattle.link.specs.Answer.{held, asked, answer_of}
use Rattle.demands.specs.Refused.{asks_write}
use Rattle.demands.proofs.Own.{own as ours}
use Rattle.demands.specs.Reading.{before as beforeSC, asking, Host, allowed}
use Rattle.demands.specs.TestCalls.{test_call, handed, to_found, Unrefused, SaidBack, EveryTestCall, OtherLength, NoErrorReply, TestCalls}
use Rattle.demands.proofs.Refused.{by_six, answer_either, silent_low, query_changes_nothing}
use Rattle.demands.proofs.Commands.{test_fits, framed, framed_long, ends, before_long, high, low, two_bytes, testing, message_of_lem, named}
use Rattle.demands.proofs.Replied.{test_call_back}
use Rattle.demands.proofs.Asking.{Open, TakenAs, taken_as}

-- ten bytes pass every test of a 200H
right_ten : (h : Held) (fitted release : ℕ) (content : List ℕ) → length content ≡ 10 → Right h fitted release testing content
right_ten h fitted release content l =
    record {
      digits = refl;
      long = rw (le-leb 0 (length content) (omega arith), eq-eqb (length content) 10 l);
      program = refl;
      some = refl;
      held_all = refl;
      pattern = refl;
      type = refl;
    }

-- a test call, as bytes: with either SC
module _ (station : ℕ) (ten sc : List ℕ) (l : length ten ≡ 10) (two : length sc ≡ 2) where
  abbrev said : List ℕ
  said = text "200" ++ ten

  said_long : length said ≡ 13
  said_long = omega arith

  abbrev frame : List ℕ
  frame = framed (high station) (low station) said sc

  frame_long : length frame ≡ 20
  frame_long = omega (arith, framed_long (high station) (low station) said sc two, said_long)

  -- whatever follows: its head, by its fields (a digit of its station isn't CR), and its last two bytes
  module _ (behind : List ℕ) where
    headed : Head (frame ++ behind)
    headed =
        let d = byte_least (station / 16 % 16) in
        record { bang = refl; station = λ e. omega (arith, d, ap (λ (l : List ℕ). get_or l 0 0) e); id = refl }

    last_two_lem : last_two (frame ++ behind) ≡ CR ∷ LF ∷ []
    last_two_lem =
        let e : drop 18 frame ≡ CR ∷ LF ∷ [] =
        ap (drop 18) (ends (high station) (low station) said sc two) ∙ drop_at (beforeSC station said ++ sc) (CR ∷ LF ∷ []) 18 (omega (arith, before_long (high station) (low station) said sc two, said_long)) in
        ap (take 2) (drop-append-le 18 frame behind (omega (arith, frame_long)) ∙ ap (λ (l : List ℕ). l ++ behind) e)

module _ (a : Areas) (o : Open a) (h : Sent) (host : Host h) (checked : Bool) (g : allowed h checked ≡ true) (ten : List ℕ) (l : length ten ≡ 10) where
  abbrev asks : List ℕ
  asks = text "200" ++ ten

  abbrev call : Call
  call = asking a h checked asks

  fits : test_fits asks ≡ true
  fits = eq-eqb (length asks) 13 (omega arith)

  takes : TakenAs testing a h checked asks
  takes = taken_as a asks testing o refl (omega arith) (omega arith) fits named.5 (λ fitted release. right_ten (held_in (lengths_of a)) fitted release ten l) h host checked g

  -- the ten bytes come back
  ten_back : (answer_of call).text ≡ reply_of normal h.settings.station asks
  ten_back =
      let d = takes.is_heard in
      test_call_back call d.message takes.accepts ∙ ap₂ (λ (x y : List ℕ). reply_of normal h.settings.station (x ++ y)) d.message d.content

  module _ (before behind : List ℕ) (q : Quiet before) where
    abbrev bytes : List ℕ
    bytes = test_call h checked ten

    abbrev line : List ℕ
    line = before ++ (bytes ++ behind)

    abbrev sc : List ℕ
    sc = cond checked (sc_of (beforeSC h.settings.station asks)) (text "@@")

    two : length sc ≡ 2
    two = two_bytes checked (beforeSC h.settings.station asks)

    is_found : find_in line ≡ Frame (length before) (length before + 20)
    is_found =
        test_call_rule.found before (bytes ++ behind) q (headed h.settings.station ten sc l two behind)
        (omega (arith, length-append bytes behind, frame_long h.settings.station ten sc l two))
        (last_two_lem h.settings.station ten sc l two behind)

    is_whole : part_of (find_in line) line ≡ bytes
    is_whole =
        ap (λ (f : Found). part_of f line) is_found
        ∙ ap₂ (λ (n : ℕ) (s : List ℕ). take n s) (add-sub_cancel_left (length before) 20) (drop_at before (bytes ++ behind) (length before) refl)
        ∙ take_at bytes behind 20 (frame_long h.settings.station ten sc l two)

    -- so what is found is answered as the test call itself
    same : to_found find_in ours a h line ≡ answer_of call
    same = ap (λ (f : List ℕ). answer_of (handed a h f)) is_whole

    said_back : SaidBack find_in ours a h bytes ten (length before) line
    said_back =
        record {
          found = is_found;
          whole = is_whole;
          number = ap (λ (x : Outcome). x.number) same ∙ takes.accepts;
          says = ap (λ (x : Outcome). x.text) same ∙ ten_back;
          areas = ap (λ (x : Outcome). x.areas) same ∙ query_changes_nothing call (ap asks_write takes.order);
        }

-- areas that no test refuses pass each
pub opened : (a : Areas) → Unrefused a → Open a
opened a e = (areas_pass (lengths_of a) a.journal a.kept (sym (area_rows_lem (lengths_of a) a.journal a.kept) ∙ e)).0

every_test_call : EveryTestCall find_in ours
every_test_call a e h host checked g ten before behind l q = said_back a (opened a e) h host checked g ten l before behind q

-- a shaped frame whose ID is '200' has 20 bytes
twenty : (f : List ℕ) → message_in f ≡ text "200" → shaped f ≡ true → length f ≡ 20
twenty f e s = eqb-true _ _ (rw ((test_id f).1 e) at (shape f s).test_call_lem)

other_length : OtherLength ours
other_length a e h host f m n =
    by_six (handed a h f) (le-ltb (length h.reply) 1024 host.reply_long) (opened a e) host.axes_fit_lem host.release_fits_lem (go (shaped f) refl)
  where
    go : (b : Bool) → shaped f ≡ b → shaped f ≡ false
    go true s = absurd (n (twenty f m s))
    go false s = s

-- one that is heard is accepted
module _ (c : Call) (e : message_in c.sent.frame ≡ text "200") where
  taken : silent_of c ≡ 0 → number_given (asked c) ≡ 0
  unfolding asked_of
  taken z =
      let f = c.sent.frame in
      let n = twenty f e (call_passed c z).early.shape in
      let t : length (content_in f) ≡ 10 = length-take-le (length f - 10) (drop 6 f) (simp length-drop (omega arith)) ∙ omega arith in
      let s = c.sent.settings in
      let m = message_of_lem s.release f (text "200") e ∙ named.5 s.release in
      ap (λ (x : Option Message). number_given (judged (held c) s.fitted s.release x (content_in f))) m
      ∙ ap number_given (ordered (held c) s.fitted s.release testing (content_in f) (right_ten (held c) s.fitted s.release (content_in f) t))

no_error_reply : NoErrorReply ours
no_error_reply c e =
    answer_either c (λ (o : Outcome). o.number < 101) (λ z. omega (arith, taken c e z)) (λ _. omega (arith, silent_low c))

pub test_calls : TestCalls
test_calls =
    record {
      rule = test_call_rule;
      found_as_before = found_as_before;
      every_test_call = every_test_call;
      other_length = other_length;
      no_error_reply = no_error_reply;
    }
