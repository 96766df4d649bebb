-- Demand 2 of cabinet releases.
use Prim.Native.Nat.{ℕ, ◌-◌, ◌≤◌}
use mathlib.Core.Path.{◌≡◌, refl, sym, ap, ap₂, ◌∙◌, subst}
use mathlib.Core.Bool.{Bool, true, false, cond, not, ◌&&◌, ◌||◌, true≢false}
use mathlib.Core.Logic.{◌⊎◌, inl, inr, ⊎_elim, ◌↔◌}
use mathlib.Core.List.{List, [], ◌∷◌}
use native.Mathlib.Omega.{arith}
use lib.Dec.{eqb}
use lib.ListN.{length, take, drop}
use Rattle.digits.specs.Digits.{capital, capitals, digits_of, admitted, number_of}
use Rattle.digits.specs.Laid.{laid}
use Rattle.digits.specs.Text.{text}
use Rattle.digits.proofs.Inverse.{inverse, rules, and_left, and_right}
use Rattle.digits.proofs.Capitals.{length_capitals, take_capitals, drop_capitals}
use Rattle.frames.specs.declared.checks.Sum.{Sum}
use Rattle.frames.specs.declared.checks.Sum.TheVariants.{True, SwitchedOff, Wrong}
use Rattle.frames.specs.Frame.{station_in, message_in, content_in, beforeSC, sc_in, sc_of, low_byte, shaped, says_number, sum_true, sum_off, sum_said, is_off, is_wrong, station_passes}
use Rattle.frames.proofs.Bools.{and_false}
use Rattle.frames.proofs.Promised.{true_sc}
use Rattle.frames.proofs.Three.{said_true, said_off, one_of_three}
use Rattle.frames.proofs.TestID.{is200, by_message, test_id}
use Rattle.kinds.specs.declared.Held.{Held}
use Rattle.kinds.specs.Kinds.{held_in}
use Rattle.pairs.proofs.Paired.{same_bytes}
use Rattle.points.proofs.Capitals.{same_slots}
use Rattle.table.specs.declared.Action.{Action}
use Rattle.table.specs.declared.Action.TheVariants.{SayBack, CountPoints, ListPoints, ReadRun, AxisStatus, WritePoints, ClearRun, ChangeRun, ShowFlags, SetFlag}
use Rattle.table.specs.declared.Message.{Message}
use Rattle.std.specs.Prelude.{Option, Some, None}
use Rattle.table.specs.Table.{message_numbered, message_of, rest_in, any_bytes}
use Rattle.messages.specs.Asked.{Asked, Order, not_digits, asked_of, judged, number_given}
use Rattle.messages.proofs.Judged.{Right, told, ordered, as_admitted}
use Rattle.messages.proofs.Capitals.{same_rest, same_judged}
use Rattle.calls.specs.Calls.{Areas, Sent, Call, Outcome, lengths_of}
use Rattle.refusals.specs.Refusals.{release_fits, miscounted, silent_of, told_of}
use Rattle.refusals.proofs.Rows.{silent_is, past_silent, call_passed, heard_told}
use Rattle.refusals.proofs.Tested.{shaped_long}
use Rattle.orders.specs.Orders.{rest, new_bytes}
use Rattle.link.specs.Answer.{held, asked, text_of, areas_after, answer_of}
use Rattle.link.proofs.Carrying.{ordered_message}
use Rattle.link.proofs.Answering.{heard_answer, accepted}
use Rattle.demands.proofs.Own.{own as ours}
use Rattle.demands.specs.Reading.{before, frame_with, command_of, asking}
use Rattle.demands.specs.TestCalls.{handed}
use Rattle.demands.specs.Releases.{under, CapitalsOnly, EitherSize, Either, SameUnderTwo, Releases, SameAnswer}
use Rattle.demands.proofs.Sole.{one_answer}
use Rattle.demands.proofs.Capitals.{id_200, known_id, no_letters, not_said_back, replies_in_capitals}
use Rattle.demands.proofs.Alike.{same_text_lem, same_areas, Alike, by_sum, same_answers, long_enough, same_shape, done_alike, text_alike}
use Rattle.demands.proofs.Commands.{test_fits, begun, framed, framed_long, is_message, is_content, is_sc, is_begun, high, low, summed_by, off, summed, two_bytes, message_named, message_of_lem}

-- what stands in a field that says a number is admitted, and what passes under release 1 passes under release 2
module _ (field : List ℕ) (n : ℕ) where
  says_admitted : (release : ℕ) → says_number release field n ≡ true → admitted release field ≡ true
  says_admitted release e = and_left (admitted release field) (eqb (number_of field) n) e

  says_more : says_number 1 field n ≡ true → says_number 2 field n ≡ true
  says_more e = rw ((rules field).least 2 (says_admitted 1 e)) (and_right (admitted 1 field) (eqb (number_of field) n) e)

-- an SC that isn't wrong: true, or '@@'
module _ (frame : List ℕ) where
  passed_by : (release : ℕ) → is_wrong (sum_said release frame) ≡ false → (sum_true release frame ≡ true) ⊎ (sum_off frame ≡ true)
  unfolding sum_said
  passed_by release e = go (sum_true release frame) (sum_off frame) e
    where
      go : (t o : Bool) → is_wrong (cond t True (cond o SwitchedOff Wrong)) ≡ false → (t ≡ true) ⊎ (o ≡ true)
      go true o e = inl refl
      go false true e = inr refl
      go false false e = absurd (true≢false e)

  -- and of it the sum test says the same under release 2
  true_more : sum_true 1 frame ≡ true → sum_true 2 frame ≡ true
  unfolding sum_true
  true_more t = says_more (sc_in frame) (low_byte (beforeSC frame)) t

  said_more : is_wrong (sum_said 1 frame) ≡ false → sum_said 2 frame ≡ sum_said 1 frame
  said_more e = ⊎_elim (λ t. said_true 2 frame (true_more t) ∙ sym (said_true 1 frame t)) (λ o. said_off 2 frame o ∙ sym (said_off 1 frame o)) (passed_by 1 e)

  sc_plain : is_wrong (sum_said 1 frame) ≡ false → capitals (sc_in frame) ≡ sc_in frame
  unfolding sum_true capital
  sc_plain e =
      ⊎_elim (λ t. (rules (sc_in frame)).capitals_only (says_admitted (sc_in frame) (low_byte (beforeSC frame)) 1 t))
      (λ o. rw ((one_of_three 1 frame).off.0 o))
      (passed_by 1 e)

-- "release 1, capitals only"
capitals_only : CapitalsOnly ours
unfolding asked_of station_passes
capitals_only c n =
    let f = c.sent.frame in
    let a = accepted (under 1 c) n in
    let p = call_passed (under 1 c) a.heard in
    let l = shaped_long f p.early.shape in
    let t = told (held c) c.sent.settings.fitted 1 (message_of 1 f) (content_in f) a.message a.start a.count a.order in
    record {
      id = (rules (message_in f)).capitals_only (known_id 1 f t.message).0;
      station = (rules (station_in f)).capitals_only (says_admitted (station_in f) c.sent.settings.station 1 p.station);
      content = λ other. content_plain a.message t.message t.rows.digits l other (any_bytes a.message.follows) refl;
      sc = sc_plain f p.sum;
    }
  where
    content_plain : (m : Message) → message_of 1 c.sent.frame ≡ Some m → not_digits 1 m (content_in c.sent.frame) ≡ false → 10 ≤ length c.sent.frame
        → (message_in c.sent.frame ≡ text "200" → ⊥) → (b : Bool) → any_bytes m.follows ≡ b → capitals (content_in c.sent.frame) ≡ content_in c.sent.frame
    content_plain m k d l other true e = absurd (other (id_200 1 c.sent.frame k (omega arith) e))
    content_plain m k d l other false e =
        (rules (content_in c.sent.frame)).capitals_only (as_admitted 1 m (content_in c.sent.frame) e d)

-- what release 1 admits of a message, release 2 admits
message_more : (frame : List ℕ) {m : Message} → message_of 1 frame ≡ Some m → message_of 2 frame ≡ Some m
unfolding message_of
message_more frame k =
    let a = (known_id 1 frame k).0 in
    rw ((rules (message_in frame)).least 2 a) (rw a at k)

digits_more : (m : Message) (s : List ℕ) → not_digits 1 m s ≡ false → not_digits 2 m s ≡ false
digits_more m s e = go (any_bytes m.follows) refl
  where
    go : (b : Bool) → any_bytes m.follows ≡ b → not_digits 2 m s ≡ false
    go true a = rw a
    go false a = rw ((rules s).least 2 (as_admitted 1 m s a e)) (and_false (not (any_bytes m.follows)))

right_more : (h : Held) (fitted : ℕ) (m : Message) (s : List ℕ) → Right h fitted 1 m s → Right h fitted 2 m s
right_more h fitted m s r =
    record {
      digits = digits_more m s r.digits;
      long = r.long;
      program = r.program;
      some = r.some;
      held_all = r.held_all;
      pattern = r.pattern;
      type = r.type;
    }

-- "Any frame release 1 accepts, release 2 answers with the same bytes"
module _ (c : Call) (n : (answer_of (under 1 c)).number ≡ 0) where
  abbrev frame : List ℕ
  frame = c.sent.frame

  abbrev one : Call
  one = under 1 c

  abbrev two : Call
  two = under 2 c

  heard_too : silent_of two ≡ 0
  unfolding station_passes release_fits
  heard_too =
      let p = call_passed one (accepted one n).heard in
      silent_is two
      ∙ past_silent (length c.sent.reply) frame c.sent.axes two.sent.settings (lengths_of c.areas) c.areas.journal c.areas.kept
      c.areas.points
      (record {
        early =
            record {
              reply_long = p.early.reply_long;
              areas = p.early.areas;
              axes_fit_lem = p.early.axes_fit_lem;
              release_fits_lem = refl;
              shape = p.early.shape;
            };
        allowed = ap (λ (s : Sum). is_off s && not c.sent.settings.unchecked) (said_more frame p.sum) ∙ p.allowed;
        sum = ap is_wrong (said_more frame p.sum) ∙ p.sum;
        station = says_more (station_in frame) c.sent.settings.station p.station;
        count = ap (λ (x : Option Message). miscounted x c.areas.points c.areas.kept.effective) (message_more frame own_message ∙ sym own_message) ∙ p.count;
      })
      0
    where
      own_message : message_of 1 frame ≡ Some (accepted one n).message
      own_message =
          let a = accepted one n in
          ordered_message one (record { message = a.message; start = a.start; count = a.count; held = held one })
          (record { silent_0 = a.heard; held_is = refl; order = a.order })

  same_order : asked two ≡ asked one
  unfolding asked_of
  same_order =
      let a = accepted one n in
      let h = held c in
      let fitted = c.sent.settings.fitted in
      let s = content_in frame in
      let t = told h fitted 1 (message_of 1 frame) s a.message a.start a.count a.order in
      ap (λ (x : Option Message). judged h fitted 2 x s) (message_more frame t.message)
      ∙ ordered h fitted 2 a.message s (right_more h fitted a.message s t.rows)
      ∙ sym (ordered h fitted 1 a.message s t.rows)
      ∙ ap (λ (x : Option Message). judged h fitted 1 x s) (sym t.message)

  same_told : told_of two ≡ told_of one
  same_told =
      let z = (accepted one n).heard in
      heard_told two heard_too ∙ ap Some (said_more frame (call_passed one z).sum) ∙ sym (heard_told one z)

  same_answer_there : answer_of two ≡ answer_of one
  same_answer_there =
      let x = asked one in
      let t = same_text_lem c 2 1 c.sent.settings.unchecked c.sent.settings.unchecked x in
      let r = same_areas c 2 1 c.sent.settings.unchecked c.sent.settings.unchecked x in
      heard_answer two heard_too
      ∙ ap (λ (y : Asked). record { number = number_given y; text = text_of two y; areas = areas_after two y; sum = told_of two }) same_order
      ∙ (λ i. record { number = number_given x; text = t i; areas = r i; sum = same_told i })
      ∙ sym (heard_answer one (accepted one n).heard)

same_under_two : SameUnderTwo ours
same_under_two c n = same_answer_there c n

pub same_answer : SameAnswer
same_answer c r r' a a' reply reply' x y n =
    let e = same_under_two c (sym x.number_is ∙ n) in
    one_answer answer_of (under 1 c) r' r a' a reply' reply
    (record {
      number_is = y.number_is ∙ ap (λ (o : Outcome). o.number) e;
      length_is = y.length_is ∙ ap (λ (o : Outcome). length o.text) e;
      kept_is = y.kept_is ∙ ap (λ (o : Outcome). o.areas.kept) e;
      sum_is = y.sum_is ∙ ap (λ (o : Outcome). o.sum) e;
      areas_are = y.areas_are ∙ ap (λ (o : Outcome). o.areas) e;
      reply_is = y.reply_is ∙ ap (λ (o : Outcome). laid c.sent.reply 0 o.text) e;
    })
    x

-- a text is a 200H's, or not; '200' has no letters
by_id : (said : List ℕ) → (is200 (take 3 said) ≡ true) ↔ (take 3 said ≡ text "200")
by_id said =
    -- as a frame's ID, whatever stands before it
    let f = begun 0 0 said in
    let b = by_message f (take 3 said) refl in
    (λ e. (test_id f).0 (b ∙ e), λ q. sym b ∙ (test_id f).1 q)

is_200 : (said : List ℕ) → (take 3 said ≡ text "200") ⊎ (take 3 said ≡ text "200" → ⊥)
is_200 said = go (is200 (take 3 said)) refl
  where
    go : (b : Bool) → is200 (take 3 said) ≡ b → (take 3 said ≡ text "200") ⊎ (take 3 said ≡ text "200" → ⊥)
    go true e = inl ((by_id said).0 e)
    go false e = inr (λ q. true≢false (sym ((by_id said).1 q) ∙ e))

other_fits : (said : List ℕ) → (take 3 said ≡ text "200" → ⊥) → test_fits said ≡ true
other_fits said other = go (is200 (take 3 said)) refl
  where
    go : (b : Bool) → is200 (take 3 said) ≡ b → not b || eqb (length said) 13 ≡ true
    go true e = absurd (other ((by_id said).0 e))
    go false e = refl

other_capitals : (said : List ℕ) → (take 3 said ≡ text "200" → ⊥) → take 3 (capitals said) ≡ text "200" → ⊥
other_capitals said other e = other (no_letters (take 3 said) (sym (take_capitals 3 said) ∙ e))

-- an ID in capitals names the same
same_named : (id : List ℕ) → message_named 2 (capitals id) ≡ message_named 2 id
same_named id = ap₂ (λ (b : Bool) (n : ℕ). cond b (message_numbered n) None) ((rules id).either 2) (rules id).same_number

-- what is stored of a text, and of its capitals
same_new : (does : Action) (unit count : ℕ) (rest : List ℕ) → new_bytes does unit count (capitals rest) ≡ new_bytes does unit count rest
same_new SayBack unit count rest = refl
same_new CountPoints unit count rest = refl
same_new ListPoints unit count rest = refl
same_new ReadRun unit count rest = refl
same_new AxisStatus unit count rest = refl
same_new WritePoints unit count rest = same_slots count rest
same_new ClearRun unit count rest = refl
same_new ChangeRun unit count rest = same_bytes rest
same_new ShowFlags unit count rest = refl
same_new SetFlag unit count rest = ap (λ (n : ℕ). n ∷ []) (rules rest).same_number

-- what holds under release 2 holds of a host of that release
at_two : {r : ℕ} → r ≡ 2 → (P : ℕ → Type 0) → P 2 → P r
at_two e P p = subst P (sym e) p

-- the same text with another station and another SC, of which the sum test says the same
module _ (a : Areas) (h : Sent) (e : h.settings.release ≡ 2) (checked : Bool) (x y : ℕ) (said sc : List ℕ)
    (st : capitals (x ∷ y ∷ []) ≡ digits_of 2 h.settings.station) (su : checked ≡ true → capitals sc ≡ sc_of (begun x y said))
    (so : checked ≡ false → sc ≡ text "@@") where
  abbrev station : ℕ
  station = h.settings.station

  abbrev sent : List ℕ
  sent = framed x y said sc

  abbrev own_sc : List ℕ
  own_sc = cond checked (sc_of (before station said)) (text "@@")

  abbrev own_command : List ℕ
  own_command = command_of checked station said

  own_long : length own_sc ≡ 2
  own_long = two_bytes checked (before station said)

  sc_long : length sc ≡ 2
  sc_long = go checked refl
    where
      go : (b : Bool) → checked ≡ b → length sc ≡ 2
      go true q = sym (length_capitals sc) ∙ ap length (su q) ∙ (inverse 2).as_many (low_byte (begun x y said))
      go false q = ap length (so q)

  -- digits whose capitals are a number's are admitted
  are_admitted : (field : List ℕ) (n : ℕ) → capitals field ≡ digits_of 2 n → admitted 2 field ≡ true
  are_admitted field n q = sym ((rules field).either 1) ∙ ap (admitted 1) q ∙ (inverse 2).are_digits 1 n

  sum_said_lem : sum_said 2 sent ≡ summed_by checked
  sum_said_lem = go checked refl
    where
      go : (b : Bool) → checked ≡ b → sum_said 2 sent ≡ summed_by b
      go true q =
          let there = is_sc x y said sc sc_long in
          let l : 4 ≤ length sent = omega (arith, framed_long x y said sc sc_long) in
          said_true 2 sent
          ((true_sc 2 sent l).1 (
            ap (admitted 2) there ∙ are_admitted sc (low_byte (begun x y said)) (su q),
            ap capitals there ∙ su q ∙ ap sc_of (sym (is_begun x y said sc sc_long)),
          ))
      go false q = subst (λ (s : List ℕ). sum_said 2 (framed x y said s) ≡ SwitchedOff) (sym (so q)) (off 2 x y said)

  same_station : station_passes 2 station sent ≡ station_passes 2 station own_command
  unfolding station_passes
  same_station =
      ap₂ (λ (b : Bool) (n : ℕ). b && eqb n station) (are_admitted (x ∷ y ∷ []) station st ∙ sym ((inverse 2).are_digits 2 station))
      (sym (rules (x ∷ y ∷ [])).same_number ∙ ap number_of st)

  same_sum : sum_said h.settings.release sent ≡ sum_said h.settings.release own_command
  same_sum = at_two e (λ (k : ℕ). sum_said k sent ≡ sum_said k own_command) (sum_said_lem ∙ sym (summed 2 checked station said))

  same_text_alike : Alike a h sent own_command
  same_text_alike =
      let b = by_sum a h sent own_command same_sum in
      text_alike a h x y (high station) (low station) said sc own_sc sc_long own_long b.0 b.1
      (at_two e (λ (k : ℕ). station_passes k station sent ≡ station_passes k station own_command) same_station)

-- a command that isn't a 200H's, and the same in capitals
module _ (a : Areas) (h : Sent) (e : h.settings.release ≡ 2) (checked : Bool) (said : List ℕ) (other : take 3 said ≡ text "200" → ⊥) where
  abbrev as_is : List ℕ
  as_is = command_of checked h.settings.station said

  abbrev as_capitals : List ℕ
  as_capitals = command_of checked h.settings.station (capitals said)

  abbrev X : ℕ
  X = high h.settings.station

  abbrev Y : ℕ
  Y = low h.settings.station

  -- its SC, and that of the same in capitals
  abbrev sc_of_lem : List ℕ → List ℕ
  sc_of_lem t = cond checked (sc_of (before h.settings.station t)) (text "@@")

  long_sc : (t : List ℕ) → length (sc_of_lem t) ≡ 2
  long_sc t = two_bytes checked (before h.settings.station t)

  module _ (s : shaped as_is ≡ true) where
    long : 3 ≤ length said
    long = long_enough X Y said (sc_of_lem said) (long_sc said) s

    long_capitals : 3 ≤ length (capitals said)
    long_capitals = omega (arith, long, length_capitals said)

    body : content_in as_is ≡ drop 3 said
    body = is_content X Y said (sc_of_lem said) (long_sc said) long

    body_capitals : content_in as_capitals ≡ capitals (drop 3 said)
    body_capitals = is_content X Y (capitals said) (sc_of_lem (capitals said)) (long_sc (capitals said)) long_capitals ∙ drop_capitals 3 said

    id_capitals : message_in as_capitals ≡ capitals (take 3 said)
    id_capitals = is_message X Y (capitals said) (sc_of_lem (capitals said)) (long_sc (capitals said)) long_capitals ∙ take_capitals 3 said

    -- both name the same
    abbrev own_name : Option Message
    own_name = message_named h.settings.release (take 3 said)

    named_as_is : message_of h.settings.release as_is ≡ own_name
    named_as_is = message_of_lem h.settings.release as_is (take 3 said) (is_message X Y said (sc_of_lem said) (long_sc said) long)

    named_capitals : message_of h.settings.release as_capitals ≡ own_name
    named_capitals =
        message_of_lem h.settings.release as_capitals (capitals (take 3 said)) id_capitals
        ∙ at_two e (λ (k : ℕ). message_named k (capitals (take 3 said)) ≡ message_named k (take 3 said)) (same_named (take 3 said))

    same_asked : asked (handed a h as_is) ≡ asked (handed a h as_capitals)
    unfolding asked_of
    same_asked =
        let r = h.settings.release in
        let H = held_in (lengths_of a) in
        let F = h.settings.fitted in
        ap₂ (λ (k : Option Message) (t : List ℕ). judged H F r k t) named_as_is body
        ∙ sym (at_two e (λ (k : ℕ). judged H F k own_name (capitals (drop 3 said)) ≡ judged H F k own_name (drop 3 said)) (same_judged H F own_name (drop 3 said)))
        ∙ sym (ap₂ (λ (k : Option Message) (t : List ℕ). judged H F r k t) named_capitals body_capitals)

    rest_capitals : (m : Message) → rest (handed a h as_capitals).sent m ≡ capitals (rest (handed a h as_is).sent m)
    rest_capitals m = ap (rest_in m) body_capitals ∙ same_rest m (drop 3 said) ∙ ap (λ (t : List ℕ). capitals (rest_in m t)) (sym body)

    -- the order isn't a 200H's
    not_test : (m : Message) (start count : ℕ) → asked (handed a h as_capitals) ≡ Order m start count → m.does ≡ SayBack → ⊥
    not_test =
        not_said_back (handed a h as_capitals) (λ i. other (no_letters (take 3 said) (sym id_capitals ∙ i)))
        (omega (arith, framed_long X Y (capitals said) (sc_of_lem (capitals said)) (long_sc (capitals said)), long_capitals))

  same_sums : sum_said h.settings.release as_is ≡ sum_said h.settings.release as_capitals
  same_sums = let r = h.settings.release in summed r checked h.settings.station said ∙ sym (summed r checked h.settings.station (capitals said))

  capitals_alike : Alike a h as_is as_capitals
  unfolding station_passes
  capitals_alike =
      record {
        shape =
            same_shape X Y X Y said (capitals said) (sc_of_lem said) (sc_of_lem (capitals said)) (long_sc said) (long_sc (capitals said)) (sym (length_capitals said))
            (other_fits said other ∙ sym (other_fits (capitals said) (other_capitals said other)));
        forbids = (by_sum a h as_is as_capitals same_sums).0;
        wrong = (by_sum a h as_is as_capitals same_sums).1;
        station = refl;
        names = λ s. named_as_is s ∙ sym (named_capitals s);
        asks = same_asked;
        does = λ s z q.
            done_alike a h as_is as_capitals z
            (λ m start count w.
            let there = rest_capitals s m in (
              sym (rules (rest (handed a h as_is).sent m)).same_number ∙ ap number_of (sym there),
              λ d. absurd (not_test s m start count (q ∙ w) d),
              λ unit. sym (same_new m.does unit count (rest (handed a h as_is).sent m)) ∙ ap (new_bytes m.does unit count) (sym there),
            ));
      }

-- "release 2, either": first station and SC, then what is said
either : Either ours
either a h e checked st said sc plain i = go st (sym (length_capitals st) ∙ ap length i.station_is ∙ (inverse 2).as_many h.settings.station) i
  where
    said_plain : EitherSize h checked st said sc plain → answer_of (asking a h checked said) ≡ answer_of (asking a h checked plain)
    said_plain i =
        ⊎_elim (λ q. ap (λ (s : List ℕ). answer_of (asking a h checked s)) (sym (i.test_call_lem q)))
        (λ q.
        same_answers a h (as_is a h e checked said q) (as_capitals a h e checked said q) (capitals_alike a h e checked said q) (same_sums a h e checked said q)
        ∙ ap (λ (s : List ℕ). answer_of (asking a h checked s)) (sym (i.other q)))
        (is_200 said)

    go : (t : List ℕ) → length t ≡ 2 → EitherSize h checked t said sc plain
        → answer_of (handed a h (frame_with t said sc)) ≡ answer_of (asking a h checked plain)
    go [] l k = absurd (omega arith)
    go (x ∷ []) l k = absurd (omega arith)
    go (x ∷ y ∷ []) l k =
        same_answers a h (framed x y said sc) (command_of checked h.settings.station said)
        (same_text_alike a h e checked x y said sc k.station_is k.sc_true k.sc_off)
        (same_sum a h e checked x y said sc k.station_is k.sc_true k.sc_off)
        ∙ said_plain i
    go (x ∷ y ∷ z ∷ t) l k = absurd (omega arith)

pub releases : Releases ours
releases = record { capitals_only = capitals_only; either = either; replies_in_capitals = replies_in_capitals; same_under_two = same_under_two }
