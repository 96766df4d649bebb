-- Each useless board is ruled out by what a call or two compute to; and there are such boards.
use Prim.Native.Nat.{ℕ, zero, suc, ◌+◌, ◌-◌, ◌*◌, ◌/◌, ◌<◌, ◌≤◌}
use mathlib.Core.Path.{◌≡◌, refl, sym, ap, ap₂, ◌∙◌, subst}
use mathlib.Core.Bool.{Bool, true, false, cond}
use mathlib.Core.List.{List, ◌++◌}
use native.Mathlib.Omega.{arith}
use native.Mathlib.Nat.{mul-le-mul_right}
use lib.Dec.{eqb}
use lib.ListN.{length, take, drop, get_or, replicate}
use lib.Seq.{get_or-take, length-take-le, take_all}
use borrow.Author.Tests.{eq-eqb, eqb-false, le-leb}
use Rattle.digits.specs.Digits.{worth_of, byte_of, capital, capitals, digits_of}
use Rattle.digits.specs.Text.{text}
use Rattle.digits.proofs.Laid.{take_laid}
use Rattle.digits.proofs.Bools.{either}
use Rattle.frames.specs.Frame.{normal, reply_of}
use Rattle.kinds.specs.declared.Kind.{Kind}
use Rattle.kinds.specs.declared.Firsts.{Firsts}
use Rattle.kinds.specs.Kinds.{integers_tag, kind_of, held_in, holds, run_of, put}
use Rattle.kinds.proofs.Known.{within}
use Rattle.pairs.specs.Pairs.{digits_in}
use Rattle.journal.specs.Journal.{encodes, added}
use Rattle.points.specs.Point.{effective_in}
use Rattle.table.specs.declared.Message.{Message}
use Rattle.std.specs.Prelude.{Option, Some}
use Rattle.messages.specs.Asked.{Asked}
use Rattle.table.specs.Table.{message_numbered, message_of}
use Rattle.calls.specs.declared.Kept.{Kept}
use Rattle.calls.specs.Calls.{Areas, Call, Outcome, fresh, lengths_of, area_in}
use Rattle.calls.proofs.Tagged.{put_own}
use Rattle.refusals.specs.Refusals.{refusal_of}
use Rattle.orders.specs.Orders.{rest, writes, new_bytes}
use Rattle.link.specs.Answer.{held, asked, answer_of}
use Rattle.link.proofs.Answering.{accepted, frame_number}
use Rattle.orders.proofs.Judging.{Writable}
use Rattle.link.proofs.Carrying.{fine, areas_long}
use Rattle.trials.specs.Cases.{holding, bench}
use Rattle.demands.specs.History.{Conduct, entries, effective_of, CountTrue, entry_said}
use Rattle.demands.specs.Reading.{content, start_of, count_of, rest_of, Host, asking, asks_run, digits_from, kind_in}
use Rattle.demands.specs.Survive.{Accepted, effective_named, EveryDigitSurvives}
use Rattle.trials.specs.Useless.{behind_first, StoresFirst, InventsCount, used_after, Board, Meets, outcome_by, given, Useless, ShutOut, saying, handing_on, first_bytes, first_only, parrot, stores_first, five_always, one_more, used_all, used_more, Made}
use Rattle.trials.proofs.Computing.{a_call}
use Rattle.demands.proofs.Commands.{writing, clearing, changing_integers, row_of, rows}
use Rattle.demands.proofs.Asking.{Took, took}
use Rattle.demands.proofs.Written.{areas_left, wrote}
use Rattle.demands.proofs.Runs.{put_apart}
use Rattle.demands.proofs.Survived.{every_digit_survives}

-- a board of two points: asked for a test, for the count; point 1 written, points 1 and 2 written, point 1 cleared
abbrev two : Areas
two = fresh (holding 2) 580

abbrev test : Call
test = bench two (text "!99200001234567829\r\n")

abbrev count_on : Areas → Call
count_on a = bench a (text "!99208@@\r\n")

abbrev one_point : Call
one_point = bench two (text "!992440010010100000000000000000001@@\r\n")

abbrev two_points_lem : Call
two_points_lem = bench two (text "!9924400100201000000000000000000010100000000000000000001@@\r\n")

abbrev no_point : Call
no_point = bench two (text "!99246001001@@\r\n")

-- integers 200 and 201 set to 1 and 2
abbrev two_integers_lem : Call
two_integers_lem = bench two (text "!9924C000C8020000000100000002@@\r\n")

-- a fresh journal is bytes
pub zero_bytes : (n i : ℕ) → get_or (replicate n 0) i 0 < 256
zero_bytes zero i = omega arith
zero_bytes (suc n) zero = omega arith
zero_bytes (suc n) (suc i) = zero_bytes n i

-- what they compute to
record Told : Type 0 where
  test_number : (answer_of test).number ≡ 0
  test_text : (answer_of test).text ≡ text "#9920000123456782B\r\n"
  none_number : (answer_of (count_on two)).number ≡ 0
  none_text : (answer_of (count_on two)).text ≡ text "#99208000BF\r\n"
  one_refused : refusal_of one_point ≡ 0
  one_known : message_of 1 one_point.sent.frame ≡ Some writing
  two_refused : refusal_of two_points_lem ≡ 0
  two_known : message_of 1 two_points_lem.sent.frame ≡ Some writing
  none_refused : refusal_of no_point ≡ 0
  none_known : message_of 1 no_point.sent.frame ≡ Some clearing
  second_stored : get_or (behind_first writing two_points_lem (answer_of two_points_lem).areas) 0 0 ≡ 1
  second_before : get_or (behind_first writing two_points_lem two) 0 0 ≡ 0
  integers_refused : refusal_of two_integers_lem ≡ 0
  integers_known : message_of 1 two_integers_lem.sent.frame ≡ Some changing_integers
  integer_stored : get_or (behind_first changing_integers two_integers_lem (answer_of two_integers_lem).areas) 3 0 ≡ 2
  integer_before : behind_first changing_integers two_integers_lem two ≡ replicate 4 0
  integers_said : (start_of changing_integers two_integers_lem.sent ≡ 200) × (count_of changing_integers two_integers_lem.sent ≡ 2) × (rest_of changing_integers two_integers_lem.sent ≡ text "0000000100000002")
  first_stored : get_or (answer_of two_points_lem).areas.points 0 0 ≡ 1
  one_counted : (effective_named writing one_point ≡ 0) × (effective_of two ≡ 0) × (count_of writing one_point.sent ≡ 1)
  two_counted : (effective_named writing two_points_lem ≡ 0) × (count_of writing two_points_lem.sent ≡ 2)
  none_counted : effective_named clearing no_point ≡ 0
  one_said : reply_of normal 0x99 (text "208" ++ digits_of 3 (effective_of (answer_of one_point).areas)) ≡ text "#99208001C0\r\n"
  used_all_lem : used_after two_points_lem ≡ 85
  all_told : (used_all.answer two_points_lem).areas.kept.used ≡ 580
  more_told : (used_more.answer two_points_lem).areas.kept.used ≡ 86

told : Told
unfolding a_call
told =
    record {
      test_number = refl;
      test_text = refl;
      none_number = refl;
      none_text = refl;
      one_refused = refl;
      one_known = refl;
      two_refused = refl;
      two_known = refl;
      none_refused = refl;
      none_known = refl;
      second_stored = refl;
      second_before = refl;
      integers_refused = refl;
      integers_known = refl;
      integer_stored = refl;
      integer_before = refl;
      integers_said = (refl, refl, refl);
      first_stored = refl;
      one_counted = (refl, refl, refl);
      two_counted = (refl, refl);
      none_counted = refl;
      one_said = refl;
      used_all_lem = refl;
      all_told = refl;
      more_told = refl;
    }

-- each write is accepted
abbrev is_one : Accepted 0x244 one_point
is_one = record { message = writing; named = refl; known = told.one_known; number = told.one_refused; bytes = zero_bytes 580 }

abbrev is_two : Accepted 0x244 two_points_lem
is_two = record { message = writing; named = refl; known = told.two_known; number = told.two_refused; bytes = zero_bytes 580 }

abbrev is_none : Accepted 0x246 no_point
is_none = record { message = clearing; named = refl; known = told.none_known; number = told.none_refused; bytes = zero_bytes 580 }

abbrev is_integers : Accepted 0x24C two_integers_lem
is_integers =
    record { message = changing_integers; named = refl; known = told.integers_known; number = told.integers_refused; bytes = zero_bytes 580 }

-- the contract's outcome
module _ (board : Board) (m : Meets board) (c : Call) where
  replied : (outcome_by board c).text ≡ (answer_of c).text
  replied =
      ap (λ (n : ℕ). take n (board c).reply) (m c).length_is ∙ ap (take (length (answer_of c).text)) (m c).reply_is
      ∙ take_laid c.sent.reply (answer_of c).text _ refl

  behind : (n : Message) → behind_first n c (outcome_by board c).areas ≡ behind_first n c (answer_of c).areas
  behind n = ap (behind_first n c) (m c).areas_are

  used : (board c).answered.kept.used ≡ (answer_of c).areas.kept.used
  used = ap (λ (k : Kept). k.used) (m c).kept_is

-- an accepted frame was taken
is_taken : {id : ℕ} (c : Call) (a : Accepted id c) → Took a.message c
is_taken c a = took a.message c a.known (frame_number c ∙ a.number)

-- the used length that an accepted write leaves
left_used : {id : ℕ} (c : Call) (a : Accepted id c) → writes a.message.does ≡ true → (answer_of c).areas.kept.used ≡ used_after c
left_used c a w =
    ap (λ (x : Areas). x.kept.used) (areas_left a.message c (is_taken c a) true w)
    ∙ ap (λ (n : Option Message). length (encodes (added (length c.areas.journal) (entries c.areas) (entry_said (held c) n (content c.sent) c.areas))))
    (sym a.known)

-- so its count is the true one
same_outcome : (board : Board) → Meets board → (c : Call) → outcome_by board c ≡ answer_of c
same_outcome board m c =
    let areas : (outcome_by board c).areas ≡ (answer_of c).areas = λ i. handing_on ((m c).kept_is i) ((m c).areas_are i) in
    λ i. record { number = (m c).number_is i; text = replied board m c i; areas = areas i; sum = (m c).sum_is i }

tells_true : (board : Board) (m : Meets board) (i : InventsCount (outcome_by board))
    → (outcome_by board (asking (outcome_by board i.call).areas i.host i.checked (text "208"))).text
    ≡ reply_of normal i.host.settings.station (text "208" ++ digits_of 3 (effective_of (outcome_by board i.call).areas))
tells_true board m i =
    let h = i.host in
    let b = i.checked in
    ap (λ (o : Outcome). o.text) (same_outcome board m (asking (outcome_by board i.call).areas h b (text "208")))
    ∙ subst (λ (a : Areas). (answer_of (asking a h b (text "208"))).text ≡ reply_of normal h.settings.station (text "208" ++ digits_of 3 (effective_of a)))
    (ap (λ (o : Outcome). o.areas) (sym (same_outcome board m i.call)))
    (((every_digit_survives.tells i.id i.call i.accepted).counted (every_digit_survives.count_kept i.id i.call i.accepted i.counted)).text h
    i.heard
    b
    i.lets)

pub useless : Useless
useless =
    record {
      can_be_met = λ c. record { number_is = refl; length_is = refl; kept_is = refl; sum_is = refl; areas_are = refl; reply_is = refl };
      refuses_all = λ board n m. n test ((m test).number_is ∙ told.test_number);
      same_reply = λ board same m.
          let e =
          sym told.test_text ∙ sym (replied board m test)
          ∙ same test (count_on two) ((m test).number_is ∙ told.test_number) ((m (count_on two)).number_is ∙ told.none_number)
          ∙ replied board m (count_on two)
          ∙ told.none_text in
          let f : ◌≡◌ {A = ℕ} 0x30 0x38 = ap (λ (s : List ℕ). get_or s 5 0) e in
          absurd (omega (arith, f));
      stores_nothing_lem = λ board n m.
          let f : ◌≡◌ {A = ℕ} 1 0 = sym told.first_stored ∙ ap (λ (s : List ℕ). get_or s 0 0) (sym (ap (λ (a : Areas). a.points) (m two_points_lem).areas_are) ∙ n two_points_lem) in
          absurd (omega (arith, f));
      stores_first_lem = λ board n m.
          let e = sym (behind board m two_points_lem writing) ∙ n two_points_lem is_two in
          let f : ◌≡◌ {A = ℕ} 1 0 = sym told.second_stored ∙ ap (λ (s : List ℕ). get_or s 0 0) e ∙ told.second_before in
          absurd (omega (arith, f));
      stores_first_integer = λ board n m.
          let e = sym (behind board m two_integers_lem changing_integers) ∙ n two_integers_lem is_integers ∙ told.integer_before in
          let f : ◌≡◌ {A = ℕ} 2 0 = sym told.integer_stored ∙ ap (λ (s : List ℕ). get_or s 3 0) e in
          absurd (omega (arith, f));
      invents_count = λ board i m. i.other (tells_true board m i);
      invents_used = λ board i m. i.other (used board m i.call ∙ left_used i.call i.accepted i.is_write);
    }

-- the bench's host is heard
is_host : Host test.sent
unfolding a_call
is_host = record { reply_long = omega arith; axes_fit_lem = refl; release_fits_lem = refl; station_byte = omega arith }

-- on a fresh board count 0 is true
fresh_count : CountTrue two
fresh_count = sym told.one_counted.1

-- a board that keeps demand 2
module _ (board : Conduct) (d : EveryDigitSurvives board) where
  -- counts one point after one was written to a fresh board, and none after a clear
  one_counted : effective_of (board.answer one_point).areas ≡ 1
  one_counted = omega (arith, d.written_once one_point is_one, told.one_counted.0, told.one_counted.1, told.one_counted.2)

  none_counted : effective_of (board.answer no_point).areas ≡ 0
  none_counted = omega (arith, d.cleared_once no_point is_none, told.none_counted, told.one_counted.1)

  -- asked for the count after a call
  abbrev counting_after : Call → Call
  counting_after c = asking (board.answer c).areas test.sent false (text "208")

  heard : {id : ℕ} (c : Call) → Accepted id c → CountTrue c.areas → (board.answer (counting_after c)).number ≡ 0
  heard {id} c a t = ((d.tells id c a).counted (d.count_kept id c a t)).number test.sent is_host false refl

  -- so its reply is not the same
  differs : (board.answer (counting_after one_point)).text ≡ (board.answer (counting_after no_point)).text → ⊥
  unfolding byte_of reply_of
  differs e =
      let s : (n : ℕ) → List ℕ = λ n. reply_of normal 0x99 (text "208" ++ digits_of 3 n) in
      let f =
      ap s (sym one_counted) ∙ sym (((d.tells 0x244 one_point is_one).counted (d.count_kept 0x244 one_point is_one fresh_count)).text test.sent is_host false refl) ∙ e
      ∙ ((d.tells 0x246 no_point is_none).counted (d.count_kept 0x246 no_point is_none fresh_count)).text test.sent is_host false refl
      ∙ ap s none_counted in
      let g : ◌≡◌ {A = ℕ} 0x31 0x30 = ap (λ (t : List ℕ). get_or t 8 0) f in
      omega (arith, g)

  -- two points were written, and the second is effective
  abbrev left : List ℕ
  left = (board.answer two_points_lem).areas.points

  two_held : (held_in (lengths_of (board.answer two_points_lem).areas)).points ≡ 2
  two_held = let l : length left ≡ 80 = (d.others 0x244 two_points_lem is_two).outside.as_long in omega (arith, l)

  second_there : get_or (drop 40 left) 0 0 ≡ 0 → ⊥
  unfolding effective_in
  second_there z =
      let e = d.written_once two_points_lem is_two in
      let f : effective_in 2 left ≡ 2 = sym (ap (λ (n : ℕ). effective_in n left) two_held) ∙ omega (arith, e, told.two_counted.0, told.two_counted.1, told.one_counted.1) in
      let s : eqb (get_or (drop 40 left) 0 0) 0 ≡ true = eq-eqb _ 0 z in
      either (λ (n : ℕ). n + (cond true 0 1 + 0) ≡ 2 → ⊥) (eqb (get_or left 0 0) 0) (λ _ q. omega (arith, q)) (λ _ q. omega (arith, q)) (rw s at f)

  -- after two integers were changed: what it says of the second is what stands there, and what was sent
  abbrev changed : Areas
  changed = (board.answer two_integers_lem).areas

  same_firsts : changed.firsts ≡ two.firsts
  same_firsts = (d.others 0x24C two_integers_lem is_integers).firsts

  second_held : holds (kind_in integers_tag changed) 201 1 ≡ true
  unfolding holds kind_of
  second_held = rw same_firsts

  said_there : (board.answer (asking changed test.sent false (asks_run (text "20E") 201 1))).text
      ≡ reply_of normal 0x99 (asks_run (text "20E") 201 1 ++ digits_in (run_of (kind_in integers_tag changed) 201 1 changed.integers))
  said_there = ((d.tells 0x24C two_integers_lem is_integers).integers 201 1 (omega arith) (omega arith) second_held).text test.sent is_host false refl

  said_sent : (board.answer (asking changed test.sent false (asks_run (text "20E") 201 1))).text
      ≡ reply_of normal 0x99 (asks_run (text "20E") 201 1 ++ text "00000002")
  unfolding kind_of capital
  said_sent =
      let r = ((d.next 0x24C two_integers_lem is_integers).integers refl).any_run 201 1 (omega arith) (omega arith) second_held in
      let v = told.integers_said in
      let e : digits_from 4 201 201 1 r.digits ≡ digits_from 4 200 201 1 (text "0000000100000002") =
      r.in_place 201 1 (omega (arith, v.0)) (omega (arith, v.0, v.1)) (omega arith) (omega arith) refl
      ∙ ap₂ (λ (x : ℕ) (y : List ℕ). digits_from 4 x 201 1 (capitals y)) v.0 v.2 in
      let f : r.digits ≡ text "00000002" = sym (take_all 8 r.digits (omega (arith, r.as_many))) ∙ e in
      r.says.text test.sent is_host false refl ∙ ap (λ (x : List ℕ). reply_of normal 0x99 (asks_run (text "20E") 201 1 ++ x)) f

  second_differs : run_of (kind_in integers_tag changed) 201 1 changed.integers ≡ replicate 4 0 → ⊥
  unfolding byte_of reply_of
  second_differs z =
      let e = sym said_sent ∙ said_there ∙ ap (λ (x : List ℕ). reply_of normal 0x99 (asks_run (text "20E") 201 1 ++ digits_in x)) z in
      let f : ◌≡◌ {A = ℕ} 0x32 0x30 = ap (λ (t : List ℕ). get_or t 20 0) e in
      omega (arith, f)

pub shut_out : ShutOut
unfolding run_of worth_of kind_of
shut_out =
    record {
      refuses_all = λ board n d. n one_point (d.accepted 0x244 one_point is_one);
      same_reply = λ board same d.
          differs board d (same (counting_after board d one_point) (counting_after board d no_point) (heard board d one_point is_one fresh_count) (heard board d no_point is_none fresh_count));
      stores_nothing_lem = λ board n d.
          let e : effective_of (board.answer one_point).areas ≡ 1 = one_counted board d in
          let l = ap length (n one_point) in
          let f : effective_of (board.answer one_point).areas ≡ effective_of two = ap₂ (λ (k : ℕ) (p : List ℕ). effective_in (k / 40) p) l (n one_point) in
          omega (arith, e, f, told.one_counted.1);
      stores_first_lem = λ board n d.
          let e : get_or (take 40 (drop 40 (left board d))) 0 0 ≡ 0 = ap (λ (s : List ℕ). get_or s 0 0) (n two_points_lem is_two) ∙ told.second_before in
          second_there board d (sym (get_or-take 40 (drop 40 (left board d)) 0 0 (omega arith)) ∙ e);
      stores_first_integer = λ board n d.
          second_differs board d
          (ap (λ (f : Firsts). run_of (kind_of (record { points = 2; firsts = f }) integers_tag) 201 1 (changed board d).integers) (same_firsts board d) ∙ n two_integers_lem is_integers ∙ told.integer_before);
      invents_count = λ board i d. i.other (((d.tells i.id i.call i.accepted).counted (d.count_kept i.id i.call i.accepted i.counted)).text i.host i.heard i.checked i.lets);
    }

-- what an accepted write leaves where its first thing alone is stored: what it names behind that stays
module _ (m : Message) (c : Call) (t : Took m c) (w : writes m.does ≡ true) where
  abbrev k : Kind
  k = kind_of (held c) m.tag

  abbrev start : ℕ
  start = start_of m c.sent

  run : Writable (held c) (content c.sent) m start (count_of m c.sent)
  run = (wrote m c t w).run

  first_held : holds k start 1 ≡ true
  unfolding holds
  first_held =
      let v = within k start (count_of m c.sent) run.run.held_all in
      rw (le-leb k.first start v.0, le-leb (start + 1) (k.first + k.held) (omega (arith, v.1, run.run.some)))

  first_long : length (first_bytes c m (count_of m c.sent)) ≡ 1 * k.unit
  first_long =
      let n : 1 * k.unit ≤ count_of m c.sent * k.unit = mul-le-mul_right k.unit run.run.some in
      length-take-le k.unit (new_bytes m.does k.unit (count_of m c.sent) (rest c.sent m)) (omega (arith, n, run.long)) ∙ omega arith

  stored_first : area_in m.tag (first_only m.id c (asked c) (answer_of c)).areas ≡ put k start (first_bytes c m (count_of m c.sent)) (area_in m.tag c.areas)
  stored_first =
      ap (λ (x : Asked). area_in m.tag (first_only m.id c x (answer_of c)).areas) t.order
      ∙ rw (t.answer, eq-eqb m.id m.id refl)
      (put_own (held c) start 1 (first_bytes c m (count_of m c.sent)) c.areas m.tag (omega arith) first_held)

  behind_stays : behind_first m c (first_only m.id c (asked c) (answer_of c)).areas ≡ behind_first m c c.areas
  behind_stays =
      ap (run_of k (suc start) (count_of m c.sent - 1)) stored_first
      ∙ put_apart k start 1 (first_bytes c m (count_of m c.sent)) (area_in m.tag c.areas) first_held
      (areas_long c.areas (fine c t.heard).areas m.tag)
      first_long
      (suc start)
      (count_of m c.sent - 1)
      (omega (arith, (within k start 1 first_held).0))
      (rw (le-leb (start + 1) (suc start) (omega arith)))

stays : (id : ℕ) (r : Message) → message_numbered id ≡ Some r → writes r.does ≡ true → StoresFirst id (stores_first id).answer
stays id r n w c a =
    let e = row_of c.sent id r a.known a.named n in
    subst (λ (x : ℕ). behind_first a.message c (first_only x c (asked c) (answer_of c)).areas ≡ behind_first a.message c c.areas) a.named
    (behind_stays a.message c (is_taken c a) (ap (λ (x : Message). writes x.does) e ∙ w))

-- five is told, and two, where there is one
five_told : (five_always.answer (count_on (five_always.answer one_point).areas)).text ≡ text "#99208005C4\r\n"
unfolding a_call
five_told = refl

two_told : (one_more.answer (count_on (one_more.answer one_point).areas)).text ≡ text "#99208002C1\r\n"
unfolding a_call
two_told = refl

five_left : (five_always.answer one_point).areas ≡ (answer_of one_point).areas
unfolding a_call
five_left = refl

two_left : (one_more.answer one_point).areas ≡ (answer_of one_point).areas
unfolding a_call
two_left = refl

-- a board that leaves what ours leaves, and tells another count than one
invents : (answer : Call → Outcome) (said : List ℕ) → (answer one_point).areas ≡ (answer_of one_point).areas → (answer (count_on (answer one_point).areas)).text ≡ said
    → (said ≡ text "#99208001C0\r\n" → ⊥) → InventsCount answer
unfolding byte_of
invents answer said same e n =
    record {
      id = 0x244;
      call = one_point;
      accepted = is_one;
      counted = fresh_count;
      host = test.sent;
      heard = is_host;
      checked = false;
      lets = refl;
      other = λ f. n (sym e ∙ f ∙ ap (λ (a : Areas). reply_of normal 0x99 (text "208" ++ digits_of 3 (effective_of a))) same ∙ told.one_said);
    }

-- what is accepted is answered by one reply
said_same : (c : Call) → (parrot.answer c).number ≡ 0 → (parrot.answer c).text ≡ text "#9920000123456782B\r\n"
said_same c e = go (eqb (answer_of c).number 0) refl e
  where
    go : (b : Bool) → eqb (answer_of c).number 0 ≡ b → (cond b (saying (text "#9920000123456782B\r\n") (answer_of c)) (answer_of c)).number ≡ 0
        → (cond b (saying (text "#9920000123456782B\r\n") (answer_of c)) (answer_of c)).text ≡ text "#9920000123456782B\r\n"
    go true q e = refl
    go false q e = absurd (eqb-false _ _ q e)

pub made : Made
made =
    record {
      refuses_all = λ c e. let f : ◌≡◌ {A = ℕ} 8 0 = e in omega (arith, f);
      given_so = λ answer c.
          let t : (outcome_by (given answer) c).text ≡ (answer c).text = take_laid c.sent.reply (answer c).text _ refl in
          λ i. record { number = (answer c).number; text = t i; areas = (answer c).areas; sum = (answer c).sum };
      same_reply = λ c d p q. said_same c p ∙ sym (said_same d q);
      stores_nothing_lem = λ c. refl;
      stores_first_lem = stays 0x244 writing rows.0 refl;
      stores_first_integer = stays 0x24C changing_integers rows.3 refl;
      five_always_lem = invents five_always.answer _ five_left five_told (λ e. let f : ◌≡◌ {A = ℕ} 0x35 0x31 = ap (λ (s : List ℕ). get_or s 8 0) e in omega (arith, f));
      one_more_lem = invents one_more.answer _ two_left two_told (λ e. let f : ◌≡◌ {A = ℕ} 0x32 0x31 = ap (λ (s : List ℕ). get_or s 8 0) e in omega (arith, f));
      used_all_lem =
          record {
            id = 0x244;
            call = two_points_lem;
            accepted = is_two;
            is_write = refl;
            other = λ e. let f : ◌≡◌ {A = ℕ} 580 85 = sym told.all_told ∙ e ∙ told.used_all_lem in omega (arith, f);
          };
      used_more_lem =
          record {
            id = 0x244;
            call = two_points_lem;
            accepted = is_two;
            is_write = refl;
            other = λ e. let f : ◌≡◌ {A = ℕ} 86 85 = sym told.more_told ∙ e ∙ told.used_all_lem in omega (arith, f);
          };
    }
