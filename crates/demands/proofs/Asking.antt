-- What an accepted frame tells, and that what is asked over areas that no test refuses is heard.
use Prim.Native.Nat.{ℕ, ◌+◌, ◌≤◌, ◌<◌, ◌^◌}
use mathlib.Core.Path.{◌≡◌, refl, sym, ap, ap₂, ◌∙◌, subst}
use mathlib.Core.Bool.{Bool, true, false, cond, not, ◌&&◌}
use mathlib.Core.List.{List, ◌++◌}
use native.Mathlib.Nat.{one-le-pow}
use native.Mathlib.Omega.{arith}
use lib.Dec.{eqb, leb}
use lib.ListN.{length, take, drop, length-append, length-drop}
use lib.Seq.{length-take-le, take_all, take-take, take_at, drop_at, drop-drop}
use borrow.Author.Tests.{le-ltb, le-leb, eq-eqb, ne_eqb}
use Rattle.digits.specs.Digits.{capitals, digits_of, admitted, number_of}
use Rattle.digits.proofs.Inverse.{inverse, all_append}
use Rattle.frames.specs.declared.checks.Sum.{Sum}
use Rattle.frames.specs.Frame.{normal, reply_of, sum_said, is_off, is_wrong}
use Rattle.frames.proofs.Bools.{and_false}
use Rattle.kinds.specs.declared.Held.{Held}
use Rattle.points.proofs.Parts.{all_take}
use Rattle.table.specs.declared.Follows.{Follows}
use Rattle.table.specs.declared.Follows.TheVariants.{Nothing}
use Rattle.table.specs.declared.Action.{Action}
use Rattle.table.specs.declared.Message.{Message}
use Rattle.std.specs.Prelude.{Option, Some}
use Rattle.messages.specs.Asked.{Asked, Order, asked_of, judged, number_given}
use Rattle.table.specs.Table.{row, message_of, fields_of, program_in, start_in, count_in, any_bytes}
use Rattle.messages.proofs.Judged.{Right, told, ordered}
use Rattle.messages.proofs.Capitals as capital
use Rattle.kinds.specs.Kinds.{kind_of, held_in, holds}
use Rattle.calls.specs.Calls.{Areas, Sent, Call, Outcome, call_of, lengths_of, area_in}
use Rattle.refusals.specs.Refusals.{count_fits, miscounted, silent_of, told_of}
use Rattle.refusals.proofs.Rows.{AreasPass, forbidden, silent_is, past_silent}
use Rattle.orders.specs.Orders.{said_by}
use Rattle.link.specs.Answer.{held, asked, text_of, areas_after, answer_of}
use Rattle.link.proofs.Answering.{heard_answer, accepted}
use Rattle.orders.proofs.Judging.{Judged, judged_so}
use Rattle.demands.specs.History.{message_by}
use Rattle.demands.proofs.Own.{own as ours}
use Rattle.demands.specs.Reading.{content, start_of, count_of, command_of, Host, allowed, asking, Says}
use Rattle.demands.proofs.Commands.{test_fits, summed_by, Heard, heard, Names, message_of_lem}
use Rattle.demands.proofs.Parts.{same_part}

-- the order of a message over a content
abbrev pub order_of : Message → List ℕ → Asked
order_of m s = Order m (start_in m s) (count_in m s)

-- an accepted frame passed every test, and orders what its message does
pub record Took (m : Message) (c : Call) : Type 0 where
  pub heard : silent_of c ≡ 0
  pub right : Right (held c) c.sent.settings.fitted c.sent.settings.release m (content c.sent)
  pub assured : Judged (held c) (content c.sent) m (start_of m c.sent) (count_of m c.sent)
  pub order : asked c ≡ order_of m (content c.sent)
  pub answer : answer_of c ≡ record { number = 0; text = text_of c (order_of m (content c.sent)); areas = areas_after c (order_of m (content c.sent)); sum = told_of c }

-- what the tests of a frame assure, on a board that holds so much
pub record Ordered (h : Held) (m : Message) (s : Sent) : Type 0 where
  pub right : Right h s.settings.fitted s.settings.release m (content s)
  pub assured : Judged h (content s) m (start_of m s) (count_of m s)

-- a frame that is ordered so has passed them, and orders what its own message reads in its content
pub ordered_so : (h : Held) (s : Sent) (m : Message) → message_by s ≡ Some m → {m' : Message} {start count : ℕ}
    → asked_of h s.settings.fitted s.settings.release s.frame ≡ Order m' start count → Ordered h m s × (asked_of h s.settings.fitted s.settings.release s.frame ≡ order_of m (content s))
unfolding asked_of
ordered_so h s m known {m'} {start} {count} e =
    let f = s.settings.fitted in
    let l = s.settings.release in
    let t = told h f l (message_by s) (content s) m' start count e in
    let same : m' ≡ m = let k = t.message in cc in
    let r : Right h f l m (content s) = subst (λ (x : Message). Right h f l x (content s)) same t.rows in
    let o : judged h f l (message_by s) (content s) ≡ order_of m (content s) = ap (λ (n : Option Message). judged h f l n (content s)) known ∙ ordered h f l m (content s) r in
    (record { right = r; assured = judged_so h f l s.frame m (start_of m s) (count_of m s) o }, o)

-- its number alone tells all that
pub took : (m : Message) (c : Call) → message_by c.sent ≡ Some m → (answer_of c).number ≡ 0 → Took m c
took m c known number =
    let a = accepted c number in
    let o = ordered_so (held c) c.sent m known a.order in
    record {
      heard = a.heard;
      right = o.0.right;
      assured = o.0.assured;
      order = o.1;
      answer = heard_answer c a.heard ∙ ap (λ (x : Asked). record { number = number_given x; text = text_of c x; areas = areas_after c x; sum = told_of c }) o.1;
    }

-- areas that no test of them refuses
abbrev pub Open : Areas → Type 0
Open a = AreasPass (lengths_of a) a.journal a.kept

module _ (a : Areas) (h : Sent) (frame : List ℕ) where
  -- what a host sends over areas
  abbrev sending : Call
  sending = call_of frame h.axes h.settings h.reply a

  -- a true SC passes, and '@@' where it is allowed
  sum_passes : (checked : Bool) → allowed h checked ≡ true → sum_said h.settings.release frame ≡ summed_by checked
      → (forbidden h.settings frame ≡ false) × (is_wrong (sum_said h.settings.release frame) ≡ false)
  sum_passes true g e = (rw e, ap is_wrong e)
  sum_passes false g e = (ap (λ (s : Sum). is_off s && not h.settings.unchecked) e ∙ ap not g, ap is_wrong e)

  -- a command of its station passes every test before a reply
  pub heard_there : (checked : Bool) (asks : List ℕ) → Host h → allowed h checked ≡ true → Open a
      → miscounted (message_of h.settings.release frame) a.points a.kept.effective ≡ false
      → Heard h.settings.release h.settings.station checked asks frame → silent_of sending ≡ 0
  heard_there checked asks o g p n d =
      let s = sum_passes checked g d.has_sum in
      silent_is sending
      ∙ past_silent (length h.reply) frame h.axes h.settings (lengths_of a) a.journal a.kept a.points
      (record {
        early =
            record {
              reply_long = le-ltb (length h.reply) 1024 o.reply_long;
              areas = p;
              axes_fit_lem = o.axes_fit_lem;
              release_fits_lem = o.release_fits_lem;
              shape = d.has_shape;
            };
        allowed = s.0;
        sum = s.1;
        station = d.has_station;
        count = n;
      })
      0

  -- and asks what it says
  asked_there : {checked : Bool} (asks : List ℕ) (q : Message) → Heard h.settings.release h.settings.station checked asks frame → Names (take 3 asks) q
      → Right (held_in (lengths_of a)) h.settings.fitted h.settings.release q (drop 3 asks) → asked sending ≡ order_of q (drop 3 asks)
  unfolding asked_of
  asked_there asks q d e r =
      let l = h.settings.release in
      ap₂ (λ (n : Option Message) (s : List ℕ). judged (held_in (lengths_of a)) h.settings.fitted l n s) (message_of_lem l frame (take 3 asks) d.message ∙ e l) d.content
      ∙ ordered (held_in (lengths_of a)) h.settings.fitted l q (drop 3 asks) r

-- asked so by a host that is heard, with a true SC or an allowed '@@', the board hears it, takes it as this order and accepts it
pub record TakenAs (q : Message) (a : Areas) (h : Sent) (b : Bool) (asks : List ℕ) : Type 0 where
  pub is_heard : Heard h.settings.release h.settings.station b asks (command_of b h.settings.station asks)
  pub again : silent_of (asking a h b asks) ≡ 0
  pub order : asked (asking a h b asks) ≡ order_of q (drop 3 asks)
  pub accepts : (answer_of (asking a h b asks)).number ≡ 0

pub taken_as : (a : Areas) (asks : List ℕ) (q : Message) → Open a → count_fits q.does a.points a.kept.effective ≡ true → 3 ≤ length asks → length asks ≤ 1016 → test_fits asks ≡ true
    → Names (take 3 asks) q → ((fitted release : ℕ) → Right (held_in (lengths_of a)) fitted release q (drop 3 asks)) → (h : Sent) → Host h → (b : Bool)
    → allowed h b ≡ true → TakenAs q a h b asks
taken_as a asks q p n least most fits e r h o b g =
    let frame = command_of b h.settings.station asks in
    let d = heard h.settings.release b h.settings.station asks o.station_byte least most fits in
    let m : message_of h.settings.release frame ≡ Some q = message_of_lem h.settings.release frame (take 3 asks) d.message ∙ e h.settings.release in
    let z = heard_there a h frame b asks o g p (ap (λ (x : Option Message). miscounted x a.points a.kept.effective) m ∙ ap not n) d in
    let w = asked_there a h frame asks q d e (r h.settings.fitted h.settings.release) in
    record { is_heard = d; again = z; order = w; accepts = ap (λ (x : Outcome). x.number) (heard_answer (asking a h b asks) z) ∙ ap number_given w }

-- and it says what the order does
pub says : (a : Areas) (asks said : List ℕ) (q : Message) → Open a → count_fits q.does a.points a.kept.effective ≡ true → 3 ≤ length asks → length asks ≤ 1016 → test_fits asks ≡ true
    → Names (take 3 asks) q → ((fitted release : ℕ) → Right (held_in (lengths_of a)) fitted release q (drop 3 asks))
    → ((h : Sent) (frame : List ℕ) → said_by q.does (held_in (lengths_of a)) (sending a h frame).sent a.kept q (start_in q (drop 3 asks)) (count_in q (drop 3 asks)) (area_in q.tag a) ≡ said)
    → Says ours a asks said
says a asks said q p n least most fits e r t =
    let k = taken_as a asks q p n least most fits e r in
    record {
      number = λ h o b g. (k h o b g).accepts;
      text = λ h o b g.
          ap (λ (x : Outcome). x.text) (heard_answer (asking a h b asks) (k h o b g).again) ∙ ap (text_of (asking a h b asks)) (k h o b g).order
          ∙ ap (reply_of normal h.settings.station) (t h (command_of b h.settings.station asks));
    }

-- a message of any kind, and a query with the same fields and nothing behind them; the fields of what was sent to the one, in
-- capitals, say the same to the other
module _ (id id' program start count tag : ℕ) (follows : Follows) (does does' : Action) (repeats repeats' : Bool) where
  abbrev sent : Message
  sent = row id program start count tag follows does repeats

  abbrev query : Message
  query = row id' program start count tag Nothing does' repeats'

  module _ (s : List ℕ) where
    front_start : start_in query (take (fields_of sent) s) ≡ start_in sent s
    front_start = ap number_of (same_part start program (fields_of sent) s (omega arith))

    front_count : count_in query (take (fields_of sent) s) ≡ count_in sent s
    front_count = ap (λ (x : List ℕ). cond (eqb count 0) 1 (number_of x)) (same_part count (program + start) (fields_of sent) s (omega arith))

    pub same_start : start_in query (capitals (take (fields_of sent) s)) ≡ start_in sent s
    same_start = capital.same_start query (take (fields_of sent) s) ∙ front_start

    pub same_count : count_in query (capitals (take (fields_of sent) s)) ≡ count_in sent s
    same_count = capital.same_count query (take (fields_of sent) s) ∙ front_count

  -- such a query passes the tests that the message passed
  pub query_right : (h : Held) (s : Sent) → Ordered h sent s → any_bytes follows ≡ false → (fitted release : ℕ)
      → Right h fitted release query (capitals (take (fields_of sent) (content s)))
  query_right h s o any fitted release =
      let t = content s in
      let r = o.right in
      let n : length (take (fields_of sent) t) ≡ fields_of sent = length-take-le (fields_of sent) t o.assured.fields in
      let z : length (drop (fields_of sent) (take (fields_of sent) t)) ≡ 0 = simp length-drop (omega arith) in
      capital.in_capitals query (take (fields_of sent) t) h fitted 2 release refl
      (record {
        digits = rw (all_take (fields_of sent) t (o.assured.digits any));
        long = rw (le-leb (fields_of sent) (length (take (fields_of sent) t)) (omega arith), eq-eqb _ 0 z);
        program = rw (take-take program (fields_of sent) t (omega arith)) r.program;
        some = rw (front_count t) r.some;
        held_all = rw (front_start t, front_count t) r.held_all;
        pattern = refl;
        type = refl;
      })

-- a query whose fields are written out: program number 00, a start number and a count
module _ (id program start count tag : ℕ) (does : Action) (repeats : Bool) (number many : ℕ) (fits : number < 16 ^ start) (few : many < 16 ^ count)
    (counts : 1 ≤ count) where
  abbrev asks : Message
  asks = row id program start count tag Nothing does repeats

  abbrev fields : List ℕ
  fields = digits_of program 0 ++ (digits_of start number ++ digits_of count many)

  program_long : length (digits_of program 0) ≡ program
  program_long = (inverse program).as_many 0

  start_long : length (digits_of start number) ≡ start
  start_long = (inverse start).as_many number

  count_long : length (digits_of count many) ≡ count
  count_long = (inverse count).as_many many

  fields_long : length fields ≡ program + start + count
  fields_long = simp length-append (omega (arith, program_long, start_long, count_long))

  behind_program : drop program fields ≡ digits_of start number ++ digits_of count many
  behind_program = drop_at (digits_of program 0) (digits_of start number ++ digits_of count many) program program_long

  pub start_said : start_in asks fields ≡ number
  start_said =
      ap (λ (s : List ℕ). number_of (take start s)) behind_program ∙ ap number_of (take_at (digits_of start number) (digits_of count many) start start_long)
      ∙ (inverse start).value_of_digits number fits

  pub count_said : count_in asks fields ≡ many
  count_said =
      rw (ne_eqb count 0 (λ e. omega (arith, counts, e)))
      (ap (λ (s : List ℕ). number_of (take count s))
      (sym (drop-drop start program fields) ∙ ap (drop start) behind_program ∙ drop_at (digits_of start number) (digits_of count many) start start_long)
      ∙ ap number_of (take_all count (digits_of count many) (omega (arith, count_long)))
      ∙ (inverse count).value_of_digits many few)

  program_said : program_in asks fields ≡ 0
  program_said =
      ap number_of (take_at (digits_of program 0) (digits_of start number ++ digits_of count many) program program_long)
      ∙ (inverse program).value_of_digits 0 (one-le-pow program 16 (omega arith))

  -- it passes every test where its numbers are held
  pub asks_right : (h : Held) → 1 ≤ many → holds (kind_of h tag) number many ≡ true → (fitted release : ℕ) → Right h fitted release asks fields
  asks_right h some all fitted release =
      let d : admitted release fields ≡ true =
      rw (
        all_append release (digits_of program 0) (digits_of start number ++ digits_of count many),
        all_append release (digits_of start number) (digits_of count many),
        (inverse program).are_digits release 0,
        (inverse start).are_digits release number,
        (inverse count).are_digits release many,
      ) in
      let z : length (drop (program + start + count) fields) ≡ 0 = simp length-drop (omega (arith, fields_long)) in
      record {
        digits = rw d;
        long = rw (le-leb (program + start + count) (length fields) (omega (arith, fields_long)), eq-eqb _ 0 z);
        program = rw program_said;
        some = rw (count_said, ne_eqb many 0 (λ e. omega (arith, e))) (and_false (leb 1 count));
        held_all = rw (start_said, count_said, all) (and_false (leb 1 start));
        pattern = refl;
        type = refl;
      }
