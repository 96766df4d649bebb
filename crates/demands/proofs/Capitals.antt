-- Replies stay in capitals: what is written from numbers has no small letter.
use Prim.Native.Nat.{ℕ, zero, suc, ◌-◌, ◌/◌, ◌%◌, ◌≤◌, ◌<◌}
use mathlib.Core.Path.{◌≡◌, refl, sym, ap, ap₂, ◌∙◌, subst}
use mathlib.Core.Bool.{Bool, true, false, cond}
use mathlib.Core.List.{List, [], ◌∷◌, ◌++◌}
use native.Mathlib.Omega.{arith}
use lib.Bits.{bit_and}
use lib.Dec.{eqb, leb}
use lib.IntN.{pos}
use lib.ListN.{length, drop, get_or, length-drop}
use lib.Seq.{length-take-le}
use mir.Syntax.{w32}
use mir.Val.{of_z}
use borrow.Author.Tests.{eqb-true}
use Rattle.axes.specs.Records.{records_of, zero_record}
use Rattle.digits.specs.Digits.{byte_of, capital, capitals, digits_of, admitted, number_of}
use Rattle.digits.specs.Text.{text}
use Rattle.digits.proofs.Bools.{either}
use Rattle.digits.proofs.Inverse.{inverse, rules}
use Rattle.digits.proofs.OneDigit.{worth_byte, capital_same, below_letters}
use Rattle.digits.proofs.Capitals.{length_capitals, capitals_append}
use Rattle.frames.specs.Frame.{normal, error, CR, LF, message_in, content_in, sc_of, low_byte, three_of, reply_of, error_of}
use Rattle.kinds.specs.Kinds.{points_of, kind_of, place_of, run_of}
use Rattle.axes.specs.declared.AxisRecord.{AxisRecord}
use Rattle.pairs.specs.Pairs.{digits_in}
use Rattle.flags.specs.Flags.{eights}
use Rattle.points.specs.declared.units.Position.{Position}
use Rattle.points.specs.declared.point.Point.{Point}
use Rattle.points.specs.Units.{position}
use Rattle.points.specs.Axes.{axes_of}
use Rattle.points.specs.Point.{point_in, position_digits, point_digits}
use Rattle.listing.specs.Listing.{listing, listed, joined}
use Rattle.table.specs.declared.Action.{Action}
use Rattle.table.specs.declared.Action.TheVariants.{SayBack, CountPoints, ListPoints, ReadRun, AxisStatus, WritePoints, ClearRun, ChangeRun, ShowFlags, SetFlag}
use Rattle.table.specs.declared.Message.{Message}
use Rattle.std.specs.Prelude.{Some, None}
use Rattle.table.specs.Table.{messages, named_in, message_numbered, message_of, any_bytes}
use Rattle.messages.specs.Asked.{Asked, Refused, Order, asked_of}
use Rattle.messages.proofs.Judged.{told}
use Rattle.messages.proofs.Shapes.{in_frame, Shape, shaped}
use Rattle.heads.specs.Heads.{id_of, head_of}
use Rattle.queries.specs.Replies.{record_digits, records_digits}
use Rattle.calls.specs.Calls.{Call, Outcome, area_in}
use Rattle.refusals.specs.Refusals.{silent_of}
use Rattle.refusals.proofs.Rows.{call_passed}
use Rattle.refusals.proofs.Tested.{shaped_long}
use Rattle.orders.specs.Orders.{rest, said_by}
use Rattle.orders.proofs.Judging.{not_so}
use Rattle.link.specs.Answer.{held, asked, text_of}
use Rattle.demands.proofs.Own.{own as ours}
use Rattle.demands.specs.Releases.{InCapitals, RepliesInCapitals}
use Rattle.demands.proofs.Refused.{answer_either}

-- '200' is no other text's capitals
pub no_letters : (s : List ℕ) → capitals s ≡ text "200" → s ≡ text "200"
no_letters s e = go s (sym (length_capitals s) ∙ ap length e) e
  where
    at : {x : ℕ} (n : ℕ) → n < 65 → capital x ≡ n → x ≡ n
    at {x} n h c = below_letters x n h c

    go : (s : List ℕ) → length s ≡ 3 → capitals s ≡ text "200" → s ≡ text "200"
    go [] l e = absurd (omega arith)
    go (x ∷ []) l e = absurd (omega arith)
    go (x ∷ y ∷ []) l e = absurd (omega arith)
    go (x ∷ y ∷ z ∷ []) l e =
        rw (
          at 0x32 (omega arith) (ap (λ (t : List ℕ). get_or t 0 0) e),
          at 0x30 (omega arith) (ap (λ (t : List ℕ). get_or t 1 0) e),
          at 0x30 (omega arith) (ap (λ (t : List ℕ). get_or t 2 0) e),
        )
    go (x ∷ y ∷ z ∷ w ∷ s) l e = absurd (omega arith)

-- the row that is found has the ID that was looked for
found_id : (id : ℕ) (ms : List Message) {m : Message} → named_in id ms ≡ Some m → id ≡ m.id
found_id id [] e = absurd (let z : ◌≡◌ {A = ℕ} 0 1 = cc in omega arith)
found_id id (k ∷ ms) {m} e = go (eqb id k.id) refl (found_id id ms) e
  where
    go : (b : Bool) → eqb id k.id ≡ b → (named_in id ms ≡ Some m → id ≡ m.id) → cond b (Some k) (named_in id ms) ≡ Some m → id ≡ m.id
    go true q g f = let w : k ≡ m = cc in eqb-true _ _ q ∙ ap (λ (x : Message). x.id) w
    go false q g f = g f

-- an ID that names a message is admitted, and is its number
module _ (release : ℕ) (frame : List ℕ) {m : Message} (known : message_of release frame ≡ Some m) where
  pub known_id : (admitted release (message_in frame) ≡ true) × (number_of (message_in frame) ≡ m.id)
  unfolding message_of message_numbered
  known_id = go (admitted release (message_in frame)) refl known
    where
      go : (b : Bool) → admitted release (message_in frame) ≡ b → cond b (named_in (number_of (message_in frame)) messages) None ≡ Some m
          → (admitted release (message_in frame) ≡ true) × (number_of (message_in frame) ≡ m.id)
      go true q f = (q, found_id (number_of (message_in frame)) messages f)
      go false q f = absurd (let z : ◌≡◌ {A = ℕ} 0 1 = cc in omega arith)

  -- the one row with any bytes is 200H's
  any_200 : any_bytes m.follows ≡ true → m.id ≡ 0x200
  any_200 =
      in_frame (λ (k : Message). any_bytes k.follows ≡ true → k.id ≡ 0x200) release frame
      (λ _. refl, (not_so, (not_so, (not_so, (not_so, (not_so, (not_so, (not_so, (not_so, (not_so, (not_so, (not_so, tt))))))))))))
      known

  -- so its ID is '200', which has no letters
  pub id_200 : 6 ≤ length frame → any_bytes m.follows ≡ true → message_in frame ≡ text "200"
  unfolding byte_of
  id_200 l a =
      let i = message_in frame in
      let k : length i ≡ 3 = length-take-le 3 (drop 3 frame) (simp length-drop (omega arith)) in
      no_letters i (sym ((inverse 3).digits_of_value i k ((rules i).digits release known_id.0)) ∙ ap (digits_of 3) (known_id.1 ∙ any_200 a))

-- texts in capitals, one behind the other
joins : (s t : List ℕ) → InCapitals s → InCapitals t → InCapitals (s ++ t)
joins s t p q = capitals_append s t ∙ ap₂ (λ (x y : List ℕ). x ++ y) p q

of_digits : (width n : ℕ) → InCapitals (digits_of width n)
of_digits width n = (rules (digits_of width n)).capitals_only ((inverse width).are_digits 1 n)

of_byte : (n : ℕ) → n < 16 → capital (byte_of n) ≡ byte_of n
of_byte n h = capital_same (byte_of n) ((worth_byte n h).1 1)

-- a reply whose header and whose text are
of_reply : (header station : ℕ) (said : List ℕ) → capital header ≡ header → InCapitals said → InCapitals (reply_of header station said)
unfolding reply_of capital
of_reply header station said h p =
    let front = joins (digits_of 2 station) said (of_digits 2 station) p in
    let before = header ∷ (digits_of 2 station ++ said) in
    joins before (sc_of before ++ (CR ∷ LF ∷ [])) (ap₂ (λ (x : ℕ) (s : List ℕ). x ∷ s) h front)
    (joins (sc_of before) (CR ∷ LF ∷ []) (of_digits 2 (low_byte before)) refl)

of_three : (k : ℕ) → InCapitals (three_of k)
of_three k = rw (of_byte (k / 100 % 10) (omega arith), of_byte (k / 10 % 10) (omega arith), of_byte (k % 10) (omega arith))

of_error : (station k : ℕ) → InCapitals (error_of station k)
unfolding capital
of_error station k = of_reply error station (three_of k) refl (of_three k)

-- what each message says
of_bytes : (s : List ℕ) → InCapitals (digits_in s)
of_bytes [] = refl
of_bytes (b ∷ s) = joins (digits_of 2 b) (digits_in s) (of_digits 2 b) (of_bytes s)

of_head : (m : Message) (start count : ℕ) → InCapitals (head_of m start count)
of_head m start count =
    let fields = digits_of m.program 0 ++ (digits_of m.start start ++ digits_of m.count count) in
    joins (id_of m) (cond m.repeats fields []) (of_digits 3 m.id)
    (either InCapitals m.repeats
    (λ _.
    joins (digits_of m.program 0) (digits_of m.start start ++ digits_of m.count count) (of_digits m.program 0)
    (joins (digits_of m.start start) (digits_of m.count count) (of_digits m.start start) (of_digits m.count count)))
    (λ _. refl))

of_positions : (axes : List ℕ) (ps : List Position) → InCapitals (position_digits axes ps)
unfolding position_digits
of_positions [] ps = refl
of_positions (axis ∷ axes) ps =
    let n = of_z w32 (get_or ps axis (position (pos 0))).0 in
    joins (digits_of 8 n) (position_digits axes ps) (of_digits 8 n) (of_positions axes ps)

of_point : (p : Point) → InCapitals (point_digits p)
unfolding point_digits
of_point p =
    let ps = position_digits (axes_of p.pattern) p.positions in
    let v = digits_of 4 p.speed.0 ++ ps in
    let d = digits_of 4 p.deceleration.0 ++ v in
    joins (digits_of 2 p.pattern) (digits_of 4 p.acceleration.0 ++ d) (of_digits 2 p.pattern)
    (joins (digits_of 4 p.acceleration.0) d (of_digits 4 p.acceleration.0)
    (joins (digits_of 4 p.deceleration.0) v (of_digits 4 p.deceleration.0)
    (joins (digits_of 4 p.speed.0) ps (of_digits 4 p.speed.0) (of_positions (axes_of p.pattern) p.positions))))

of_list : (room count number : ℕ) (slots : List ℕ) → InCapitals (joined (listed room count number slots))
unfolding listed
of_list room zero number slots = refl
of_list room (suc count) number slots =
    let s = listing number slots in
    let behind = drop 40 slots in
    either (λ (l : List (List ℕ)). InCapitals (joined l)) (eqb (get_or slots 0 0) 0) (λ _. of_list room count (suc number) behind)
    (λ _.
    either (λ (l : List (List ℕ)). InCapitals (joined l)) (leb (length s) room)
    (λ _.
    joins s (joined (listed (room - length s) count (suc number) behind))
    (joins (digits_of 3 number) (point_digits (point_in slots)) (of_digits 3 number) (of_point (point_in slots)))
    (of_list (room - length s) count (suc number) behind))
    (λ _. refl))

of_record : (r : AxisRecord) → InCapitals (record_digits r)
of_record r =
    let p = digits_of 8 (of_z w32 r.position.0) in
    let e = digits_of 2 r.encoder ++ p in
    let c = digits_of 3 r.error ++ e in
    joins (digits_of 2 r.status) (digits_of 1 r.sensor ++ c) (of_digits 2 r.status)
    (joins (digits_of 1 r.sensor) c (of_digits 1 r.sensor)
    (joins (digits_of 3 r.error) e (of_digits 3 r.error)
    (joins (digits_of 2 r.encoder) p (of_digits 2 r.encoder) (of_digits 8 (of_z w32 r.position.0)))))

of_records : (axes : List ℕ) (records : List AxisRecord) → InCapitals (records_digits axes records)
unfolding records_digits
of_records [] records = refl
of_records (axis ∷ axes) records =
    let r = get_or records axis zero_record in
    joins (record_digits r) (records_digits axes records) (of_record r) (of_records axes records)

module _ (c : Call) (m : Message) (start count : ℕ) where
  abbrev area : List ℕ
  area = area_in m.tag c.areas

  abbrev id : InCapitals (id_of m)
  id = of_digits 3 m.id

  of_said : (does : Action) → (does ≡ SayBack → ⊥) → InCapitals (said_by does (held c) c.sent c.areas.kept m start count area)
  of_said SayBack n = absurd (n refl)
  of_said CountPoints n = let k = c.areas.kept.effective in joins (id_of m) (digits_of 3 k) id (of_digits 3 k)
  of_said ListPoints n =
      let ls = listed 1011 count start (drop (place_of (points_of (held c)) start) area) in
      joins (id_of m) (digits_of 3 (length ls) ++ joined ls) id
      (joins (digits_of 3 (length ls)) (joined ls) (of_digits 3 (length ls)) (of_list 1011 count start (drop (place_of (points_of (held c)) start) area)))
  of_said ReadRun n =
      let run = run_of (kind_of (held c) m.tag) start count area in
      joins (head_of m start count) (digits_in run) (of_head m start count) (of_bytes run)
  of_said AxisStatus n =
      let p = bit_and (number_of (rest c.sent m)) c.sent.settings.fitted in
      let rs = records_digits (axes_of p) (records_of c.sent.axes) in
      joins (id_of m) (digits_of 2 p ++ rs) id (joins (digits_of 2 p) rs (of_digits 2 p) (of_records (axes_of p) (records_of c.sent.axes)))
  of_said WritePoints n = of_head m start count
  of_said ClearRun n = of_head m start count
  of_said ChangeRun n = of_head m start count
  of_said ShowFlags n =
      let shown = eights 0 (run_of (kind_of (held c) m.tag) start count area) in
      joins (head_of m start count) (digits_in shown) (of_head m start count) (of_bytes shown)
  of_said SetFlag n = of_head m start count

-- a 200H alone says its text back
pub not_said_back : (c : Call) → (message_in c.sent.frame ≡ text "200" → ⊥) → 6 ≤ length c.sent.frame → (m : Message) (start count : ℕ)
    → asked c ≡ Order m start count → m.does ≡ SayBack → ⊥
unfolding asked_of
not_said_back c other l m start count q d =
    let f = c.sent.frame in
    let r = c.sent.settings.release in
    let t = told (held c) c.sent.settings.fitted r (message_of r f) (content_in f) m start count q in
    let w : Shape SayBack m = subst (λ (x : Action). Shape x m) d (shaped r f m t.message).shape in
    other (id_200 r f t.message l (ap any_bytes w.1))

of_text : (c : Call) → (message_in c.sent.frame ≡ text "200" → ⊥) → silent_of c ≡ 0 → (x : Asked) → asked c ≡ x → InCapitals (text_of c x)
unfolding capital
of_text c other z (Refused k) q = of_error c.sent.settings.station k
of_text c other z (Order m start count) q =
    of_reply normal c.sent.settings.station (said_by m.does (held c) c.sent c.areas.kept m start count (area_in m.tag c.areas)) refl
    (of_said c m start count m.does (not_said_back c other (omega (arith, shaped_long c.sent.frame (call_passed c z).early.shape)) m start count q))

pub replies_in_capitals : RepliesInCapitals ours
replies_in_capitals c other =
    answer_either c (λ (o : Outcome). InCapitals o.text) (λ z. of_text c other z (asked c) refl) (λ _. refl)
