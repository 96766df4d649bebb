-- A command's fields, and that it passes a frame's own tests.
use Prim.Native.Nat.{ℕ, ◌+◌, ◌-◌, ◌/◌, ◌%◌, ◌≤◌, ◌<◌, ◌^◌}
use mathlib.Core.Path.{◌≡◌, refl, sym, ap, ap₂, ◌∙◌}
use mathlib.Core.Bool.{Bool, true, false, cond, not, ◌&&◌, ◌||◌}
use mathlib.Core.List.{List, [], ◌∷◌, ◌++◌, append_assoc}
use native.Mathlib.Omega.{arith}
use lib.Dec.{eqb, leb}
use lib.ListN.{length, take, drop, get_or, length-append, length-drop}
use lib.Seq.{length-take-le, take-append-le, drop-append-le, take_at, drop_at, get_or_at}
use borrow.Author.Tests.{eqb-true, eqb-false, eq-eqb, ne_eqb, le-leb, lt-leb}
use Rattle.digits.specs.Digits.{admits, worth_of, byte_of, admitted, number_of}
use Rattle.digits.specs.Text.{text}
use Rattle.digits.proofs.Inverse.{inverse, and_right}
use Rattle.frames.specs.declared.checks.Sum.{Sum}
use Rattle.frames.specs.declared.checks.Sum.TheVariants.{True, SwitchedOff}
use Rattle.frames.specs.Frame.{command, CR, LF, station_in, message_in, content_in, beforeSC, sc_in, sc_of, test_call_fits, shaped, sum_said, station_passes}
use Rattle.frames.proofs.Promised.{closed_true, own_digits}
use Rattle.frames.proofs.Three.{said_true, said_off, one_of_three}
use Rattle.frames.proofs.TestID.{is200, by_message}
use Rattle.kinds.specs.Kinds.{points_tag, columns_tag, integers_tag, flags_tag}
use Rattle.table.specs.declared.Follows.TheVariants.{Nothing, TenBytes, Points, RunBytes, ChangeType}
use Rattle.table.specs.declared.Action.TheVariants.{SayBack, CountPoints, ListPoints, ReadRun, WritePoints, ClearRun, ChangeRun, ShowFlags, SetFlag}
use Rattle.table.specs.declared.Message.{Message}
use Rattle.std.specs.Prelude.{Option, Some, None}
use Rattle.table.specs.Table.{row, message_numbered, message_of}
use Rattle.messages.proofs.Shapes.{in_frame}
use Rattle.calls.specs.Calls.{Sent}
use Rattle.demands.specs.History.{message_by}
use Rattle.demands.specs.Reading.{before, command_of}

-- what is said with '200' before it has thirteen bytes, so that its frame has 20 (02, c)
abbrev pub test_fits : List ℕ → Bool
test_fits said = not (is200 (take 3 said)) || eqb (length said) 13

-- so much more on both sides
eqb_more : (k n m : ℕ) {l : ℕ} → l ≡ n + k → eqb l (m + k) ≡ eqb n m
eqb_more k n m {l} h = go (eqb n m) refl
  where
    go : (b : Bool) → eqb n m ≡ b → eqb l (m + k) ≡ b
    go true e = let q = eqb-true n m e in eq-eqb l (m + k) (omega arith)
    go false e = ne_eqb l (m + k) (λ q. eqb-false n m e (omega (arith, q)))

-- a frame with any two bytes as its station, and with any two as its SC
abbrev pub begun : ℕ → ℕ → List ℕ → List ℕ
begun x y said = command ∷ x ∷ y ∷ said

abbrev pub framed : ℕ → ℕ → List ℕ → List ℕ → List ℕ
framed x y said sc = begun x y said ++ (sc ++ (CR ∷ LF ∷ []))

module _ (x y : ℕ) (said sc : List ℕ) (two : length sc ≡ 2) where
  -- it is seven bytes longer than what it says
  pub framed_long : length (framed x y said sc) ≡ length said + 7
  framed_long = simp length-append (omega arith)

  -- CR LF ends it
  pub ends : framed x y said sc ≡ (begun x y said ++ sc) ++ (CR ∷ LF ∷ [])
  ends = sym (append_assoc (begun x y said) sc (CR ∷ LF ∷ []))

  -- what stands before CR
  pub before_long : length (begun x y said ++ sc) ≡ length said + 5
  before_long = simp length-append (omega arith)

  -- its last byte but one
  is_CR : get_or (framed x y said sc) (length (framed x y said sc) - 2) 0 ≡ CR
  is_CR =
      ap (λ (f : List ℕ). get_or f (length (framed x y said sc) - 2) 0) ends
      ∙ get_or_at (begun x y said ++ sc) CR (LF ∷ []) 0 (length (framed x y said sc) - 2) (omega (arith, before_long, framed_long))

  -- its last byte
  is_LF : get_or (framed x y said sc) (length (framed x y said sc) - 1) 0 ≡ LF
  is_LF =
      ap (λ (f : List ℕ). get_or f (length (framed x y said sc) - 1) 0) (ends ∙ sym (append_assoc (begun x y said ++ sc) (CR ∷ []) (LF ∷ [])))
      ∙ get_or_at ((begun x y said ++ sc) ++ (CR ∷ [])) LF [] 0 (length (framed x y said sc) - 1) (simp length-append (omega (arith, before_long, framed_long)))

  module _ (least : 3 ≤ length said) where
    -- its ID is the first three bytes of what it says
    pub is_message : message_in (framed x y said sc) ≡ take 3 said
    is_message = take-append-le 3 said (sc ++ (CR ∷ LF ∷ [])) least

    -- test 6: '!' first, CR LF last, 10 to 1,023 bytes, a test call of 20 (02, c)
    test_same : test_call_fits (framed x y said sc) ≡ test_fits said
    test_same = ap₂ (λ (t n : Bool). not t || n) (by_message (framed x y said sc) (take 3 said) is_message) (eqb_more 7 (length said) 13 framed_long)

    pub shape_is : shaped (framed x y said sc) ≡ leb (length said + 7) 1023 && test_fits said
    unfolding shaped
    shape_is =
        let l = framed_long in
        rw (is_CR, is_LF, le-leb 10 (length (framed x y said sc)) (omega arith)) (ap₂ (λ (n : ℕ) (t : Bool). leb n 1023 && t) framed_long test_same)

    is_shaped : length said ≤ 1016 → test_fits said ≡ true → shaped (framed x y said sc) ≡ true
    is_shaped most fits = shape_is ∙ rw (le-leb (length said + 7) 1023 (omega arith), fits)

    -- its content is the rest
    pub is_content : content_in (framed x y said sc) ≡ drop 3 said
    is_content =
        ap (take (length (framed x y said sc) - 10)) (drop-append-le 3 said (sc ++ (CR ∷ LF ∷ [])) least)
        ∙ take_at (drop 3 said) (sc ++ (CR ∷ LF ∷ [])) (length (framed x y said sc) - 10) (simp length-drop (omega (arith, framed_long)))

  -- with fewer bytes it isn't long enough
  pub too_short_lem : length said < 3 → shaped (framed x y said sc) ≡ false
  unfolding shaped
  too_short_lem l = rw (is_CR, is_LF, lt-leb 10 (length (framed x y said sc)) (omega (arith, l, framed_long)))

  -- the SC stands behind them
  pub is_sc : sc_in (framed x y said sc) ≡ sc
  is_sc =
      ap (take 2) (drop_at (begun x y said) (sc ++ (CR ∷ LF ∷ [])) (length (framed x y said sc) - 4) (omega (arith, framed_long)))
      ∙ take_at sc (CR ∷ LF ∷ []) 2 two

  -- before which all else stands
  pub is_begun : beforeSC (framed x y said sc) ≡ begun x y said
  is_begun = take_at (begun x y said) (sc ++ (CR ∷ LF ∷ [])) (length (framed x y said sc) - 4) (omega (arith, framed_long))

-- what the sum test says of a command with a true SC, and with '@@'
abbrev pub summed_by : Bool → Sum
summed_by checked = cond checked True SwitchedOff

-- a frame that passes 6, 7 and 8 of a station under a release, and 12 where its SC is true or '@@' is allowed, with what it says
pub record Heard (release station : ℕ) (checked : Bool) (said frame : List ℕ) : Type 0 where
  pub has_shape : shaped frame ≡ true
  pub has_sum : sum_said release frame ≡ summed_by checked
  pub has_station : station_passes release station frame ≡ true
  pub message : message_in frame ≡ take 3 said
  pub content : content_in frame ≡ drop 3 said

-- whatever its station and its SC, if they pass
pub heard_with : (release station : ℕ) (checked : Bool) (x y : ℕ) (said sc : List ℕ) → length sc ≡ 2
    → sum_said release (framed x y said sc) ≡ summed_by checked → station_passes release station (framed x y said sc) ≡ true → 3 ≤ length said
    → length said ≤ 1016 → test_fits said ≡ true → Heard release station checked said (framed x y said sc)
heard_with release station checked x y said sc two sum ours least most fits =
    record {
      has_shape = is_shaped x y said sc two least most fits;
      has_sum = sum;
      has_station = ours;
      message = is_message x y said sc two least;
      content = is_content x y said sc two least;
    }

-- the two digits of a station, as bytes
abbrev pub high : ℕ → ℕ
high station = byte_of (station / 16 % 16)

abbrev pub low : ℕ → ℕ
low station = byte_of (station % 16)

-- test 8: the station's own two digits
ours : (release station : ℕ) (said sc : List ℕ) → station < 256 → station_passes release station (framed (high station) (low station) said sc) ≡ true
unfolding station_passes
ours release station said sc h = own_digits release station h

-- '@@' in the SC's place is seen as such
pub off : (release x y : ℕ) (said : List ℕ) → sum_said release (framed x y said (text "@@")) ≡ SwitchedOff
off release x y said =
    let f = framed x y said (text "@@") in said_off release f ((one_of_three release f).off.1 (is_sc x y said (text "@@") refl))

-- the SC is true, or it is '@@'
pub summed : (release : ℕ) (checked : Bool) (station : ℕ) (said : List ℕ) → sum_said release (command_of checked station said) ≡ summed_by checked
summed release true station said = said_true release (command_of true station said) (closed_true (before station said) release)
summed release false station said = off release (high station) (low station) said

-- both have two bytes
pub two_bytes : (checked : Bool) (s : List ℕ) → length (cond checked (sc_of s) (text "@@")) ≡ 2
two_bytes true s = refl
two_bytes false s = refl

-- a command is heard, with a true SC and with '@@'
pub heard : (release : ℕ) (checked : Bool) (station : ℕ) (said : List ℕ) → station < 256 → 3 ≤ length said → length said ≤ 1016 → test_fits said ≡ true
    → Heard release station checked said (command_of checked station said)
heard release true station said byte =
    let sc = sc_of (before station said) in
    heard_with release station true (high station) (low station) said sc refl (summed release true station said) (ours release station said sc byte)
heard release false station said byte =
    let sc = text "@@" in
    heard_with release station false (high station) (low station) said sc refl (summed release false station said) (ours release station said sc byte)

-- a station that a frame's two digits write is a byte
pub station_byte : (release station : ℕ) (frame : List ℕ) → 10 ≤ length frame → station_passes release station frame ≡ true → station < 256
unfolding station_passes
station_byte release station frame h e =
    let s = station_in frame in
    let l : length s ≡ 2 = length-take-le 2 (drop 1 frame) (simp length-drop (omega arith)) in
    let v : number_of s ≡ station = eqb-true (number_of s) station (and_right (admitted release s) (eqb (number_of s) station) e) in
    let b : number_of s < 16 ^ 2 = (inverse 2).bound s l in
    omega arith

-- the rows of the messages that are spoken of
abbrev pub counting : Message
counting = row 0x208 0 0 0 points_tag Nothing CountPoints false

abbrev pub listing : Message
listing = row 0x209 0 3 3 points_tag Nothing ListPoints false

abbrev pub reading : Message
reading = row 0x210 2 3 2 columns_tag Nothing ReadRun true

abbrev pub writing : Message
writing = row 0x244 0 3 3 points_tag Points WritePoints true

abbrev pub clearing : Message
clearing = row 0x246 0 3 3 points_tag Nothing ClearRun false

abbrev pub changing : Message
changing = row 0x24E 2 3 2 columns_tag RunBytes ChangeRun false

abbrev pub reading_integers : Message
reading_integers = row 0x20E 2 3 2 integers_tag Nothing ReadRun true

abbrev pub changing_integers : Message
changing_integers = row 0x24C 2 3 2 integers_tag RunBytes ChangeRun true

abbrev pub showing : Message
showing = row 0x20D 2 4 4 flags_tag Nothing ShowFlags true

-- 200H
abbrev pub testing : Message
testing = row 0x200 0 0 0 0 TenBytes SayBack false

abbrev pub setting : Message
setting = row 0x24B 2 4 0 flags_tag ChangeType SetFlag false

-- the table's row of an ID is the one that a frame's message with that ID is
numbered : (s : Sent) {m : Message} → message_by s ≡ Some m → message_numbered m.id ≡ Some m
unfolding message_numbered
numbered s e = in_frame (λ (m : Message). message_numbered m.id ≡ Some m) s.settings.release s.frame (refl, (refl, (refl, (refl, (refl, (refl, (refl, (refl, (refl, (refl, (refl, (refl, tt)))))))))))) e

pub row_of : (s : Sent) {m : Message} (id : ℕ) (r : Message) → message_by s ≡ Some m → m.id ≡ id → message_numbered id ≡ Some r → m ≡ r
row_of s {m} id r e i n = let k : Some m ≡ Some r = sym (numbered s e) ∙ ap message_numbered i ∙ n in cc

-- 244H, 246H, 24EH, 24CH and 24BH are these
pub rows : (message_numbered 0x244 ≡ Some writing) × (message_numbered 0x246 ≡ Some clearing) × (message_numbered 0x24E ≡ Some changing)
    × (message_numbered 0x24C ≡ Some changing_integers) × (message_numbered 0x24B ≡ Some setting)
unfolding message_numbered
rows = (refl, refl, refl, refl, refl)

-- the message that an ID names under a release
abbrev pub message_named : ℕ → List ℕ → Option Message
message_named release id = cond (admitted release id) (message_numbered (number_of id)) None

-- a frame's message is the one that its ID names
pub message_of_lem : (release : ℕ) (frame id : List ℕ) → message_in frame ≡ id → message_of release frame ≡ message_named release id
unfolding message_of
message_of_lem release frame id e = rw e

-- an ID names this message under every release
abbrev pub Names : List ℕ → Message → Type 0
Names id m = (release : ℕ) → message_named release id ≡ Some m

-- 208H, 209H, 210H, 20EH, 20DH and 200H are known
pub named : Names (text "208") counting × Names (text "209") listing × Names (text "210") reading × Names (text "20E") reading_integers
    × Names (text "20D") showing × Names (text "200") testing
unfolding admits worth_of message_numbered
named = (λ r. refl, λ r. refl, λ r. refl, λ r. refl, λ r. refl, λ r. refl)
