-- Two calls that are answered alike: the same but for settings that the answer does not ask for, and two frames that the tests find alike.
use Prim.Native.Nat.{ℕ, ◌+◌, ◌≤◌}
use mathlib.Core.Path.{◌≡◌, refl, sym, ap, ap₂, ◌∙◌}
use mathlib.Core.Bool.{Bool, true, false, cond, not, ◌&&◌, true≢false}
use mathlib.Core.List.{List}
use native.Mathlib.Omega.{arith}
use lib.Bits.{bit_and}
use lib.Dec.{eqb, ltb, leb}
use lib.ListN.{length}
use borrow.Author.Tests.{eqb-true, eqb-false, ltb-true, ltb-false}
use Rattle.axes.specs.Records.{records_of}
use Rattle.digits.specs.Digits.{number_of}
use Rattle.digits.specs.Text.{text}
use Rattle.frames.specs.declared.checks.Sum.{Sum}
use Rattle.frames.specs.Frame.{normal, reply_of, message_in, content_in, shaped, sum_said, is_off, is_wrong, station_passes}
use Rattle.kinds.specs.Kinds.{kind_of, held_in}
use Rattle.table.specs.declared.Action.{Action}
use Rattle.table.specs.declared.Action.TheVariants.{SayBack, CountPoints, ListPoints, ReadRun, AxisStatus, WritePoints, ClearRun, ChangeRun, ShowFlags, SetFlag}
use Rattle.table.specs.declared.Message.{Message}
use Rattle.std.specs.Prelude.{Option}
use Rattle.table.specs.Table.{message_of, rest_in}
use Rattle.messages.specs.Asked.{Asked, Refused, Order, asked_of, judged, number_given}
use Rattle.calls.specs.Calls.{Areas, Sent, Call, call_of, lengths_of, area_in, written}
use Rattle.refusals.specs.Refusals.{axes_fit, release_fits, miscounted, silent_of}
use Rattle.refusals.proofs.Rows.{forbidden, area_number, late_number, early_number, early_rows, silent_is, call_passed, same_told_after}
use Rattle.queries.specs.Replies.{same_text, axes_text}
use Rattle.orders.specs.Orders.{rest, writes, new_bytes, said_by}
use Rattle.link.specs.Answer.{held, asked, text_of, areas_after, answer_of}
use Rattle.link.proofs.Answering.{silent_answer, heard_answer}
use Rattle.demands.proofs.Own.{own as ours}
use Rattle.demands.specs.TestCalls.{handed}
use Rattle.demands.proofs.Commands.{test_fits, framed, is_message, shape_is, is_content, too_short_lem, message_of_lem}
use Rattle.demands.specs.SwitchedOff.{but_sum}
use Rattle.demands.proofs.Refused.{told_is}

-- what an order says and leaves doesn't ask for the release, nor whether '@@' is allowed
module _ (c : Call) (release release' : ℕ) (unchecked unchecked' : Bool) where
  abbrev settled : ℕ → Bool → Call
  settled r u =
      let s = c.sent.settings in
      call_of c.sent.frame c.sent.axes (record { station = s.station; release = r; unchecked = u; fitted = s.fitted }) c.sent.reply c.areas

  same_said : (does : Action) (m : Message) (start count : ℕ) (area : List ℕ)
      → said_by does (held c) (settled release unchecked).sent c.areas.kept m start count area ≡ said_by does (held c) (settled release' unchecked').sent c.areas.kept m start count area
  same_said SayBack m start count area = refl
  same_said CountPoints m start count area = refl
  same_said ListPoints m start count area = refl
  same_said ReadRun m start count area = refl
  same_said AxisStatus m start count area = refl
  same_said WritePoints m start count area = refl
  same_said ClearRun m start count area = refl
  same_said ChangeRun m start count area = refl
  same_said ShowFlags m start count area = refl
  same_said SetFlag m start count area = refl

  pub same_text_lem : (x : Asked) → text_of (settled release unchecked) x ≡ text_of (settled release' unchecked') x
  same_text_lem (Refused k) = refl
  same_text_lem (Order m start count) = ap (reply_of normal c.sent.settings.station) (same_said m.does m start count (area_in m.tag c.areas))

  pub same_areas : (x : Asked) → areas_after (settled release unchecked) x ≡ areas_after (settled release' unchecked') x
  same_areas (Refused k) = refl
  same_areas (Order m start count) = refl

-- two frames over the same areas, from the same host, that the tests of a frame pass or refuse alike, and that ask for the same where they are heard
module _ (a : Areas) (h : Sent) (f g : List ℕ) where
  abbrev c : Call
  c = handed a h f

  abbrev d : Call
  d = handed a h g

  pub record Alike : Type 0 where
    pub shape : shaped f ≡ shaped g
    pub forbids : forbidden h.settings f ≡ forbidden h.settings g
    pub wrong : is_wrong (sum_said h.settings.release f) ≡ is_wrong (sum_said h.settings.release g)
    pub station : station_passes h.settings.release h.settings.station f ≡ station_passes h.settings.release h.settings.station g
    pub names : shaped f ≡ true → message_of h.settings.release f ≡ message_of h.settings.release g
    pub asks : shaped f ≡ true → asked c ≡ asked d
    pub does : shaped f ≡ true → (x : Asked) → asked d ≡ x → (text_of c x ≡ text_of d x) × (areas_after c x ≡ areas_after d x)

  -- of which the sum test says the same
  pub by_sum : sum_said h.settings.release f ≡ sum_said h.settings.release g
      → (forbidden h.settings f ≡ forbidden h.settings g) × (is_wrong (sum_said h.settings.release f) ≡ is_wrong (sum_said h.settings.release g))
  by_sum e = (ap (λ (s : Sum). is_off s && not h.settings.unchecked) e, ap is_wrong e)

  module _ (k : Alike) where
    -- the tests before the sum, with what comes behind them
    early_same : (n : ℕ)
        → early_number (length h.reply) f h.axes h.settings (lengths_of a) a.journal a.kept n
        ≡ early_number (length h.reply) g h.axes h.settings (lengths_of a) a.journal a.kept n
    early_same n =
        λ i.
        cond (ltb (length h.reply) 1024) 1
        (area_number (lengths_of a) a.journal a.kept
        (cond (not (axes_fit h.axes h.settings.fitted)) 5 (cond (not (release_fits h.settings.release)) 13 (cond (not (k.shape i)) 6 n))))

    late_same : shaped f ≡ true → late_number h.settings f a.points a.kept 0 ≡ late_number h.settings g a.points a.kept 0
    late_same s =
        λ i.
        cond (k.forbids i) 12
        (cond (k.wrong i) 7 (cond (not (k.station i)) 8 (cond (miscounted (k.names s i) a.points a.kept.effective) 11 0)))

    -- a frame that isn't shaped is refused before
    behind_same : (b : Bool) → shaped f ≡ b
        → early_number (length h.reply) f h.axes h.settings (lengths_of a) a.journal a.kept (late_number h.settings f a.points a.kept 0)
        ≡ early_number (length h.reply) f h.axes h.settings (lengths_of a) a.journal a.kept (late_number h.settings g a.points a.kept 0)
    behind_same true s = ap (early_number (length h.reply) f h.axes h.settings (lengths_of a) a.journal a.kept) (late_same s)
    behind_same false s = rw s

    silent_same : silent_of c ≡ silent_of d
    silent_same =
        silent_is c
        ∙ behind_same (shaped f) refl
        ∙ early_same (late_number h.settings g a.points a.kept 0)
        ∙ sym (silent_is d)

    -- all but what is told of the sum
    pub same_but_sum : but_sum (answer_of c) ≡ but_sum (answer_of d)
    same_but_sum = go (eqb (silent_of c) 0) refl
      where
        go : (b : Bool) → eqb (silent_of c) 0 ≡ b → but_sum (answer_of c) ≡ but_sum (answer_of d)
        go true e =
            let z = eqb-true _ _ e in
            let s = (call_passed c z).early.shape in
            let w = k.does s (asked d) refl in
            ap but_sum (heard_answer c z)
            ∙ ap (λ (x : Asked). record { number = number_given x; text = text_of c x; areas = areas_after c x }) (k.asks s)
            ∙ (λ i. record { number = number_given (asked d); text = w.0 i; areas = w.1 i })
            ∙ sym (ap but_sum (heard_answer d (sym silent_same ∙ z)))
        go false e =
            let z = eqb-false _ _ e in
            ap but_sum (silent_answer c (silent_of c) refl z) ∙ sym (ap but_sum (silent_answer d (silent_of c) silent_same z))

    -- and that too, where the sum test says the same
    pub same_answers : sum_said h.settings.release f ≡ sum_said h.settings.release g → answer_of c ≡ answer_of d
    same_answers q =
        let e =
        early_rows (length h.reply) f h.axes h.settings (lengths_of a) a.journal a.kept
        ∙ early_same 0
        ∙ sym (early_rows (length h.reply) g h.axes h.settings (lengths_of a) a.journal a.kept) in
        let t = told_is c ∙ same_told_after h.settings.release f g e q ∙ sym (told_is d) in
        let b = same_but_sum in
        λ i. record { number = (b i).number; text = (b i).text; areas = (b i).areas; sum = t i }

-- a frame that is shaped says three bytes at least
pub long_enough : (x y : ℕ) (said sc : List ℕ) → length sc ≡ 2 → shaped (framed x y said sc) ≡ true → 3 ≤ length said
long_enough x y said sc two s = go (ltb (length said) 3) refl
  where
    go : (b : Bool) → ltb (length said) 3 ≡ b → 3 ≤ length said
    go true e = absurd (true≢false (sym s ∙ too_short_lem x y said sc two (ltb-true _ _ e)))
    go false e = ltb-false _ _ e

-- texts as long as each other, and both fit or don't as a test call's: their frames are shaped or not alike
pub same_shape : (x y x' y' : ℕ) (said said' sc sc' : List ℕ) → length sc ≡ 2 → length sc' ≡ 2 → length said ≡ length said' → test_fits said ≡ test_fits said'
    → shaped (framed x y said sc) ≡ shaped (framed x' y' said' sc')
same_shape x y x' y' said said' sc sc' two two' l t = go (ltb (length said) 3) refl
  where
    go : (b : Bool) → ltb (length said) 3 ≡ b → shaped (framed x y said sc) ≡ shaped (framed x' y' said' sc')
    go true e =
        let s = ltb-true _ _ e in
        too_short_lem x y said sc two s ∙ sym (too_short_lem x' y' said' sc' two' (omega (arith, s, l)))
    go false e =
        let s = ltb-false _ _ e in
        shape_is x y said sc two s ∙ ap₂ (λ (n : ℕ) (b : Bool). leb (n + 7) 1023 && b) l t ∙ sym (shape_is x' y' said' sc' two' (omega (arith, s, l)))

-- what an order says, where what follows the fields is the same, or where its number is and it isn't a 200H's
said_alike : (a : Areas) (h : Sent) (f g : List ℕ) (does : Action) (m : Message) (start count : ℕ) (area : List ℕ)
    → number_of (rest (handed a h f).sent m) ≡ number_of (rest (handed a h g).sent m) → (does ≡ SayBack → rest (handed a h f).sent m ≡ rest (handed a h g).sent m)
    → said_by does (held (handed a h f)) (handed a h f).sent a.kept m start count area ≡ said_by does (held (handed a h g)) (handed a h g).sent a.kept m start count area
said_alike a h f g SayBack m start count area n r = ap (same_text m) (r refl)
said_alike a h f g CountPoints m start count area n r = refl
said_alike a h f g ListPoints m start count area n r = refl
said_alike a h f g ReadRun m start count area n r = refl
said_alike a h f g AxisStatus m start count area n r = ap (λ (k : ℕ). axes_text m (bit_and k h.settings.fitted) (records_of h.axes)) n
said_alike a h f g WritePoints m start count area n r = refl
said_alike a h f g ClearRun m start count area n r = refl
said_alike a h f g ChangeRun m start count area n r = refl
said_alike a h f g ShowFlags m start count area n r = refl
said_alike a h f g SetFlag m start count area n r = refl

-- the same order over frames whose texts are the same, or in capitals
pub done_alike : (a : Areas) (h : Sent) (f g : List ℕ) (x : Asked)
    → ((m : Message) (start count : ℕ) → x ≡ Order m start count
    → (number_of (rest (handed a h f).sent m) ≡ number_of (rest (handed a h g).sent m))
    × (m.does ≡ SayBack → rest (handed a h f).sent m ≡ rest (handed a h g).sent m)
    × ((unit : ℕ) → new_bytes m.does unit count (rest (handed a h f).sent m) ≡ new_bytes m.does unit count (rest (handed a h g).sent m)))
    → (text_of (handed a h f) x ≡ text_of (handed a h g) x) × (areas_after (handed a h f) x ≡ areas_after (handed a h g) x)
done_alike a h f g (Refused k) w = (refl, refl)
done_alike a h f g (Order m start count) w =
    let k = w m start count refl in
    let hold = held_in (lengths_of a) in
    let t = said_alike a h f g m.does m start count (area_in m.tag a) k.0 k.1 in (
      ap (reply_of normal h.settings.station) t,
      ap (λ (b : List ℕ). cond (writes m.does) (written hold m.tag start count b a) a) (k.2 (kind_of hold m.tag).unit),
    )

-- two frames with the same ID and the same content where they are shaped
pub fields_alike : (a : Areas) (h : Sent) (f g : List ℕ) → shaped f ≡ shaped g
    → forbidden h.settings f ≡ forbidden h.settings g
    → is_wrong (sum_said h.settings.release f) ≡ is_wrong (sum_said h.settings.release g)
    → station_passes h.settings.release h.settings.station f ≡ station_passes h.settings.release h.settings.station g
    → (shaped f ≡ true → message_in f ≡ message_in g) → (shaped f ≡ true → content_in f ≡ content_in g)
    → Alike a h f g
unfolding asked_of
fields_alike a h f g shape forbids wrong ours same_id same_content =
    let same_name : shaped f ≡ true → message_of h.settings.release f ≡ message_of h.settings.release g =
    λ s. message_of_lem h.settings.release f (message_in g) (same_id s) ∙ sym (message_of_lem h.settings.release g (message_in g) refl) in
    record {
      shape = shape;
      forbids = forbids;
      wrong = wrong;
      station = ours;
      names = same_name;
      asks = λ s.
          ap₂ (λ (n : Option Message) (t : List ℕ). judged (held_in (lengths_of a)) h.settings.fitted h.settings.release n t) (same_name s)
          (same_content s);
      does = λ s z _.
          done_alike a h f g z
          (λ m start count _.
          let same = ap (rest_in m) (same_content s) in
          (ap number_of same, λ _. same, λ unit. ap (new_bytes m.does unit count) same));
    }

-- two frames that say the same text, whatever their stations and SCs are
pub text_alike : (a : Areas) (h : Sent) (x y x' y' : ℕ) (said sc sc' : List ℕ) → length sc ≡ 2 → length sc' ≡ 2
    → forbidden h.settings (framed x y said sc) ≡ forbidden h.settings (framed x' y' said sc')
    → is_wrong (sum_said h.settings.release (framed x y said sc)) ≡ is_wrong (sum_said h.settings.release (framed x' y' said sc'))
    → station_passes h.settings.release h.settings.station (framed x y said sc) ≡ station_passes h.settings.release h.settings.station (framed x' y' said sc')
    → Alike a h (framed x y said sc) (framed x' y' said sc')
text_alike a h x y x' y' said sc sc' two two' forbids wrong ours =
    fields_alike a h (framed x y said sc) (framed x' y' said sc') (same_shape x y x' y' said said sc sc' two two' refl refl) forbids wrong ours
    (λ s. let l = long_enough x y said sc two s in is_message x y said sc two l ∙ sym (is_message x' y' said sc' two' l))
    (λ s. let l = long_enough x y said sc two s in is_content x y said sc two l ∙ sym (is_content x' y' said sc' two' l))
