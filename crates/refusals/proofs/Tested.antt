-- What passing the tests assures.
use Prim.Native.Nat.{ℕ, ◌+◌, ◌-◌, ◌*◌, ◌/◌, ◌%◌, ◌≤◌, ◌<◌}
use mathlib.Core.Path.{◌≡◌, refl, sym, ap, ◌∙◌}
use mathlib.Core.Bool.{Bool, true, false, cond, not, ◌&&◌}
use mathlib.Core.Logic.{◌⊎◌, inl, inr}
use mathlib.Core.List.{List, [], ◌∷◌}
use native.Mathlib.Omega.{arith}
use native.Mathlib.Numerals.{add-one}
use lib.Dec.{leb, eqb}
use lib.ListN.{length, take, drop, get_or, drop_of_length-le}
use lib.Seq.{drop-cons}
use borrow.Author.Tests.{leb-true, eqb-true, eq-eqb, le-leb, lt-leb}
use Rattle.digits.proofs.Bools.{either, not_not}
use Rattle.digits.proofs.Inverse.{and_left, and_right}
use Rattle.digits.specs.Digits.{admitted, number_of}
use Rattle.frames.specs.Frame.{command, CR, LF, message_in, test_call_fits, shaped}
use Rattle.kinds.specs.declared.Held.{Held}
use Rattle.kinds.specs.declared.Lengths.{Lengths}
use Rattle.kinds.specs.declared.Firsts.{Firsts}
use Rattle.kinds.specs.Kinds.{Sound, held_in}
use Rattle.journal.specs.Journal.{whole}
use Rattle.axes.specs.declared.AxisRecord.{AxisRecord}
use Rattle.axes.specs.Records.{zero_record}
use Rattle.points.specs.Point.{effective_in}
use Rattle.slots.proofs.Counted.{effective_most}
use Rattle.table.specs.declared.Action.{Action}
use Rattle.table.specs.declared.Action.TheVariants.{SayBack, CountPoints, ListPoints, ReadRun, AxisStatus, WritePoints, ClearRun, ChangeRun, ShowFlags, SetFlag}
use Rattle.table.specs.declared.Message.{Message}
use Rattle.std.specs.Prelude.{Option, Some, None}
use Rattle.table.specs.Table.{messages, named_in, message_numbered, message_of}
use Rattle.messages.proofs.Shapes.{Each}
use Rattle.refusals.specs.Refusals.{points_fit, variables_fit, least_journal, journal_fits, records_fit, count_true, count_fits, miscounted}

-- a shaped frame has '!' first, CR LF last and 10 to 1,023 bytes, and a test call has 20 (02, c)
pub record Shape (f : List ℕ) : Type 0 where
  pub header : get_or f 0 0 ≡ command
  pub cr : get_or f (length f - 2) 0 ≡ CR
  pub lf : get_or f (length f - 1) 0 ≡ LF
  pub long : 10 ≤ length f
  pub most : length f ≤ 1023
  pub test_call_lem : test_call_fits f ≡ true

pub shape : (f : List ℕ) → shaped f ≡ true → Shape f
unfolding shaped
shape f e =
    let a = eqb (get_or f 0 0) command in
    let b = eqb (get_or f (length f - 2) 0) CR in
    let c = eqb (get_or f (length f - 1) 0) LF in
    let d = leb 10 (length f) in
    let g = leb (length f) 1023 in
    let t = test_call_fits f in
    let k = and_right a (b && (c && (d && (g && t)))) e in
    let j = and_right b (c && (d && (g && t))) k in
    let l = and_right c (d && (g && t)) j in
    record {
      header = eqb-true _ _ (and_left a (b && (c && (d && (g && t)))) e);
      cr = eqb-true _ _ (and_left b (c && (d && (g && t))) k);
      lf = eqb-true _ _ (and_left c (d && (g && t)) j);
      long = leb-true 10 (length f) (and_left d (g && t) l);
      most = leb-true (length f) 1023 (and_left g t (and_right d (g && t) l));
      test_call_lem = and_right g t (and_right d (g && t) l);
    }

pub shaped_long : (f : List ℕ) → shaped f ≡ true → 10 ≤ length f
shaped_long f e = (shape f e).long

pub record Points (n : ℕ) : Type 0 where
  pub whole_slots : n ≡ 40 * (n / 40)
  pub some : 1 ≤ n / 40
  pub most : n / 40 ≤ 1500

pub points_fit_lem : (n : ℕ) → points_fit n ≡ true → Points n
unfolding points_fit
points_fit_lem n e =
    let a = eqb (n % 40) 0 in
    let b = leb 40 (n) in
    let c = leb (n) 60000 in
    let m : n % 40 ≡ 0 = eqb-true _ _ (and_left a (b && c) e) in
    let l : 40 ≤ n = leb-true _ _ (and_left b c (and_right a (b && c) e)) in
    let u : n ≤ 60000 = leb-true _ _ (and_right b c (and_right a (b && c) e)) in
    record { whole_slots = omega arith; some = omega arith; most = omega arith }

-- the areas of variables, and numbers that fit into their fields
pub record Variables (integers flags : ℕ) (firsts : Firsts) : Type 0 where
  pub integers_long : integers ≡ 400
  pub flags_long : flags ≡ 300
  pub integer_last : firsts.integer + 99 ≤ 0xFFF
  pub flag_last : firsts.flag + 299 ≤ 0xFFFF

pub variables_fit_lem : (integers flags : ℕ) (firsts : Firsts) → variables_fit integers flags firsts ≡ true → Variables integers flags firsts
unfolding variables_fit
variables_fit_lem integers flags firsts e =
    let a = eqb integers 400 in
    let b = eqb flags 300 in
    let c = leb (firsts.integer + 99) 0xFFF in
    let d = leb (firsts.flag + 299) 0xFFFF in
    let f = and_right a (b && (c && d)) e in
    let g = and_right b (c && d) f in
    record {
      integers_long = eqb-true _ _ (and_left a (b && (c && d)) e);
      flags_long = eqb-true _ _ (and_left b (c && d) f);
      integer_last = leb-true _ _ (and_left c d g);
      flag_last = leb-true _ _ (and_right c d g);
    }

pub record Journal (held : Held) (j : List ℕ) (used : ℕ) : Type 0 where
  pub least : least_journal held ≤ length j
  pub most : length j ≤ 65536
  pub within : used ≤ length j
  pub entries : whole held 0 (take used j) ≡ true

pub journal_fits_lem : (held : Held) (j : List ℕ) (used : ℕ) → journal_fits held j used ≡ true → Journal held j used
unfolding journal_fits
journal_fits_lem held j used e =
    let a = leb (least_journal held) (length j) in
    let b = leb (length j) 65536 in
    let c = leb used (length j) in
    let w = whole held 0 (take used j) in
    let f = and_right a (b && (c && w)) e in
    let g = and_right b (c && w) f in
    record {
      least = leb-true _ _ (and_left a (b && (c && w)) e);
      most = leb-true _ _ (and_left b (c && w) f);
      within = leb-true _ _ (and_left c w g);
      entries = and_right c w g;
    }

-- a true count fits with any frame
pub true_fits : (n : Option Message) (points : List ℕ) (effective : ℕ) → effective ≡ effective_in (length points / 40) points → miscounted n points effective ≡ false
true_fits None points effective e = refl
true_fits (Some m) points effective e = ap not (go m.does)
  where
    go : (a : Action) → count_fits a points effective ≡ true
    go SayBack = refl
    go CountPoints = le-leb effective (length points / 40) (omega (arith, e, effective_most (length points / 40) points))
    go ListPoints = refl
    go ReadRun = refl
    go AxisStatus = refl
    go WritePoints = eq-eqb effective (effective_in (length points / 40) points) e
    go ClearRun = eq-eqb effective (effective_in (length points / 40) points) e
    go ChangeRun = refl
    go ShowFlags = refl
    go SetFlag = refl

-- a message of another ID looks at no count
module _ (id : ℕ) (points : List ℕ) (effective : ℕ) where
  fits_in : (ms : List Message) → Each (λ (m : Message). m.id ≡ id → not (count_fits m.does points effective) ≡ false) ms
      → miscounted (named_in id ms) points effective ≡ false
  fits_in [] h = refl
  fits_in (m ∷ ms) h =
      either (λ (n : Option Message). miscounted n points effective ≡ false) (eqb id m.id) (λ e. h.0 (sym (eqb-true _ _ e))) (λ _. fits_in ms h.1)

  pub other_fits : (id ≡ 0x244 → ⊥) → (id ≡ 0x246 → ⊥) → (id ≡ 0x208 → ⊥) → miscounted (message_numbered id) points effective ≡ false
  unfolding message_numbered
  other_fits w c k =
      fits_in messages (λ _. refl, (λ e. absurd (k (sym e)), (λ _. refl, (λ _. refl, (λ _. refl, (λ _. refl, (λ _. refl, (λ e. absurd (w (sym e)), (λ e. absurd (c (sym e)), (λ _. refl, (λ _. refl, (λ _. refl, tt))))))))))))

-- and one of these needs a true count, or one that isn't above N
pub write_fits : {r : Bool} (id : ℕ) (points : List ℕ) (effective : ℕ) → (id ≡ 0x244) ⊎ (id ≡ 0x246) → r ≡ count_true points effective
    → r ≡ not (miscounted (message_numbered id) points effective)
unfolding message_numbered
write_fits id points effective (inl w) e = rw w (e ∙ sym (not_not (count_true points effective)))
write_fits id points effective (inr w) e = rw w (e ∙ sym (not_not (count_true points effective)))

pub poll_fits : (id : ℕ) (points : List ℕ) (effective : ℕ) → id ≡ 0x208
    → leb effective (length points / 40) ≡ not (miscounted (message_numbered id) points effective)
unfolding message_numbered
poll_fits id points effective w = rw w (sym (not_not (leb effective (length points / 40))))

-- the number of a frame by what is found of its ID
pub by_id : {n : ℕ} {w : Bool} (release : ℕ) (frame points : List ℕ) (effective : ℕ) → (admitted release (message_in frame) ≡ true) × (n ≡ number_of (message_in frame))
    → miscounted (message_numbered n) points effective ≡ w → ◌≡◌ {A = ℕ} (cond w 11 0) (cond (miscounted (message_of release frame) points effective) 11 0)
unfolding message_of
by_id {n} {w} release frame points effective e f =
    ap (λ (b : Bool). cond b 11 0) (sym f ∙ ap (λ (k : ℕ). miscounted (message_numbered k) points effective) e.1) ∙ sym (rw e.0)

-- one record more
module _ (rs : List AxisRecord) (i : ℕ) (h : i < length rs) where
  pub records_next : (get_or rs i zero_record).sensor ≤ 15 → (get_or rs i zero_record).error ≤ 4095 → records_fit (drop i rs) ≡ records_fit (drop (i + 1) rs)
  unfolding records_fit
  records_next s e = rw (add-one i, drop-cons rs i zero_record h, le-leb _ _ s, le-leb _ _ e)

  pub records_sensor : 15 < (get_or rs i zero_record).sensor → records_fit (drop i rs) ≡ false
  unfolding records_fit
  records_sensor s = rw (drop-cons rs i zero_record h, lt-leb _ _ s)

  pub records_error : (get_or rs i zero_record).sensor ≤ 15 → 4095 < (get_or rs i zero_record).error → records_fit (drop i rs) ≡ false
  unfolding records_fit
  records_error s e = rw (drop-cons rs i zero_record h, le-leb _ _ s, lt-leb _ _ e)

pub records_done : (rs : List AxisRecord) (i : ℕ) → length rs ≤ i → records_fit (drop i rs) ≡ true
unfolding records_fit
records_done rs i h = rw (drop_of_length-le rs h)

-- a board whose points and variables fit holds no more than it can
pub sound : (l : Lengths) → points_fit l.points ≡ true → variables_fit l.integers l.flags l.firsts ≡ true → Sound (held_in l)
sound l e f =
    let p = points_fit_lem l.points e in
    let v = variables_fit_lem l.integers l.flags l.firsts f in
    record { some_points = p.some; points = p.most; integers = v.integer_last; flags = v.flag_last }

-- what is held, as it was worked out
pub same_sound : {h h' : Held} → h ≡ h' → Sound h' → Sound h
same_sound e s = rw e s

pub same_journal : {b : Bool} {h h' : Held} (j : List ℕ) (used : ℕ) → b ≡ journal_fits h j used → h ≡ h' → b ≡ journal_fits h' j used
same_journal j used e f = cc
