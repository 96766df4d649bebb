-- The rows that each call tests, as choices over truth values.
use Prim.Native.Nat.{ℕ, ◌≤◌, ◌<◌}
use mathlib.Core.Path.{◌≡◌, refl, sym, ap, ap₂, ◌∙◌}
use mathlib.Core.Bool.{Bool, true, false, cond, not, ◌&&◌}
use mathlib.Core.Logic.{◌⊎◌, inl, inr}
use mathlib.Core.List.{List, ◌∷◌, ◌++◌}
use native.Mathlib.Omega.{arith}
use lib.Dec.{ltb, eqb}
use lib.ListN.{length}
use borrow.Author.Tests.{eq-eqb, ne_eqb}
use Rattle.digits.proofs.Bools.{was_not}
use Rattle.frames.specs.declared.checks.Sum.{Sum}
use Rattle.frames.specs.Frame.{content_in, shaped, sum_said, is_off, is_wrong, station_passes}
use Rattle.messages.specs.Rows.{Row, ◌when◌, first_of}
use Rattle.table.specs.Table.{message_of}
use Rattle.messages.specs.Asked.{asked_rows}
use Rattle.axes.specs.Records.{Axes}
use Rattle.calls.specs.declared.Settings.{Settings}
use Rattle.calls.specs.declared.Kept.{Kept}
use Rattle.std.specs.Prelude.{None, Some}
use Rattle.kinds.specs.declared.Lengths.{Lengths}
use Rattle.kinds.specs.Kinds.{held_in}
use Rattle.calls.specs.Calls.{Areas, Call, lengths_of}
use Rattle.calls.specs.declared.AreasTested.{AreasTested}
use Rattle.calls.specs.declared.Sent.{Sent as SentLent}
use Rattle.calls.specs.Lent.{lengths_tested, TestedOf}
use Rattle.refusals.proofs.Tested.{shaped_long}
use Rattle.refusals.specs.Refusals.{points_fit, variables_fit, journal_fits, axes_fit, release_fits, count_true, miscounted, area_rows, check_rows, late_rows, count_rows, rows_from_sum, too_short, silent_of, check_early, early, late, told_after, told_of, check_silent_of, check_told_of, refusal_of, back_rows, back_refusal_of}

-- the areas' four, in the order tested, and what comes behind them
abbrev pub four : Bool → Bool → Bool → Bool → ℕ → ℕ
four p q v r k = cond p 2 (cond q 3 (cond v 10 (cond r 4 k)))

pub four_given : (p q v r : Bool) (k : ℕ) → (four p q v r 0 ≡ 0 → ⊥) → four p q v r k ≡ four p q v r 0
four_given true q v r k h = refl
four_given false true v r k h = refl
four_given false false true r k h = refl
four_given false false false true k h = refl
four_given false false false false k h = absurd (h refl)

pub four_passed : (p q v r : Bool) (k : ℕ) → four p q v r k ≡ 0 → (p ≡ false) × (q ≡ false) × (v ≡ false) × (r ≡ false) × (k ≡ 0)
four_passed true q v r k e = absurd (omega arith)
four_passed false true v r k e = absurd (omega arith)
four_passed false false true r k e = absurd (omega arith)
four_passed false false false true k e = absurd (omega arith)
four_passed false false false false k e = (refl, refl, refl, refl, e)

module _ (lengths : Lengths) (journal : List ℕ) (kept : Kept) where
  abbrev pub area_number : ℕ → ℕ
  area_number k =
      four (not (points_fit lengths.points)) (not (eqb lengths.columns 700)) (not (variables_fit lengths.integers lengths.flags lengths.firsts))
      (not (journal_fits (held_in lengths) journal kept.used)) k

  pub area_rows_lem : first_of (area_rows lengths journal kept) ≡ area_number 0
  unfolding area_rows
  area_rows_lem = refl

  -- the count, and then whether there is an entry
  abbrev pub own_back : List ℕ → ℕ
  own_back points = cond (not (count_true points kept.effective)) 11 (cond (eqb kept.used 0) 9 0)

  pub back_rows_lem : (points : List ℕ) → first_of (back_rows lengths points journal kept) ≡ area_number (own_back points)
  unfolding back_rows area_rows
  back_rows_lem points = refl

  -- what comes behind them is looked at just where none of them is given
  pub area_given : (k : ℕ) → (first_of (area_rows lengths journal kept) ≡ 0 → ⊥) → first_of (area_rows lengths journal kept) ≡ area_number k
  area_given k h =
      area_rows_lem
      ∙ sym
      (four_given (not (points_fit lengths.points)) (not (eqb lengths.columns 700)) (not (variables_fit lengths.integers lengths.flags lengths.firsts))
      (not (journal_fits (held_in lengths) journal kept.used)) k
      (λ e. h (area_rows_lem ∙ e)))

  pub record AreasPass : Type 0 where
    pub points : points_fit lengths.points ≡ true
    pub columns : eqb lengths.columns 700 ≡ true
    pub variables : variables_fit lengths.integers lengths.flags lengths.firsts ≡ true
    pub journal_fits_lem : journal_fits (held_in lengths) journal kept.used ≡ true

  pub areas_pass : {k : ℕ} → area_number k ≡ 0 → AreasPass × (k ≡ 0)
  areas_pass {k} e =
      let h =
      four_passed (not (points_fit lengths.points)) (not (eqb lengths.columns 700)) (not (variables_fit lengths.integers lengths.flags lengths.firsts))
      (not (journal_fits (held_in lengths) journal kept.used)) k
      e in
      (record { points = was_not h.0; columns = was_not h.1; variables = was_not h.2; journal_fits_lem = was_not h.3 }, h.4)

  pub past_areas : AreasPass → (k : ℕ) → area_number k ≡ k
  past_areas p k = rw (p.points, p.columns, p.variables, p.journal_fits_lem)

  module _ (points : List ℕ) (e : first_of (area_rows lengths journal kept) ≡ 0) where
    -- the slots fill their area, so they can be counted
    pub back_points : lengths.points ≡ length points → points_fit (length points) ≡ true
    back_points h = rw h at (areas_pass (sym area_rows_lem ∙ e)).0.points

-- tests, with what comes behind them: none refuses, and what comes behind is the number; or one does, its number is below 101, and what comes behind is
-- not looked at
abbrev Gate : (ℕ → ℕ) → Type 0
Gate f = ((k : ℕ) → f k ≡ k) ⊎ (((k : ℕ) → f k ≡ f 0) × (1 ≤ f 0) × (f 0 < 101))

gates : {f g : ℕ → ℕ} → Gate f → Gate g → Gate (λ k. f (g k))
gates {f} {g} (inl p) (inl q) = inl (λ k. p (g k) ∙ q k)
gates {f} {g} (inl p) (inr q) = inr (λ k. p (g k) ∙ q.0 k ∙ sym (p (g 0)), rw (p (g 0)) q.1, rw (p (g 0)) q.2)
gates {f} {g} (inr p) q = inr (λ k. p.0 (g k) ∙ sym (p.0 (g 0)), rw (p.0 (g 0)) p.1, rw (p.0 (g 0)) p.2)

gate_open : {f : ℕ → ℕ} → Gate f → f 0 ≡ 0 → (k : ℕ) → f k ≡ k
gate_open (inl p) e = p
gate_open (inr p) e = absurd (omega (arith, e, p.1))

gate_given : {f : ℕ → ℕ} → Gate f → (k : ℕ) → (f 0 ≡ 0 → ⊥) → (f k ≡ f 0) × (f 0 < 101)
gate_given (inl p) k h = absurd (h (p 0))
gate_given (inr p) k h = (p.0 k, p.2)

-- what comes behind the areas and before the sum: the axes, the release and the frame's shape
abbrev pub own_number : Axes → Settings → List ℕ → ℕ → ℕ
own_number axes settings frame k =
    cond (not (axes_fit axes settings.fitted)) 5 (cond (not (release_fits settings.release)) 13 (cond (not (shaped frame)) 6 k))

-- '@@' where it is forbidden
abbrev pub forbidden : Settings → List ℕ → Bool
forbidden settings frame = is_off (sum_said settings.release frame) && not settings.unchecked

-- the sum and the station
abbrev pub sum_number : Settings → List ℕ → ℕ → ℕ
sum_number settings frame k =
    cond (forbidden settings frame) 12
    (cond (is_wrong (sum_said settings.release frame)) 7 (cond (not (station_passes settings.release settings.station frame)) 8 k))

sum_gate : (settings : Settings) (frame : List ℕ) → Gate (sum_number settings frame)
sum_gate settings frame =
    go (forbidden settings frame) (is_wrong (sum_said settings.release frame)) (not (station_passes settings.release settings.station frame))
  where
    go : (t u v : Bool) → Gate (λ k. cond t 12 (cond u 7 (cond v 8 k)))
    go true u v = inr (λ k. refl, omega arith, omega arith)
    go false true v = inr (λ k. refl, omega arith, omega arith)
    go false false true = inr (λ k. refl, omega arith, omega arith)
    go false false false = inl (λ k. refl)

-- and the count
module _ (settings : Settings) (frame points : List ℕ) (kept : Kept) where
  abbrev pub wrong_count : Bool
  wrong_count = miscounted (message_of settings.release frame) points kept.effective

  abbrev pub late_number : ℕ → ℕ
  late_number k = sum_number settings frame (cond wrong_count 11 k)

  pub late_rows_lem : first_of (rows_from_sum settings frame points kept) ≡ late_number 0
  unfolding late_rows count_rows
  late_rows_lem = refl

  late_gate : Gate late_number
  late_gate = gates (sum_gate settings frame) (go wrong_count)
    where
      go : (w : Bool) → Gate (λ k. cond w 11 k)
      go true = inr (λ k. refl, omega arith, omega arith)
      go false = inl (λ k. refl)

module _ (reply : ℕ) (frame : List ℕ) (axes : Axes) (settings : Settings) (lengths : Lengths) (journal : List ℕ) (kept : Kept) where
  abbrev pub early_number : ℕ → ℕ
  early_number k = cond (ltb reply 1024) 1 (area_number lengths journal kept (own_number axes settings frame k))

  pub early_rows : first_of ((1 when (too_short reply)) ∷ check_rows frame axes settings lengths journal kept) ≡ early_number 0
  unfolding check_rows area_rows
  early_rows = refl

  -- nothing before the sum refuses
  pub record EarlyPassed : Type 0 where
    pub reply_long : ltb reply 1024 ≡ false
    pub areas : AreasPass lengths journal kept
    pub axes_fit_lem : axes_fit axes settings.fitted ≡ true
    pub release_fits_lem : release_fits settings.release ≡ true
    pub shape : shaped frame ≡ true

  pub past_early : EarlyPassed → (k : ℕ) → early_number k ≡ k
  past_early p k = rw (p.reply_long, past_areas lengths journal kept p.areas (own_number axes settings frame k), p.axes_fit_lem, p.release_fits_lem, p.shape)

  one_passed : (b : Bool) (n k : ℕ) → 1 ≤ n → cond b n k ≡ 0 → (b ≡ false) × (k ≡ 0)
  one_passed true n k h e = absurd (omega arith)
  one_passed false n k h e = (refl, e)

  pub early_passed : {k : ℕ} → early_number k ≡ 0 → EarlyPassed × (k ≡ 0)
  early_passed {k} e =
      let a = one_passed (ltb reply 1024) 1 (area_number lengths journal kept (own_number axes settings frame k)) (omega arith) e in
      let b = areas_pass lengths journal kept a.1 in
      let s = cond (not (shaped frame)) 6 k in
      let c = one_passed (not (axes_fit axes settings.fitted)) 5 (cond (not (release_fits settings.release)) 13 s) (omega arith) b.1 in
      let r = one_passed (not (release_fits settings.release)) 13 s (omega arith) c.1 in
      let d = one_passed (not (shaped frame)) 6 k (omega arith) r.1 in
      (record { reply_long = a.0; areas = b.0; axes_fit_lem = was_not c.0; release_fits_lem = was_not r.0; shape = was_not d.0 }, d.1)

  early_gate : Gate early_number
  early_gate =
      go (ltb reply 1024) (not (points_fit lengths.points)) (not (eqb lengths.columns 700)) (not (variables_fit lengths.integers lengths.flags lengths.firsts))
      (not (journal_fits (held_in lengths) journal kept.used))
      (not (axes_fit axes settings.fitted))
      (not (release_fits settings.release))
      (not (shaped frame))
    where
      go : (o p q w r s x t : Bool) → Gate (λ k. cond o 1 (four p q w r (cond s 5 (cond x 13 (cond t 6 k)))))
      go true p q w r s x t = inr (λ k. refl, omega arith, omega arith)
      go false true q w r s x t = inr (λ k. refl, omega arith, omega arith)
      go false false true w r s x t = inr (λ k. refl, omega arith, omega arith)
      go false false false true r s x t = inr (λ k. refl, omega arith, omega arith)
      go false false false false true s x t = inr (λ k. refl, omega arith, omega arith)
      go false false false false false true x t = inr (λ k. refl, omega arith, omega arith)
      go false false false false false false true t = inr (λ k. refl, omega arith, omega arith)
      go false false false false false false false true = inr (λ k. refl, omega arith, omega arith)
      go false false false false false false false false = inl (λ k. refl)

  -- where a test before the sum refuses, that is the number
  pub early_given : (k : ℕ) → (early_number 0 ≡ 0 → ⊥) → (early_number k ≡ early_number 0) × (early_number 0 < 101)
  early_given k h = gate_given early_gate k h

  -- up to 8: where none refuses, what comes behind is the number, and where one does it is not looked at
  abbrev pub eight_number : ℕ → ℕ
  eight_number k = early_number (sum_number settings frame k)

  pub eight_open : eight_number 0 ≡ 0 → (k : ℕ) → eight_number k ≡ k
  eight_open e = gate_open (gates early_gate (sum_gate settings frame)) e

  pub eight_given : (k : ℕ) → (eight_number 0 ≡ 0 → ⊥) → eight_number k ≡ eight_number 0
  eight_given k h = (gate_given (gates early_gate (sum_gate settings frame)) k h).0

  -- all that come without a reply, over the slots
  module _ (points : List ℕ) where
    abbrev pub silent_number : ℕ → ℕ
    silent_number k = early_number (late_number settings frame points kept k)

    pub record Passed : Type 0 where
      pub early : EarlyPassed
      pub allowed : forbidden settings frame ≡ false
      pub sum : is_wrong (sum_said settings.release frame) ≡ false
      pub station : station_passes settings.release settings.station frame ≡ true
      pub count : wrong_count settings frame points kept ≡ false

    pub past_silent : Passed → (k : ℕ) → silent_number k ≡ k
    past_silent p k = past_early p.early (late_number settings frame points kept k) ∙ rw (p.allowed, p.sum, p.station, p.count)

    pub passed : {k : ℕ} → silent_number k ≡ 0 → Passed × (k ≡ 0)
    passed {k} e =
        let p = early_passed e in
        let wrong = is_wrong (sum_said settings.release frame) in
        let other = not (station_passes settings.release settings.station frame) in
        let n = wrong_count settings frame points kept in
        let a = one_passed (forbidden settings frame) 12 (cond wrong 7 (cond other 8 (cond n 11 k))) (omega arith) p.1 in
        let b = one_passed wrong 7 (cond other 8 (cond n 11 k)) (omega arith) a.1 in
        let c = one_passed other 8 (cond n 11 k) (omega arith) b.1 in
        let d = one_passed n 11 k (omega arith) c.1 in
        (record { early = p.0; allowed = a.0; sum = b.0; station = was_not c.0; count = d.0 }, d.1)

    pub silent_given : (k : ℕ) → (silent_number 0 ≡ 0 → ⊥) → (silent_number k ≡ silent_number 0) × (silent_number 0 < 101)
    silent_given k h = gate_given (gates early_gate (late_gate settings frame points kept)) k h

-- a check's rows are those of a reply area that is long enough
module _ (frame : List ℕ) (axes : Axes) (settings : Settings) (lengths : Lengths) (journal : List ℕ) (kept : Kept) where
  pub check_rows_lem : first_of (check_rows frame axes settings lengths journal kept) ≡ early_number 1024 frame axes settings lengths journal kept 0
  unfolding check_rows area_rows
  check_rows_lem = refl

  pub checked_rows : (points : List ℕ) → first_of (check_rows frame axes settings lengths journal kept ++ (rows_from_sum settings frame points kept))
      ≡ silent_number 1024 frame axes settings lengths journal kept points 0
  unfolding check_rows area_rows late_rows count_rows
  checked_rows points = refl

-- a call's rows
abbrev pub number_of : Call → ℕ → ℕ
number_of c =
    silent_number (length c.sent.reply) c.sent.frame c.sent.axes c.sent.settings (lengths_of c.areas) c.areas.journal c.areas.kept
    c.areas.points

abbrev pub CallPassed : Call → Type 0
CallPassed c =
    Passed (length c.sent.reply) c.sent.frame c.sent.axes c.sent.settings (lengths_of c.areas) c.areas.journal c.areas.kept
    c.areas.points

-- those up to 8
abbrev pub eight_of : Call → ℕ → ℕ
eight_of c = eight_number (length c.sent.reply) c.sent.frame c.sent.axes c.sent.settings (lengths_of c.areas) c.areas.journal c.areas.kept

pub eight_is : (c : Call) → first_of (early c ++ late_rows c.sent.settings c.sent.frame) ≡ eight_of c 0
unfolding check_rows area_rows late_rows
eight_is c = refl

pub silent_is : (c : Call) → silent_of c ≡ number_of c 0
unfolding silent_of check_rows area_rows late_rows count_rows
silent_is c = refl

pub check_first : (c : Call) → check_silent_of c ≡ first_of (check_early c ++ late c)
unfolding check_silent_of
check_first c = refl

pub check_silent_is : (c : Call)
    → check_silent_of c ≡ silent_number 1024 c.sent.frame c.sent.axes c.sent.settings (lengths_of c.areas) c.areas.journal c.areas.kept c.areas.points 0
check_silent_is c =
    check_first c ∙ checked_rows c.sent.frame c.sent.axes c.sent.settings (lengths_of c.areas) c.areas.journal c.areas.kept c.areas.points

pub refusal_is : (c : Call)
    → refusal_of c ≡ number_of c (first_of (asked_rows (held_in (lengths_of c.areas)) c.sent.settings.fitted c.sent.settings.release (message_of c.sent.settings.release c.sent.frame) (content_in c.sent.frame)))
unfolding refusal_of check_rows area_rows late_rows count_rows
refusal_is c = refl

pub call_passed : (c : Call) → silent_of c ≡ 0 → CallPassed c
call_passed c e =
    (passed (length c.sent.reply) c.sent.frame c.sent.axes c.sent.settings (lengths_of c.areas) c.areas.journal c.areas.kept
    c.areas.points (sym (silent_is c) ∙ e)
    ).0

-- each return of the tests of the areas, as the code works out their lengths
module _ (t : AreasTested) where
  abbrev rows : List Row
  rows = area_rows (lengths_tested t) t.journal.now t.kept

  module _ {l : Lengths} (same : l ≡ lengths_tested t) where
    rows_are : first_of rows ≡ area_number l t.journal.now t.kept 0
    rows_are = area_rows_lem (lengths_tested t) t.journal.now t.kept ∙ sym (ap (λ (x : Lengths). area_number x t.journal.now t.kept 0) same)

    pub area_2 : points_fit l.points ≡ false → 2 ≡ first_of rows
    area_2 e = sym (rows_are ∙ rw e)

    module _ (e : points_fit l.points ≡ true) where
      pub area_3 : (l.columns ≡ 700 → ⊥) → 3 ≡ first_of rows
      area_3 f = sym (rows_are ∙ rw (e, ne_eqb _ _ f))

      module _ (f : l.columns ≡ 700) where
        pub area_10 : variables_fit l.integers l.flags l.firsts ≡ false → 10 ≡ first_of rows
        area_10 v = sym (rows_are ∙ rw (e, eq-eqb _ _ f, v))

        module _ (v : variables_fit l.integers l.flags l.firsts ≡ true) where
          pub area_4 : journal_fits (held_in l) t.journal.now t.kept.used ≡ false → 4 ≡ first_of rows
          area_4 g = sym (rows_are ∙ rw (e, eq-eqb _ _ f, v, g))

          pub area_0 : journal_fits (held_in l) t.journal.now t.kept.used ≡ true → 0 ≡ first_of rows
          area_0 g = sym (rows_are ∙ rw (e, eq-eqb _ _ f, v, g))

  -- no area is refused: what comes behind is looked at, and the slots can be counted
  module _ (e : first_of rows ≡ 0) where
    area_past : (k : ℕ) → area_number (lengths_tested t) t.journal.now t.kept k ≡ k
    area_past k =
        past_areas (lengths_tested t) t.journal.now t.kept
        (areas_pass (lengths_tested t) t.journal.now t.kept (sym (area_rows_lem (lengths_tested t) t.journal.now t.kept) ∙ e)).0
        k

    pub area_points : points_fit (length t.points.now) ≡ true
    area_points = back_points (lengths_tested t) t.journal.now t.kept t.points.now e refl

  -- each return of a step back's tests
  abbrev back : List Row
  back = back_rows (lengths_tested t) t.points.now t.journal.now t.kept

  pub back_area : {n : ℕ} → n ≡ first_of rows → (n ≡ 0 → ⊥) → n ≡ first_of back
  back_area e f =
      e ∙ area_given (lengths_tested t) t.journal.now t.kept _ (λ z. f (e ∙ z))
      ∙ sym (back_rows_lem (lengths_tested t) t.journal.now t.kept t.points.now)

  module _ (e : first_of rows ≡ 0) where
    back_behind : {k : ℕ} → own_back (lengths_tested t) t.journal.now t.kept t.points.now ≡ k → k ≡ first_of back
    back_behind g = sym (back_rows_lem (lengths_tested t) t.journal.now t.kept t.points.now ∙ area_past e _ ∙ g)

    pub back_11 : count_true t.points.now t.kept.effective ≡ false → 11 ≡ first_of back
    back_11 c = back_behind (rw c)

    module _ (c : count_true t.points.now t.kept.effective ≡ true) where
      pub back_9 : t.kept.used ≡ 0 → 9 ≡ first_of back
      back_9 u = back_behind (rw (c, eq-eqb _ _ u))

      pub back_0 : (t.kept.used ≡ 0 → ⊥) → 0 ≡ first_of back
      back_0 u = back_behind (rw (c, ne_eqb _ _ u))

-- each return of a frame's tests before the sum
module _ (s : SentLent) (t : AreasTested) where
  abbrev before : List Row
  before = check_rows s.frame.now s.axes s.settings (lengths_tested t) t.journal.now t.kept

  abbrev own : ℕ → ℕ
  own k = own_number s.axes s.settings s.frame.now k

  early_are : first_of before ≡ area_number (lengths_tested t) t.journal.now t.kept (own 0)
  early_are = check_rows_lem s.frame.now s.axes s.settings (lengths_tested t) t.journal.now t.kept

  pub early_area : {n : ℕ} → n ≡ first_of (rows t) → (n ≡ 0 → ⊥) → n ≡ first_of before
  early_area {n} e f = e ∙ area_given (lengths_tested t) t.journal.now t.kept (own 0) (λ z. f (e ∙ z)) ∙ sym early_are

  module _ (e : first_of (rows t) ≡ 0) where
    early_behind : {k : ℕ} → own 0 ≡ k → k ≡ first_of before
    early_behind g = sym (early_are ∙ area_past t e _ ∙ g)

    pub early_5 : axes_fit s.axes s.settings.fitted ≡ false → 5 ≡ first_of before
    early_5 f = early_behind (rw f)

    module _ (f : axes_fit s.axes s.settings.fitted ≡ true) where
      pub early_13 : release_fits s.settings.release ≡ false → 13 ≡ first_of before
      early_13 g = early_behind (rw (f, g))

      module _ (g : release_fits s.settings.release ≡ true) where
        pub early_6 : shaped s.frame.now ≡ false → 6 ≡ first_of before
        early_6 h = early_behind (rw (f, g, h))

        pub early_0 : shaped s.frame.now ≡ true → 0 ≡ first_of before
        early_0 h = early_behind (rw (f, g, h))

  -- behind them stand the sum, the station and the count
  abbrev from_sum : List Row
  from_sum = rows_from_sum s.settings s.frame.now t.points.now t.kept

  all_are : first_of (before ++ from_sum) ≡ silent_number 1024 s.frame.now s.axes s.settings (lengths_tested t) t.journal.now t.kept t.points.now 0
  all_are = checked_rows s.frame.now s.axes s.settings (lengths_tested t) t.journal.now t.kept t.points.now

  pub silent_early : {n : ℕ} → n ≡ first_of before → (n ≡ 0 → ⊥) → n ≡ first_of (before ++ from_sum)
  silent_early e f =
      let q = e ∙ early_are in
      q ∙ sym (all_are ∙ (early_given 1024 s.frame.now s.axes s.settings (lengths_tested t) t.journal.now t.kept _ (λ z. f (q ∙ z))).0)

  module _ (e : first_of before ≡ 0) where
    none_early : EarlyPassed 1024 s.frame.now s.axes s.settings (lengths_tested t) t.journal.now t.kept
    none_early = (early_passed 1024 s.frame.now s.axes s.settings (lengths_tested t) t.journal.now t.kept (sym early_are ∙ e)).0

    pub silent_long : 10 ≤ length s.frame.now
    silent_long = shaped_long s.frame.now none_early.shape

    pub silent_points : points_fit (length t.points.now) ≡ true
    silent_points = none_early.areas.points

    pub silent_late : {n : ℕ} → n ≡ first_of from_sum → n ≡ first_of (before ++ from_sum)
    silent_late g =
        g ∙ late_rows_lem s.settings s.frame.now t.points.now t.kept
        ∙ sym (all_are ∙ past_early 1024 s.frame.now s.axes s.settings (lengths_tested t) t.journal.now t.kept none_early _)

-- what the tests give of what is tested is what they give of the areas that it is of: a check's refusal without a reply, what it tells of the sum, and a
-- step back's refusal
module _ (c : Call) (t : AreasTested) (e : TestedOf t c.areas) where
  pub silent_tested : first_of (check_rows c.sent.frame c.sent.axes c.sent.settings (lengths_tested t) t.journal.now t.kept
      ++ rows_from_sum c.sent.settings c.sent.frame t.points.now t.kept)
      ≡ check_silent_of c
  silent_tested =
      (λ i. first_of (check_rows c.sent.frame c.sent.axes c.sent.settings (e.0 i) (e.2 i) (e.3 i) ++ rows_from_sum c.sent.settings c.sent.frame (e.1 i) (e.3 i)))
      ∙ sym (check_first c)

  pub told_tested : told_after (first_of (check_rows c.sent.frame c.sent.axes c.sent.settings (lengths_tested t) t.journal.now t.kept)) c.sent.settings.release c.sent.frame
      ≡ check_told_of c
  told_tested = λ i. told_after (first_of (check_rows c.sent.frame c.sent.axes c.sent.settings (e.0 i) (e.2 i) (e.3 i))) c.sent.settings.release c.sent.frame

pub back_tested : (a : Areas) (t : AreasTested) → TestedOf t a → first_of (back_rows (lengths_tested t) t.points.now t.journal.now t.kept) ≡ back_refusal_of a
unfolding back_refusal_of
back_tested a t e = λ i. first_of (back_rows (e.0 i) (e.1 i) (e.2 i) (e.3 i))

-- the tests of the sum, the station and the count, by what the sum test said
module _ (settings : Settings) (frame points : List ℕ) (kept : Kept) where
  pub late_by_lem : (s : Sum) → s ≡ sum_said settings.release frame
      → first_of (rows_from_sum settings frame points kept)
      ≡ cond (is_off s && not settings.unchecked) 12
      (cond (is_wrong s) 7
      (cond (not (station_passes settings.release settings.station frame)) 8 (cond (wrong_count settings frame points kept) 11 0)))
  late_by_lem s e = late_rows_lem settings frame points kept ∙ rw (← e)

-- what is told, by the refusal before the sum
pub told_untested : {n : ℕ} (release : ℕ) (frame : List ℕ) → (n ≡ 0 → ⊥) → told_after n release frame ≡ None
unfolding told_after
told_untested {n} release frame h = rw (ne_eqb n 0 h)

pub told_said : {n : ℕ} (release : ℕ) (frame : List ℕ) → n ≡ 0 → told_after n release frame ≡ Some (sum_said release frame)
unfolding told_after
told_said {n} release frame h = rw (eq-eqb n 0 h)

-- of a heard call the sum was tested
pub early_0_of : (c : Call) → silent_of c ≡ 0 → first_of (early c) ≡ 0
early_0_of c e =
    early_rows (length c.sent.reply) c.sent.frame c.sent.axes c.sent.settings (lengths_of c.areas) c.areas.journal c.areas.kept
    ∙ past_early (length c.sent.reply) c.sent.frame c.sent.axes c.sent.settings (lengths_of c.areas) c.areas.journal c.areas.kept
    (call_passed c e).early
    0

pub heard_told : (c : Call) → silent_of c ≡ 0 → told_of c ≡ Some (sum_said c.sent.settings.release c.sent.frame)
heard_told c e = told_said c.sent.settings.release c.sent.frame (early_0_of c e)

-- and it is told alike of frames that the tests before it and the sum test find alike
pub same_told_after : {n n' : ℕ} (release : ℕ) (f f' : List ℕ) → n ≡ n' → sum_said release f ≡ sum_said release f' → told_after n release f ≡ told_after n' release f'
unfolding told_after
same_told_after release f f' e s = ap₂ (λ (k : ℕ) (w : Sum). cond (eqb k 0) (Some w) None) e s
