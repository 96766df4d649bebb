-- Areas of document 01's lengths whose journal holds good entries: no test of an area refuses them.
use Prim.Native.Nat.{ℕ, ◌*◌, ◌/◌, ◌%◌, ◌≤◌}
use mathlib.Core.Path.{◌≡◌, sym, ap, ap₂, ◌∙◌}
use mathlib.Core.Bool.{Bool, true, cond, ◌&&◌}
use mathlib.Core.List.{List}
use native.Mathlib.Omega.{arith}
use lib.Dec.{eqb, ltb}
use lib.ListN.{length}
use borrow.Author.Tests.{eq-eqb, le-leb}
use Rattle.frames.specs.Frame.{content_in}
use Rattle.kinds.specs.declared.Held.{Held}
use Rattle.kinds.specs.Kinds.{Sound, points_tag, columns_tag, integers_tag, flags_tag, kind_of, held_in, size_of}
use Rattle.kinds.proofs.Known.{kind_points, kind_columns, kind_integers, kind_flags}
use Rattle.points.specs.Point.{effective_in}
use Rattle.journal.specs.Journal.{Entry, encodes}
use Rattle.journal.specs.Laws.{AllGood}
use Rattle.journal.specs.Laws as journal
use Rattle.journal.proofs.Again.{Again, again}
use Rattle.messages.specs.Rows.{first_of}
use Rattle.messages.specs.Asked.{asked_rows, asked_of}
use Rattle.calls.specs.Calls.{Areas, Sent, lengths_of, area_in, entries_of}
use Rattle.refusals.specs.Refusals.{points_fit, variables_fit, least_journal, journal_fits, refusal_of, back_refusal_of}
use Rattle.refusals.proofs.Rows.{AreasPass, past_areas, own_back, back_rows_lem, own_number, sum_number, refusal_is}
use Rattle.refusals.proofs.Tested.{true_fits}
use Rattle.demands.specs.Refused.{asks_write}
use Rattle.demands.specs.History.{message_by, call_on, accepted_write, CountTrue, entries, ours}
use Rattle.demands.proofs.Refused.{one_number}
use Rattle.demands.proofs.Journals.{area_long}

-- the lengths that document 01 asks
pub record Bounds (held : Held) (size : ℕ) : Type 0 where
  pub sound : Sound held
  pub least : least_journal held ≤ size
  pub largest : size ≤ 65536

pub record Shape (held : Held) (size : ℕ) (a : Areas) (es : List Entry) : Type 0 where
  pub long : (tag : ℕ) → length (area_in tag a) ≡ size_of (kind_of held tag)
  pub firsts : a.firsts ≡ held.firsts
  pub holds : journal.Holds size es a.journal a.kept.used
  pub good : AllGood held es
  pub fits : length (encodes es) ≤ size
  pub counted : a.kept.effective ≡ effective_in held.points a.points

-- whether a board that holds so much accepts a frame as a write, and the number that it gives, whatever stands in such areas
abbrev pub number_on : Held → Sent → ℕ
number_on held s =
    cond (ltb (length s.reply) 1024) 1
    (own_number s.axes s.settings s.frame
    (sum_number s.settings s.frame
    (first_of (asked_rows held s.settings.fitted s.settings.release (message_by s) (content_in s.frame)))))

abbrev pub takes : Held → Sent → Bool
takes held s = eqb (number_on held s) 0 && asks_write (asked_of held s.settings.fitted s.settings.release s.frame)

module _ {held : Held} {size : ℕ} (b : Bounds held size) where
  module _ {a : Areas} {es : List Entry} (h : Shape held size a es) where
    points_long : length a.points ≡ held.points * 40
    points_long = h.long points_tag ∙ ap size_of (kind_points held)

    columns_long : length a.columns ≡ 700
    columns_long = h.long columns_tag ∙ ap size_of (kind_columns held)

    pub held_is : held_in (lengths_of a) ≡ held
    held_is = let n : length a.points / 40 ≡ held.points = omega (arith, points_long) in λ i. record { points = n i; firsts = h.firsts i }

    pub journal_long : length a.journal ≡ size
    journal_long = ap length h.holds.bytes ∙ area_long size es h.fits

    held_again : Again held es a.journal a.kept.used
    held_again = again held size es a.journal a.kept.used h.holds h.good

    -- what is read is what is held
    pub entries_held : entries_of held a ≡ es
    entries_held = held_again.same

    pub same_entries : entries a ≡ es
    same_entries = ap (λ (x : Held). entries_of x a) held_is ∙ entries_held

    points_pass : points_fit (length a.points) ≡ true
    unfolding points_fit
    points_pass =
        let l = points_long in
        let s = b.sound.some_points in
        let m = b.sound.points in
        rw (eq-eqb (length a.points % 40) 0 (omega arith), le-leb 40 (length a.points) (omega arith), le-leb (length a.points) 60000 (omega arith))

    variables_pass : variables_fit (length a.integers) (length a.flags) a.firsts ≡ true
    unfolding variables_fit
    variables_pass =
        rw (
          eq-eqb (length a.integers) 400 (h.long integers_tag ∙ ap size_of (kind_integers held)),
          eq-eqb (length a.flags) 300 (h.long flags_tag ∙ ap size_of (kind_flags held)),
          h.firsts,
          le-leb _ _ b.sound.integers,
          le-leb _ _ b.sound.flags,
        )

    journal_pass : journal_fits held a.journal a.kept.used ≡ true
    unfolding journal_fits
    journal_pass =
        let l = journal_long in
        rw (
          le-leb (least_journal held) (length a.journal) (omega (arith, b.least, l)),
          le-leb (length a.journal) 65536 (omega (arith, b.largest, l)),
          le-leb _ _ held_again.within,
          held_again.good,
        )

    pub passes : AreasPass (lengths_of a) a.journal a.kept
    passes =
        record {
          points = points_pass;
          columns = eq-eqb _ _ columns_long;
          variables = variables_pass;
          journal_fits_lem = ap (λ (x : Held). journal_fits x a.journal a.kept.used) held_is ∙ journal_pass;
        }

    -- the count is true, so 11 isn't given
    pub count_true_lem : CountTrue a
    count_true_lem = h.counted ∙ ap (λ (x : Held). effective_in x.points a.points) (sym held_is)

    pub back_is : back_refusal_of a ≡ cond (eqb a.kept.used 0) 9 0
    unfolding back_refusal_of
    back_is =
        back_rows_lem (lengths_of a) a.journal a.kept a.points
        ∙ past_areas (lengths_of a) a.journal a.kept passes (own_back (lengths_of a) a.journal a.kept a.points)
        ∙ rw (eq-eqb _ _ count_true_lem)

    -- a frame's number, and whether it is taken as a write, is the same on all such areas
    number_is : (s : Sent) → refusal_of (call_on a s) ≡ number_on held s
    number_is s =
        refusal_is (call_on a s)
        ∙ ap (λ (k : ℕ). cond (ltb (length s.reply) 1024) 1 k) (past_areas (lengths_of a) a.journal a.kept passes _)
        ∙ ap
        (λ (w : Bool).
        cond (ltb (length s.reply) 1024) 1
        (own_number s.axes s.settings s.frame
        (sum_number s.settings s.frame
        (cond w 11 (first_of (asked_rows (held_in (lengths_of a)) s.settings.fitted s.settings.release (message_by s) (content_in s.frame)))))))
        (true_fits (message_by s) a.points a.kept.effective count_true_lem)
        ∙ ap (λ (x : Held). number_on x s) held_is

    pub takes_is : (s : Sent) → accepted_write ours a s ≡ takes held s
    takes_is s =
        ap₂ (λ (k : ℕ) (x : Held). eqb k 0 && asks_write (asked_of x s.settings.fitted s.settings.release s.frame)) (one_number.frame (call_on a s) ∙ number_is s) held_is
