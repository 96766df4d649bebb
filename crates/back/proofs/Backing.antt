-- The step back: what its tests assure, and what it leaves.
use Prim.Native.Nat.{ℕ, zero, suc, ◌+◌, ◌-◌, ◌≤◌, ◌<◌}
use mathlib.Core.Path.{◌≡◌, refl, sym, ap, ◌∙◌, subst}
use mathlib.Core.Bool.{Bool, true, false, cond, not}
use mathlib.Core.List.{List, ◌++◌}
use native.Mathlib.Omega.{arith}
use lib.Dec.{eqb}
use lib.ListN.{length, take, drop, replicate}
use borrow.Author.Tests.{ne_eqb, eqb-true}
use Rattle.kinds.specs.declared.Kind.{Kind}
use Rattle.kinds.specs.declared.Firsts.{Firsts}
use Rattle.kinds.specs.declared.Held.{Held}
use Rattle.kinds.specs.Kinds.{points_tag, Sound, points_of, columns_of, integers_of, flags_of, kind_of, held_in, size_of}
use Rattle.kinds.proofs.Known.{tag_of, sized}
use Rattle.points.specs.Point.{effective_in}
use Rattle.journal.specs.Journal.{Entry, encodes, entries_in, whole, area_of, last_entry, others, entry_fits, puts, entry_for}
use Rattle.journal.specs.Laws.{Good, Stands}
use Rattle.journal.specs.declared.Last.{Last}
use Rattle.journal.proofs.Codec.{Bytes}
use Rattle.journal.proofs.Back.{holds_back}
use Rattle.messages.specs.Rows.{first_of}
use Rattle.std.specs.Prelude.{None}
use Rattle.calls.specs.declared.Kept.{Kept}
use Rattle.calls.specs.Calls.{Areas, Outcome, put_in, lengths_of, unanswered, stepped_back}
use Rattle.refusals.specs.Refusals.{count_true, back_rows, back_refusal_of}
use Rattle.refusals.proofs.Rows.{areas_pass, back_rows_lem}
use Rattle.refusals.proofs.Tested.{Points, Variables, Journal, points_fit_lem, variables_fit_lem, journal_fits_lem, sound}
use Rattle.back.specs.Back.{backed, back_of, StepsBack}
use Rattle.calls.proofs.Parts.{equal_parts}

-- the step back's outcome
pub refused_back : (a : Areas) (k : ℕ) → k ≡ back_refusal_of a → (k ≡ 0 → ⊥) → back_of a ≡ unanswered None k a
unfolding back_of
refused_back a k e n = rw (← e, ne_eqb k 0 n)

pub accepted_back : (a : Areas) → back_refusal_of a ≡ 0 → back_of a ≡ unanswered None 0 (stepped_back (held_in (lengths_of a)) a)
unfolding back_of
accepted_back a e = rw e

pub back_first : (a : Areas) → back_refusal_of a ≡ first_of (back_rows (lengths_of a) a.points a.journal a.kept)
unfolding back_refusal_of
back_first a = refl

-- the step back's tests, passed
pub record CanStepBack (a : Areas) : Type 0 where
  pub points : Points (length a.points)
  pub columns : length a.columns ≡ 700
  pub variables : Variables (length a.integers) (length a.flags) a.firsts
  pub journal : Journal (held_in (lengths_of a)) a.journal a.kept.used
  pub counted : a.kept.effective ≡ effective_in (held_in (lengths_of a)).points a.points
  pub used : 0 < a.kept.used
  pub sound_held : Sound (held_in (lengths_of a))

own_passed : (t : Bool) (k : ℕ) → ◌≡◌ {A = ℕ} (cond (not t) 11 (cond (eqb k 0) 9 0)) 0 → (t ≡ true) × (0 < k)
own_passed false k e = absurd (omega arith)
own_passed true zero e = absurd (omega arith)
own_passed true (suc k) e = (refl, omega arith)

pub can_step_back : (a : Areas) → back_refusal_of a ≡ 0 → CanStepBack a
can_step_back a e =
    let p = areas_pass (lengths_of a) a.journal a.kept (sym (back_rows_lem (lengths_of a) a.journal a.kept a.points) ∙ sym (back_first a) ∙ e) in
    let o = own_passed (count_true a.points a.kept.effective) a.kept.used p.1 in
    record {
      points = points_fit_lem (length a.points) p.0.points;
      columns = eqb-true _ _ p.0.columns;
      variables = variables_fit_lem (length a.integers) (length a.flags) a.firsts p.0.variables;
      journal = journal_fits_lem (held_in (lengths_of a)) a.journal a.kept.used p.0.journal_fits_lem;
      counted = eqb-true _ _ o.0;
      used = o.1;
      sound_held = sound (lengths_of a) p.0.points p.0.variables;
    }

-- a refused one
pub stepped_refused : (a : Areas) (k : ℕ) → k ≡ back_refusal_of a → (k ≡ 0 → ⊥) → StepsBack a (record { number = k; kept = a.kept }) a
stepped_refused a k e n =
    let q = refused_back a k e n in
    record {
      number_is = sym (ap (λ (o : Outcome). o.number) q);
      kept_is = sym (ap (λ (o : Outcome). o.areas.kept) q);
      areas_are = sym (ap (λ (o : Outcome). o.areas) q);
    }

-- what one of a kind's area needs, of a good entry
pub restore_needs : (h : Held) (t : ℕ) {k : Kind} (tag start : ℕ) (old area : List ℕ) → Sound h → Good h (entry_for tag start old) → k ≡ kind_of h t
    → length area ≡ size_of (kind_of h t) → ((length area ≡ size_of k) × (size_of k < 65536)) × (tag ≡ k.tag → entry_fits k start (length old) ≡ true)
restore_needs h t {k} tag start old area s g e l =
    let z = sized h t s in (
      (l ∙ ap size_of (sym e), omega (arith, z.small, ap size_of e)),
      λ q.
          let w : tag ≡ t = q ∙ ap (λ (x : Kind). x.tag) e ∙ tag_of h t in
          subst (λ (x : Kind). entry_fits x start (length old) ≡ true) (ap (kind_of h) w ∙ sym e) g.well_formed,
    )

pub same_puts : {k k' : Kind} {e e' : Entry} {after : List ℕ} (area : List ℕ) → after ≡ puts k e area → k ≡ k' → e ≡ e' → after ≡ puts k' e' area
same_puts area p k e = cc

-- the count that is handed on, of what is held as it was worked out and of the entry as it was found
pub same_count : {n : ℕ} {h h' : Held} {x x' : Entry} {points' : List ℕ} (points : List ℕ) (effective : ℕ)
    → n ≡ cond (eqb x.tag points_tag) (effective_in h.points points') effective → points' ≡ puts (points_of h) x points → h ≡ h' → x ≡ x'
    → n ≡ cond (eqb x'.tag points_tag) (effective_in h'.points (puts (points_of h') x' points)) effective
same_count points effective v p e f = v ∙ rw (p, e, f)

-- an accepted one: the last entry is found, put back and removed
module _ (a : Areas) (z : back_refusal_of a ≡ 0) {h : Held} (e : h ≡ held_in (lengths_of a)) where
  ok : CanStepBack a
  ok = can_step_back a z

  pub find_needs : (Sound h × (0 < a.kept.used) × (a.kept.used ≤ length a.journal)) × (whole h 0 (take a.kept.used a.journal) ≡ true)
  find_needs = rw e ((ok.sound_held, ok.used, ok.journal.within), ok.journal.entries)

  module _ {l : Last} (s : Stands h a.journal a.kept.used l) where
    abbrev old : List ℕ
    old = take (a.kept.used - (l.at + 5)) (drop (l.at + 5) a.journal)

    pub put_needs : (Sound h × Good h (entry_for l.tag l.start old))
        × (((length a.points ≡ size_of (points_of h)) × (length a.columns ≡ size_of columns_of) × (length a.integers ≡ size_of (integers_of h))
        × (length a.flags ≡ size_of (flags_of h))) × (a.kept.effective ≡ effective_in h.points a.points))
    put_needs = (
      (rw e ok.sound_held, subst (Good h) (sym s.entry) s.good),
      ((rw e (omega (arith, ok.points.whole_slots)), ok.columns, ok.variables.integers_long, ok.variables.flags_long), rw e ok.counted),
    )

    -- the last entry, as it was found
    entry_is : entry_for l.tag l.start old ≡ last_entry (entries_in (held_in (lengths_of a)) 0 (take a.kept.used a.journal))
    entry_is = s.entry ∙ ap (λ (x : Held). last_entry (entries_in x 0 (take a.kept.used a.journal))) e

    -- the other areas as they are once it is put back, and the journal without it
    pub stepped : (bytes : Bytes a.journal) {put : Areas} (journal' : List ℕ) {taken : List ℕ}
        → put ≡ put_in h (entry_for l.tag l.start old) (record a { journal = taken })
        → journal' ≡ take l.at a.journal ++ replicate (length a.journal - l.at) 0
        → let kept : Kept = record { used = l.at; effective = put.kept.effective } in
        StepsBack a (backed 0 kept) (record put { journal = journal'; kept = kept })
    stepped bytes {put} journal' p j =
        let q = accepted_back a z in
        let w = holds_back h a.journal a.kept.used l bytes ok.journal.within find_needs.1 s journal' j in
        let among = λ (x : Held). entries_in x 0 (take a.kept.used a.journal) in
        let points = ap (λ (x : Areas). x.points) p in
        let kept_now : Kept = record { used = l.at; effective = put.kept.effective } in
        let same =
        ap (λ (f : Firsts). record put { journal = journal'; kept = kept_now; firsts = f }) (ap (λ (x : Areas). x.firsts) p)
        ∙ equal_parts (same_puts a.points points (ap points_of e) entry_is) (same_puts a.columns (ap (λ (x : Areas). x.columns) p) refl entry_is)
        (same_puts a.integers (ap (λ (x : Areas). x.integers) p) (ap integers_of e) entry_is)
        (same_puts a.flags (ap (λ (x : Areas). x.flags) p) (ap flags_of e) entry_is)
        (w.bytes ∙ ap (λ (x : Held). area_of (length a.journal) (others (among x))) e)
        (w.used ∙ ap (λ (x : Held). length (encodes (others (among x)))) e)
        (same_count a.points a.kept.effective (ap (λ (x : Areas). x.kept.effective) p) refl e entry_is)
        ∙ sym (ap (λ (o : Outcome). o.areas) q) in
        record { number_is = sym (ap (λ (o : Outcome). o.number) q); kept_is = ap (λ (x : Areas). x.kept) same; areas_are = same }
