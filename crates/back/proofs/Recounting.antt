-- The count that is kept, of an entry of any kind that is put back.
use Prim.Native.Nat.{ℕ, ◌+◌, ◌*◌, ◌/◌, ◌≤◌, ◌<◌}
use mathlib.Core.Path.{◌≡◌, refl, sym, ap, ◌∙◌}
use mathlib.Core.Bool.{Bool, true, false}
use mathlib.Core.List.{List}
use native.Mathlib.Omega.{arith}
use lib.Dec.{eqb}
use lib.ListN.{length}
use borrow.Author.Tests.{eqb-true, eqb-false}
use Rattle.kinds.specs.declared.Kind.{Kind}
use Rattle.kinds.specs.declared.Held.{Held}
use Rattle.kinds.specs.Kinds.{points_tag, points_of, kind_of, Sound, place_of, size_of}
use Rattle.kinds.proofs.Known.{kind_points, own_points, sized, few}
use Rattle.kinds.proofs.Promised.{run}
use Rattle.journal.specs.Journal.{puts, entry_for}
use Rattle.journal.specs.Laws.{Good}
use Rattle.journal.proofs.Fitting.{Fit, fit, puts_own, puts_other}
use Rattle.points.specs.Point.{effective_in}
use Rattle.slots.specs.Counted.{effective_among}
use Rattle.slots.proofs.Counted.{Recounted, recounted}

module _ (h : Held) (tag start : ℕ) (old : List ℕ) (s : Sound h) (g : Good h (entry_for tag start old)) where
  fits : Fit (kind_of h tag) start (length old)
  fits = fit (kind_of h tag) start (length old) g.well_formed

  -- of points it fills whole slots
  points_fit_lem : kind_of h tag ≡ points_of h → Fit (points_of h) start (length old)
  points_fit_lem e = rw e at fits

  pub some_unit : {k : Kind} → k ≡ kind_of h tag → 0 < k.unit
  some_unit e = rw e (sized h tag s).some_bytes

  -- where the slots that it names stand
  pub entry_counts : {k : Kind} (points : List ℕ) → k ≡ kind_of h tag → length points ≡ size_of (points_of h) → k.tag ≡ points_tag
      → (k.unit ≡ 40) × (k.first ≤ start) × (length old / k.unit ≤ 1500) × (place_of k start + length old / k.unit * 40 ≤ length points)
  entry_counts points e l t =
      let p = own_points h tag (ap (λ (k : Kind). k.tag) (sym e) ∙ t) in
      let f = points_fit_lem p in
      let n = few (points_of h) start (length old / 40) f.held_all in
      rw (e ∙ p) (refl, f.first, omega (arith, n, s.points), omega (arith, f.room, f.whole_units, l))

  -- the area stays as long
  pub length_after : (points : List ℕ) → length points ≡ size_of (points_of h) → length (puts (points_of h) (entry_for tag start old) points) ≡ length points
  length_after points l = go (eqb tag points_tag) refl
    where
      go : (b : Bool) → eqb tag points_tag ≡ b → length (puts (points_of h) (entry_for tag start old) points) ≡ length points
      go true q =
          let t = eqb-true _ _ q in
          let f = points_fit_lem (ap (kind_of h) t ∙ kind_points h) in
          ap length (sym (puts_own (points_of h) (entry_for tag start old) points t))
          ∙ (run (points_of h) start (length old / 40) old points (sym f.whole_units) (omega (arith, f.room, l))).as_long
      go false q = ap length (sym (puts_other (points_of h) (entry_for tag start old) points (eqb-false _ _ q)))

  -- and they stand there still
  pub counts_after : {k : Kind} (points : List ℕ) {points' : List ℕ} → k ≡ kind_of h tag → length points ≡ size_of (points_of h)
      → points' ≡ puts (points_of h) (entry_for tag start old) points → k.tag ≡ points_tag
      → (k.unit ≡ 40) × (k.first ≤ start) × (length old / k.unit ≤ 1500) × (place_of k start + length old / k.unit * 40 ≤ length points')
  counts_after points {points'} e l p t = entry_counts points' e (ap length p ∙ length_after points l ∙ l) t

  pub entry_recounted : {effective : ℕ} (points : List ℕ) {points' : List ℕ} → length points ≡ size_of (points_of h) → effective ≡ effective_in h.points points
      → points' ≡ puts (points_of h) (entry_for tag start old) points
      → Recounted h tag start (length old / (kind_of h tag).unit) effective points points'
  entry_recounted {effective} points {points'} l c e =
      recounted h tag start (length old / (kind_of h tag).unit) effective old points points'
      (λ t.
      let p = ap (kind_of h) t ∙ kind_points h in
      let f = points_fit_lem p in
      rw p
      (record {
        counted = c;
        held_all = f.held_all;
        area_long = l;
        as_many = sym f.whole_units;
        put_there = e ∙ sym (puts_own (points_of h) (entry_for tag start old) points t);
      }))

-- the effective slots of an entry's kind, as that was worked out
pub same_among : {n : ℕ} {k k' : Kind} (start size : ℕ) (area : List ℕ) → n ≡ effective_among k start (size / k.unit) area → k ≡ k'
    → n ≡ effective_among k' start (size / k'.unit) area
same_among start size area e f = e ∙ rw f
