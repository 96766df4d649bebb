-- The count that is kept, of an order that was carried out.
use Prim.Native.Nat.{ℕ, ◌+◌, ◌-◌, ◌*◌, ◌/◌, ◌≤◌}
use mathlib.Core.Path.{◌≡◌, refl, sym, ap, ◌∙◌, subst}
use mathlib.Core.Bool.{Bool, true, false}
use mathlib.Core.Logic.{◌⊎◌, inl, inr}
use mathlib.Core.List.{List}
use native.Mathlib.Omega.{arith}
use lib.Dec.{eqb}
use lib.ListN.{length}
use borrow.Author.Tests.{eqb-true}
use Rattle.frames.specs.Frame.{content_in}
use Rattle.kinds.specs.declared.Kind.{Kind}
use Rattle.kinds.specs.Kinds.{points_tag, columns_tag, integers_tag, points_of, kind_of, Sound, holds, place_of, size_of, put}
use Rattle.kinds.proofs.Known.{kind_points, own_points, within, few, room}
use Rattle.kinds.proofs.Promised.{run}
use Rattle.points.specs.Point.{effective_in}
use Rattle.slots.proofs.Counted.{Recounted, recounted}
use Rattle.table.specs.declared.Action.{Action}
use Rattle.table.specs.declared.Action.TheVariants.{SayBack, CountPoints, ListPoints, ReadRun, AxisStatus, WritePoints, ClearRun, ChangeRun, ShowFlags, SetFlag}
use Rattle.table.specs.Table.{rest_in}
use Rattle.messages.proofs.Shapes.{Shape}
use Rattle.refusals.specs.Refusals.{count_fits}
use Rattle.orders.specs.Orders.{writes, new_bytes}
use Rattle.orders.specs.declared.Order.{Order}
use Rattle.orders.specs.Contract.{kind_in, Ordered, Stores, Within, count_named, count_left}
use Rattle.orders.proofs.Judging.{Writable, writable, not_so}
use Rattle.orders.proofs.Handling.{content}

-- where the slots that are named stand
pub run_counts : (x : Order) (area : List ℕ) {k : Kind} → Sound x.held → Within x area → writes x.message.does ≡ true → k ≡ kind_in x → k.tag ≡ points_tag
    → (k.unit ≡ 40) × (k.first ≤ x.start) × (x.count ≤ 1500) × (place_of k x.start + x.count * 40 ≤ length area)
run_counts x area s l w e t =
    let p = own_points x.held x.message.tag (ap (λ (k : Kind). k.tag) (sym e) ∙ t) in
    let n = points_of x.held in
    let f : holds n x.start x.count ≡ true = rw p at (l w).0 in
    let g : length area ≡ size_of n = rw p at (l w).1 in
    rw (e ∙ p)
    (refl, (within n x.start x.count f).0, omega (arith, few n x.start x.count f, s.points), omega (arith, room n x.start x.count f, g))

-- what is taken off is among what is counted, and what is handed on is the count of the slots then
pub record Left (x : Order) (effective : ℕ) (area area' : List ℕ) : Type 0 where
  pub least : count_named x area ≤ effective
  pub is : effective - count_named x area + count_named x area' ≡ count_left x area' effective
  pub most : (n : ℕ) → effective ≤ n → x.held.points ≤ n → effective - count_named x area + count_named x area' ≤ n

module _ {x : Order} {frame area : List ℕ} (o : Ordered x frame area) where
  abbrev run_of_lem : writes x.message.does ≡ true → Writable x.held (content_in frame) x.message x.start x.count
  run_of_lem w = writable x.held (content_in frame) x.message x.start x.count (content o) w

  pub run_within : Within x area
  run_within w =
      let n = (run_of_lem w).run in
      (n.held_all, o.area_long (omega (arith, few (kind_in x) x.start x.count n.held_all, n.some)))

  -- a count that fits with the slots fits with the area of the message's kind: only messages of points look at it
  pub count_same : {own : List ℕ} (effective : ℕ) → (x.message.tag ≡ points_tag → area ≡ own) → count_fits x.message.does own effective ≡ true
      → count_fits x.message.does area effective ≡ true
  count_same {own} effective e f = go x.message.does (content o).shape f
    where
      same : (a : Action) → x.message.tag ≡ points_tag → count_fits a own effective ≡ true → count_fits a area effective ≡ true
      same a t g = subst (λ (z : List ℕ). count_fits a z effective ≡ true) (sym (e t)) g

      go : (a : Action) → Shape a x.message → count_fits a own effective ≡ true → count_fits a area effective ≡ true
      go SayBack s g = refl
      go CountPoints s g = same CountPoints s g
      go ListPoints s g = refl
      go ReadRun s g = refl
      go AxisStatus s g = refl
      go WritePoints s g = same WritePoints s.0.0 g
      go ClearRun s g = same ClearRun s.0 g
      go ChangeRun s g = refl
      go ShowFlags s g = refl
      go SetFlag s g = refl

  -- the count of a write of points is true: refusal 11 does not hold
  module _ (effective : ℕ) (f : count_fits x.message.does area effective ≡ true) where
    counted : writes x.message.does ≡ true → x.message.tag ≡ points_tag → length area ≡ x.held.points * 40 → effective ≡ effective_in x.held.points area
    counted w t l = go x.message.does refl (content o).shape
      where
        is : eqb effective (effective_in (length area / 40) area) ≡ true → effective ≡ effective_in x.held.points area
        is e = let n : length area / 40 ≡ x.held.points = omega (arith, l) in eqb-true _ _ e ∙ ap (λ (k : ℕ). effective_in k area) n

        other : (x.message.tag ≡ columns_tag) ⊎ (x.message.tag ≡ integers_tag) → effective ≡ effective_in x.held.points area
        other (inl e) = absurd (omega (arith, e, t))
        other (inr e) = absurd (omega (arith, e, t))

        query : {a : Action} → x.message.does ≡ a → writes a ≡ false → effective ≡ effective_in x.held.points area
        query e n = not_so (sym n ∙ ap writes (sym e) ∙ w)

        go : (a : Action) → x.message.does ≡ a → Shape a x.message → effective ≡ effective_in x.held.points area
        go SayBack e s = query e refl
        go CountPoints e s = query e refl
        go ListPoints e s = query e refl
        go ReadRun e s = query e refl
        go AxisStatus e s = query e refl
        go ShowFlags e s = query e refl
        go WritePoints e s = is (sym (ap (λ (a : Action). count_fits a area effective) e) ∙ f)
        go ClearRun e s = is (sym (ap (λ (a : Action). count_fits a area effective) e) ∙ f)
        go ChangeRun e s = other s.0.0
        go SetFlag e s = absurd (omega (arith, s.0, t))

    module _ {area' journal journal' : List ℕ} {used used' : ℕ} (p : Stores x frame area area' journal journal' used used') where
      abbrev new : List ℕ
      new = new_bytes x.message.does (kind_in x).unit x.count (rest_in x.message (content_in frame))

      write_recounted : writes x.message.does ≡ true → Recounted x.held x.message.tag x.start x.count effective area area'
      write_recounted w =
          recounted x.held x.message.tag x.start x.count effective new area area'
          (λ t.
          let k = ap (kind_of x.held) t ∙ kind_points x.held in
          let l = run_within w in
          let long : length area ≡ x.held.points * 40 = l.1 ∙ ap size_of k in
          record {
            counted = counted w t long;
            held_all = subst (λ (z : Kind). holds z x.start x.count ≡ true) k l.0;
            area_long = long;
            as_many = (run_of_lem w).long ∙ ap (λ (z : Kind). x.count * z.unit) k;
            put_there = (p.wrote w).put_there ∙ ap (λ (z : Kind). put z x.start new area) k;
          })

      -- the run that was named lies there still
      pub run_within_after : Within x area'
      run_within_after w =
          let l = run_within w in
          let n = run_of_lem w in
          let h = (run (kind_in x) x.start x.count new area n.long (omega (arith, n.long, l.1, room (kind_in x) x.start x.count l.0))).as_long in
          (l.0, ap length (p.wrote w).put_there ∙ h ∙ l.1)

      pub left : Left x effective area area'
      left = go (writes x.message.does) refl
        where
          go : (b : Bool) → writes x.message.does ≡ b → Left x effective area area'
          go true w = let r = write_recounted w in record { least = rw w r.least; is = rw w r.is; most = λ n i j. rw w (r.most n i j) }
          go false w = record { least = rw w (omega arith); is = rw w (omega arith); most = λ n i j. rw w (omega arith) }
