use Prim.Native.Nat.{ℕ, ◌+◌, ◌-◌, ◌*◌, ◌≤◌}
use mathlib.Core.Path.{◌≡◌, sym, ap, ◌∙◌}
use native.Mathlib.Omega.{arith}
use lib.ListN.{length, take, drop}
use Rattle.points.specs.Point.{length_of}
use Rattle.points.proofs.Measured.{least, fills_next, fills_front, rest_of_lem}
use Rattle.points.proofs.Parts.{all_drop}
use Rattle.points.proofs.Slotted.{lay_next, lay_done}
use Rattle.slots.proofs.lay_points.Goals as goal

pub read_point-requires : goal.read_point-requires
read_point-requires c =
    let i = c.loop-i.invariant in
    (fills_front (c.args.count - c.loop-i.i) c.loop-i.rest.now (omega arith) i.1, i.0)

pub point_length-requires : goal.point_length-requires
point_length-requires c =
    let front : length_of c.loop-i.rest.now ≤ length c.loop-i.rest.now = fills_front (c.args.count - c.loop-i.i) _ (omega arith) c.loop-i.invariant.1 in
    (omega (arith, front, least c.loop-i.rest.now), c.loop-i.invariant.0)

pub slice_bounds-rest-count : goal.slice_bounds-rest-count
slice_bounds-rest-count c =
    let front : length_of c.loop-i.rest.now ≤ length c.loop-i.rest.now = fills_front (c.args.count - c.loop-i.i) _ (omega arith) c.loop-i.invariant.1 in
    omega (arith, c.point_length.ensures, front)

pub slice_bounds-rest-start : goal.slice_bounds-rest-start
slice_bounds-rest-start c =
    let front : length_of c.loop-i.rest.now ≤ length c.loop-i.rest.now = fills_front (c.args.count - c.loop-i.i) _ (omega arith) c.loop-i.invariant.1 in
    omega (arith, c.point_length.ensures, front)

pub loop-i-preserved : goal.loop-i-preserved
loop-i-preserved c =
    let a = c.args in
    let l = c.loop-i in
    let rest = l.rest.now in
    let front : length_of rest ≤ length rest = fills_front (a.count - l.i) rest (omega arith) l.invariant.1 in
    let behind : take (length rest - c.point_length.result) (drop c.point_length.result rest) ≡ drop (length_of rest) rest =
    rest_of_lem c.point_length.result rest ∙ ap (λ (n : ℕ). drop n rest) c.point_length.ensures in
    let left : a.count - l.i - 1 ≡ a.count - (l.i + 1) = omega arith in
    let next : a.at + l.i * 40 + 40 ≡ a.at + (l.i + 1) * 40 = omega arith in
    let p = c.put_point in (
      rw behind (all_drop (length_of rest) rest l.invariant.0),
      rw (behind, ← left) (sym (fills_next (a.count - l.i) rest (omega arith) front) ∙ l.invariant.1),
      rw (behind, ← left, ← next) (lay_next (a.count - l.i) l.area _ rest (a.at + l.i * 40) (omega arith) (omega arith) (p.ensures ∙ rw c.read_point.ensures) ∙ l.invariant.2),
      p.auto.area ∙ l.invariant.3,
    )

pub returns : goal.returns
returns c =
    let l = c.loop-i in
    sym (lay_done (c.args.count - l.i) l.area l.rest.now (c.args.at + l.i * 40) (omega arith)) ∙ l.invariant.2
