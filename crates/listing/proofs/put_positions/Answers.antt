use Prim.Native.Nat.{ℕ}
use mathlib.Core.Path.{sym, ap, ◌∙◌}
use mathlib.Core.List.{List}
use native.Mathlib.Omega.{arith}
use lib.ListN.{length}
use Rattle.digits.specs.Laid.{laid}
use Rattle.points.specs.Axes.{axes_of}
use Rattle.points.specs.Point.{position_digits}
use Rattle.points.proofs.Slotted.{list_next, list_done}
use Rattle.listing.proofs.put_positions.Goals as goal

pub loop-axis-preserved : goal.loop-axis-preserved
loop-axis-preserved c =
    let l = c.loop-axis in
    let next = c.in-Some.ensures.steps in
    let many = ap length next in
    let laid_here = list_next c.in-Some.axis l.to (axes_of c.next.new.self.rest) l.reply _ c.args.positions (omega arith) (c.put_number.ensures ∙ rw (c.from.ensures, c.bits.ensures)) in
    let same = ap (λ (axes : List ℕ). laid l.reply l.to (position_digits axes c.args.positions)) (sym next) in
    (omega (arith, c.put_number.auto.area), laid_here ∙ same ∙ l.invariant.1, c.put_number.auto.area ∙ l.invariant.2)

pub returns : goal.returns
returns c =
    let l = c.loop-axis in
    sym (list_done l.to l.reply c.args.positions) ∙ ap (λ (axes : List ℕ). laid l.reply l.to (position_digits axes c.args.positions)) (sym c.in-None.ensures.steps.0) ∙ l.invariant.1
