use mathlib.Core.Path.{sym, ◌∙◌}
use native.Mathlib.Omega.{arith}
use lib.ListN.{length-set}
use Rattle.points.proofs.Slotted.{load_next, load_done}
use Rattle.slots.proofs.positions_at.Goals as goal

pub loop-axis-preserved : goal.loop-axis-preserved
loop-axis-preserved c =
    let l = c.loop-axis in
    (simp length-set l.invariant.0, load_next c.args.area.now c.args.at l.axis l.position-items _ (omega arith) l.invariant.0 (c.of.ensures ∙ rw c.four_at.ensures) ∙ l.invariant.1)

pub returns : goal.returns
returns c =
    let l = c.loop-axis in
    sym (load_done l.position-items l.axis _ l.invariant.0 (omega arith)) ∙ l.invariant.1
