use Prim.Native.Nat.{◌+◌, ◌*◌}
use mathlib.Core.Path.{sym, ◌∙◌}
use native.Mathlib.Omega.{arith}
use Rattle.points.proofs.Slotted.{store_next, store_done}
use Rattle.slots.proofs.put_positions.Goals as goal

pub loop-axis-preserved : goal.loop-axis-preserved
loop-axis-preserved c =
    let l = c.loop-axis in
    (store_next l.area _ c.args.at l.axis c.args.positions (omega arith) (omega arith) (c.put_four.ensures ∙ rw c.bits.ensures) ∙ l.invariant.0, c.put_four.auto.area ∙ l.invariant.1)

pub returns : goal.returns
returns c =
    let l = c.loop-axis in
    sym (store_done l.area (c.args.at + l.axis * 4) l.axis c.args.positions (omega arith)) ∙ l.invariant.0
