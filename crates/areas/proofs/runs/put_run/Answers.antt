use mathlib.Core.Path.{refl}
use native.Mathlib.Omega.{arith}
use Rattle.areas.proofs.Moves.{laying_first, laying_next, laying_done}
use Rattle.areas.proofs.runs.put_run.Goals as goal

pub loop-i-init : goal.loop-i-init
loop-i-init c = laying_first _ _ _ c.requires

pub loop-i-preserved : goal.loop-i-preserved
loop-i-preserved c =
    laying_next c.args.area.now c.args.bytes.now c.args.at c.requires c.loop-i.i _ c.loop-i.area c.loop-i.invariant (omega arith) refl

pub returns : goal.returns
returns c =
    laying_done c.args.area.now c.args.bytes.now c.args.at c.requires c.loop-i.i c.loop-i.area c.loop-i.invariant (omega arith)
