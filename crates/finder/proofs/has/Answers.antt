use Rattle.std.proofs.Common.{◌∙◌, ap}
use native.Mathlib.Omega.{arith}
use lib.Dec.{eqb}
use lib.Seq.{take_all}
use Rattle.std.specs.List.{list_any}
use Rattle.finder.proofs.Blocks.{looked}
use Rattle.finder.proofs.has.Goals as goal

pub returns : goal.returns
returns c =
    let a = c.args in
    c.loop-x.invariant ∙ (ap (λ s. list_any (λ x. eqb x a.b) s) (take_all c.loop-x.x-index a.block.now (omega arith)) ∙ looked a.b a.block.now)
