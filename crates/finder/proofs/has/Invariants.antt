use Rattle.std.proofs.Common.{◌≡◌, take}
use lib.Dec.{eqb}
use Rattle.std.specs.List.{list_any}
use Rattle.finder.proofs.has.Given as goal

abbrev pub invariant-loop-x : goal.invariant-loop-x
invariant-loop-x l = l.any ≡ list_any (λ x. eqb x l.b) (take l.x-index l.block)
