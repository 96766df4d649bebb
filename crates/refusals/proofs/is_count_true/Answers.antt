use mathlib.Core.Path.{ap}
use Prim.Native.Nat.{ℕ}
use lib.Dec.{eqb}
use Rattle.refusals.proofs.Tested.{points_fit_lem}
use Rattle.refusals.proofs.is_count_true.Goals as goal

pub count_effective-requires : goal.count_effective-requires
count_effective-requires c = let p = points_fit_lem _ c.requires in (p.whole_slots, p.most)

pub returns : goal.returns
returns c = ap (λ (n : ℕ). eqb c.args.effective n) c.count_effective.ensures
