use Prim.Native.Nat.{◌*◌}
use native.Mathlib.Omega.{arith}
use lib.ListN.{drop}
use borrow.Author.Rules.{rules}
use native.Mathlib.Nat.{sub-zero, zero-add}
use Rattle.std.proofs.lemmas.Bool.Decides.{nat_tests}
use Rattle.points.proofs.Slotted.{count_at, count_end}
use Rattle.slots.proofs.count_effective.Goals as goal

pub loop-i-init : goal.loop-i-init
loop-i-init c = (search rules, rw (sub-zero, zero-add))

pub loop-i-preserved : goal.loop-i-preserved
loop-i-preserved c =
    let e = count_at c.args.n c.loop-i.i c.args.area.now (omega arith) in
    grind (arith, nat_tests)

pub returns : goal.returns
returns c =
    omega (arith, count_end c.args.n c.loop-i.i (drop (c.loop-i.i * 40) c.args.area.now) (omega arith))
