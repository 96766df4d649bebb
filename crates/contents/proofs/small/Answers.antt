use Prim.Native.Nat.{◌≤◌}
use mathlib.Core.Path.{refl}
use native.Mathlib.Omega.{arith}
use lib.ListN.{length}
use native.Mathlib.Nat.{pow-le-pow_right}
use Prim.Native.Nat.{◌^◌}
use Rattle.digits.proofs.Inverse.{inverse}
use Rattle.contents.proofs.small.Goals as goal

pub returns : goal.returns
returns c =
    let s = c.args.field.now in
    let h = (inverse (length s)).bound s refl in
    let k : 16 ^ length s ≤ 16 ^ 4 = pow-le-pow_right {n = 16} (omega arith) {i = length s} {j = 4} (omega arith) in
    (c.number.ensures, omega arith)
