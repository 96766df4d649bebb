use Prim.Native.Nat.{◌+◌}
use mathlib.Core.Path.{refl, ◌∙◌}
use native.Mathlib.Omega.{arith}
use Rattle.digits.proofs.Laid.{laid_on}
use Rattle.listing.proofs.put_listing.Goals as goal

pub returns : goal.returns
returns c =
    let a = c.args in
    c.put_point_digits.ensures ∙ rw c.put_number.ensures (laid_on a.reply.now _ _ a.at (a.at + 3) refl (omega arith))
