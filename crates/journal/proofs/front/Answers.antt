use Rattle.std.proofs.Common.{sym}
use lib.ListN.{get_or}
use native.Mathlib.Omega.{arith}
use Rattle.kinds.proofs.Known.{Sized, sized}
use Rattle.journal.proofs.front.Goals as goal

pub fits-requires : goal.fits-requires
fits-requires c =
    let k : Sized c.kind.result = rw (sym c.kind.ensures) at (sized c.args.held (get_or c.args.bytes.now 0 0) c.requires) in
    (k.some_bytes, omega arith, omega arith, k.numbers)
