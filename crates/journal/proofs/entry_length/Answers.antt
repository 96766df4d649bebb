use native.Mathlib.Omega.{arith}
use Rattle.journal.proofs.Walk.{front_whole}
use Rattle.journal.proofs.entry_length.Goals as goal

pub two_at-requires : goal.two_at-requires
two_at-requires c =
    let f = front_whole c.args.held c.args.bytes.now c.requires.0 c.requires.1 in
    omega (arith, f.within)

pub returns : goal.returns
returns c =
    let f = front_whole c.args.held c.args.bytes.now c.requires.0 c.requires.1 in
    omega (arith, f.is, c.from.ensures, c.two_at.ensures)
