use native.Mathlib.Omega.{arith}
use Rattle.areas.proofs.Moves.{part_back}
use Rattle.pairs.proofs.set_bytes.Goals as goal

pub returns : goal.returns
returns c =
    let a = c.args in
    part_back a.area.now _ _ a.at (omega arith) c.put_pairs.ensures
