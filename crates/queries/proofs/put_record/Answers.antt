use Prim.Native.Nat.{◌+◌}
use mathlib.Core.Path.{refl, ◌∙◌}
use native.Mathlib.Omega.{arith}
use Rattle.points.proofs.Chained.{chain}
use Rattle.queries.proofs.put_record.Goals as goal

pub overflow_add-at-4 : goal.overflow_add-at-4
overflow_add-at-4 c = omega (arith, c.requires, c.well_formed)

pub returns : goal.returns
returns c =
    let a = c.args in
    c.put_number-5.ensures
    ∙ rw (c.from-5.ensures, c.bits.ensures, c.put_number-4.ensures, c.put_number-3.ensures, c.put_number-2.ensures, c.put_number.ensures, c.from.ensures, c.from-2.ensures, c.from-3.ensures, c.from-4.ensures)
    (chain a.reply.now _ _ _ _ _ a.at (a.at + 2) (a.at + 3) (a.at + 6) (a.at + 8) (omega (arith, c.requires)) refl (omega arith) (omega arith) (omega arith))
