use Rattle.std.proofs.Common.{◌∙◌, sym}
use native.Mathlib.Omega.{arith}
use Rattle.finder.proofs.Blocks.{close, far}
use Rattle.finder.proofs.Search.{place_on}
use Rattle.finder.proofs.near.Goals as goal

pub returns-in-Some : goal.returns-in-Some
returns-in-Some c = close c.args.b 20 c.args.s.now c.in-Some.i (sym c.by_byte.ensures ∙ c.in-Some.is)

pub overflow_add-result : goal.overflow_add-result
overflow_add-result c = omega (arith, place_on c.args.b c.args.s.now 20 c.place-in-None.result (omega arith) c.place-in-None.ensures)

pub returns-in-None : goal.returns-in-None
returns-in-None c =
    let s = c.args.s.now in
    omega (arith, place_on c.args.b s 20 c.place-in-None.result (omega arith) c.place-in-None.ensures, far c.args.b 20 s (sym c.by_byte.ensures ∙ c.in-None.is) (omega arith))
