use mathlib.Core.Path.{ap}
use native.Mathlib.Omega.{arith}
use lib.ListN.{length}
use Rattle.points.proofs.Ones.{lowest, none}
use Rattle.points.proofs.patterns.AxesIterator.next.Goals as goal

pub returns-then-self-eq0-clause-steps : goal.returns-then-self-eq0-clause-steps
returns-then-self-eq0-clause-steps c = rw c.if-self-eq0.true (none, none)

pub returns-clause-steps : goal.returns-clause-steps
returns-clause-steps c = lowest c.args.self.now.rest c.if-self-eq0.false (omega arith)

pub returns-clause-goes : goal.returns-clause-goes
returns-clause-goes c =
    let fewer = ap length (lowest c.args.self.now.rest c.if-self-eq0.false (omega arith)) in
    record { on = λ f. (tt, f, omega (arith, fewer)); keeps = tt; rests = λ _. tt }
