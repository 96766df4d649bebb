use Rattle.std.proofs.Common.{◌+◌, sym, ◌∙◌}
use native.Mathlib.Omega.{arith}
use Rattle.frames.specs.Frame.{CR}
use Rattle.finder.specs.Find.{pair_first}
use Rattle.finder.proofs.Search.{Mark, pair_is, begun, turn, none, found, missed}
use Rattle.finder.proofs.pair.Goals as goal

pub loop-at-init : goal.loop-at-init
loop-at-init c = begun _ c.place-at.ensures

-- the next CR
next : (c : goal.After-place-at-in-loop-at) → Mark CR pair_first c.args.s.now (c.loop-at.at + 1 + c.place-at-in-loop-at.result)
next c = turn _ _ (omega arith) (missed c.loop-at.invariant (omega arith) (sym c.pair_at.ensures ∙ c.if-not-pair_at.true)) c.place-at-in-loop-at.ensures

pub overflow_add-at-in-loop-at : goal.overflow_add-at-in-loop-at
overflow_add-at-in-loop-at c = let m = next c in omega (arith, m.at_most)

pub loop-at-preserved : goal.loop-at-preserved
loop-at-preserved c = next c

pub returns-else-not-pair_at : goal.returns-else-not-pair_at
returns-else-not-pair_at c = found c.loop-at.invariant (omega arith) (sym c.pair_at.ensures ∙ c.if-not-pair_at.false) ∙ sym (pair_is c.args.s.now)

pub returns-after-loop-at : goal.returns-after-loop-at
returns-after-loop-at c = omega (arith, c.loop-at.invariant.at_most, none c.loop-at.invariant (omega arith), pair_is c.args.s.now)
