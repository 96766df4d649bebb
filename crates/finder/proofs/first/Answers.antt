use Rattle.std.proofs.Common.{◌+◌, sym, ◌∙◌}
use native.Mathlib.Omega.{arith}
use Rattle.frames.specs.Frame.{command}
use Rattle.finder.proofs.Search.{Mark, stays, stays_by, skip_is, begun, turn, none, found, missed}
use Rattle.finder.proofs.first.Goals as goal

pub loop-bang-init : goal.loop-bang-init
loop-bang-init c = begun _ c.place-bang.ensures

-- the next '!'
next : (c : goal.After-near-bang) → Mark command stays c.args.s.now (c.loop-bang.bang + 1 + c.near-bang.result)
next c =
    let t = stays_by c.args.s.now c.loop-bang.bang (sym c.is_skipped.ensures ∙ c.if-is_skipped.true) in
    turn _ _ (omega arith) (missed c.loop-bang.invariant (omega arith) t) c.near-bang.ensures

pub overflow_add-bang-in-loop-bang : goal.overflow_add-bang-in-loop-bang
overflow_add-bang-in-loop-bang c = let m = next c in omega (arith, m.at_most)

pub loop-bang-preserved : goal.loop-bang-preserved
loop-bang-preserved c = next c

pub returns-else-is_skipped : goal.returns-else-is_skipped
returns-else-is_skipped c =
    let s = c.args.s.now in
    found c.loop-bang.invariant (omega arith) (stays_by s c.loop-bang.bang (sym c.is_skipped.ensures ∙ c.if-is_skipped.false)) ∙ sym (skip_is s)

pub returns-after-loop-bang : goal.returns-after-loop-bang
returns-after-loop-bang c = omega (arith, c.loop-bang.invariant.at_most, none c.loop-bang.invariant (omega arith), skip_is c.args.s.now)
