use Prim.Native.Nat.{ℕ, ◌+◌, ◌-◌, ◌≤◌}
use mathlib.Core.Path.{◌≡◌, sym, ap, ap₂, ◌∙◌}
use native.Mathlib.Nat.{sub-zero}
use native.Mathlib.Omega.{arith}
use lib.ListN.{length, drop}
use Rattle.points.specs.Point.{length_of, fills_of}
use Rattle.points.proofs.Measured.{least, fills_next, fills_stop, fills_done}
use Rattle.points.proofs.Parts.{all_drop}
use Rattle.points.proofs.reading.fills.Goals as goal

pub loop-init : goal.loop-init
loop-init c = (c.requires, rw sub-zero)

pub returns-then-rest-lt14 : goal.returns-then-rest-lt14
returns-then-rest-lt14 c =
    sym (fills_stop (c.args.count - c.loop.counter) c.loop.rest.now (omega arith) (omega (arith, least c.loop.rest.now))) ∙ c.loop.invariant.1

pub point_length-requires : goal.point_length-requires
point_length-requires c = (omega arith, c.loop.invariant.0)

pub returns-in_default : goal.returns-in_default
returns-in_default c =
    sym (fills_stop (c.args.count - c.loop.counter) c.loop.rest.now (omega arith) (omega (arith, c.point_length.ensures, c.in_default.ensures.cases))) ∙ c.loop.invariant.1

pub loop-preserved : goal.loop-preserved
loop-preserved c =
    let rest = c.loop.rest.now in
    let behind : c.in-Some.behind.now ≡ drop (length_of rest) rest = c.in-Some.ensures.cases.2 ∙ ap (λ (n : ℕ). drop n rest) c.point_length.ensures in
    let left : c.args.count - (c.loop.counter + 1) ≡ c.args.count - c.loop.counter - 1 = omega arith in
    let size : length_of rest ≤ length rest = omega (arith, c.point_length.ensures, c.in-Some.ensures.cases.0) in
    (rw behind (all_drop (length_of rest) rest c.loop.invariant.0), ap₂ fills_of left behind ∙ sym (fills_next (c.args.count - c.loop.counter) rest (omega arith) size) ∙ c.loop.invariant.1)

pub returns : goal.returns
returns c =
    c.is_empty.ensures ∙ sym (fills_done (c.args.count - c.loop.counter) c.loop.rest.now (omega arith)) ∙ c.loop.invariant.1
