use Rattle.std.proofs.Common.{sym, ap, ◌∙◌, length, length-drop}
use native.Mathlib.Omega.{arith}
use Rattle.digits.proofs.Laid.{part_rest}
use Rattle.journal.specs.Journal.{whole}
use Rattle.journal.proofs.Walk.{front_le, whole_front, whole_stops}
use Rattle.journal.proofs.is_whole.Goals as goal

pub slice_bounds-rest-count : goal.slice_bounds-rest-count
slice_bounds-rest-count c = let h = c.in-Some.ensures in omega (arith, h.1, front_le c.args.held c.loop-size.rest.now)

pub slice_bounds-rest-start : goal.slice_bounds-rest-start
slice_bounds-rest-start c = let h = c.in-Some.ensures in omega (arith, h.1, front_le c.args.held c.loop-size.rest.now)

pub loop-size-smaller : goal.loop-size-smaller
loop-size-smaller c =
    let h = c.in-Some.ensures in
    let rest = c.loop-size.rest.now in
    omega (arith, h.0, h.1, front_le c.args.held rest, ap length (part_rest rest c.in-Some.size), length-drop c.in-Some.size rest)

pub loop-size-preserved : goal.loop-size-preserved
loop-size-preserved c =
    let h = c.in-Some.ensures in
    ap (whole c.args.held 0) (part_rest c.loop-size.rest.now c.in-Some.size)
    ∙ (sym (whole_front c.args.held c.in-Some.size c.loop-size.rest.now (sym h.1) h.0) ∙ c.loop-size.invariant)

pub returns : goal.returns
returns c = c.is_empty.ensures ∙ (whole_stops c.args.held c.loop-size.rest.now c.in_default.ensures ∙ c.loop-size.invariant)
