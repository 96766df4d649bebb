use Prim.Native.Nat.{◌+◌, ◌≤◌, ◌<◌}
use mathlib.Core.Path.{◌∙◌}
use native.Mathlib.Omega.{arith}
use lib.ListN.{length}
use Rattle.flags.proofs.Begun.{part_of_eight, part_of_rest, left_first, left_fits, left_next, left_done}
use Rattle.flags.proofs.put_flags.Goals as goal

pub loop-from-init : goal.loop-from-init
loop-from-init c = (omega arith, left_first _ _ _ c.requires)

pub put_number-requires : goal.put_number-requires
put_number-requires c =
    let fits : c.loop-from.from < length c.args.flags.now → c.loop-from.to + 2 ≤ length c.loop-from.reply = left_fits c.loop-from.invariant.1 in
    fits (omega arith)

pub overflow_add-to : goal.overflow_add-to
overflow_add-to c =
    let fits : c.loop-from.from < length c.args.flags.now → c.loop-from.to + 2 ≤ length c.loop-from.reply = left_fits c.loop-from.invariant.1 in
    omega (arith, fits (omega arith))

pub loop-from-preserved : goal.loop-from-preserved
loop-from-preserved c =
    let byte = c.from.ensures ∙ c.bits.ensures ∙ part_of_eight c.args.flags.now c.loop-from.from in
    let p = c.put_number in
    (omega arith, left_next c.loop-from.invariant.1 (omega arith) byte p.ensures p.auto.area)

pub put_number-requires-then-from-flags : goal.put_number-requires-then-from-flags
put_number-requires-then-from-flags c =
    let fits : c.loop-from.from < length c.args.flags.now → c.loop-from.to + 2 ≤ length c.loop-from.reply = left_fits c.loop-from.invariant.1 in
    fits (omega arith)

pub shape_of-reply-then-from-flags : goal.shape_of-reply-then-from-flags
shape_of-reply-then-from-flags c = c.put_number-then-from-flags.auto.area ∙ c.loop-from.invariant.1.long

pub returns-then-from-flags : goal.returns-then-from-flags
returns-then-from-flags c =
    let byte = c.from-then-from-flags.ensures ∙ c.bits-then-from-flags.ensures ∙ part_of_rest c.args.flags.now c.loop-from.from in
    let p = c.put_number-then-from-flags in
    left_done (left_next c.loop-from.invariant.1 (omega arith) byte p.ensures p.auto.area) (omega arith)

pub shape_of-reply-else-from-flags : goal.shape_of-reply-else-from-flags
shape_of-reply-else-from-flags c = c.loop-from.invariant.1.long

pub returns-else-from-flags : goal.returns-else-from-flags
returns-else-from-flags c = left_done c.loop-from.invariant.1 (omega arith)
