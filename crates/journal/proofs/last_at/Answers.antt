use Prim.Native.Nat.{◌+◌}
use mathlib.Core.Path.{ap, ◌∙◌}
use native.Mathlib.Omega.{arith}
use Rattle.journal.specs.Journal.{front_of}
use Rattle.digits.proofs.Laid.{part_rest}
use Rattle.journal.proofs.Walk.{part_whole}
use Rattle.journal.proofs.Back.{before, Seek, seek_first, seek_whole, seek_next, seek_done}
use Rattle.journal.proofs.last_at.Goals as goal

pub loop-next-init : goal.loop-next-init
loop-next-init c = seek_first c.args.held c.args.bytes.now c.entry_length-next.ensures c.requires.1 c.requires.2

pub entry_length-next-requires-in-loop-next : goal.entry_length-next-requires-in-loop-next
entry_length-next-requires-in-loop-next c =
    let g = c.loop-next in
    part_whole c.args.held g.next c.args.bytes.now c.loop-next-test.true (seek_whole c.args.held c.args.bytes.now g.at g.next g.invariant)

-- one entry on
turn : (c : goal.After-entry_length-next-in-loop-next) → Seek c.args.held c.args.bytes.now c.loop-next.next (c.loop-next.next + c.entry_length-next-in-loop-next.result)
turn c =
    let g = c.loop-next in
    let is = c.entry_length-next-in-loop-next.ensures ∙ ap (front_of c.args.held) (part_rest c.args.bytes.now g.next) in
    seek_next c.args.held c.args.bytes.now g.at g.next c.entry_length-next-in-loop-next.result g.invariant c.loop-next-test.true is

pub overflow_add-next : goal.overflow_add-next
overflow_add-next c = let t = turn c in omega arith

pub loop-next-smaller : goal.loop-next-smaller
loop-next-smaller c = let t = turn c in omega arith

pub loop-next-preserved : goal.loop-next-preserved
loop-next-preserved c = turn c

pub returns : goal.returns
unfolding before
returns c =
    seek_done c.args.held c.args.bytes.now c.loop-next.at c.loop-next.next c.loop-next.invariant c.loop-next-test.false
