use Prim.Native.Nat.{◌+◌, ◌<◌}
use mathlib.Core.Path.{ap, ◌∙◌}
use native.Mathlib.Omega.{arith}
use Rattle.journal.specs.Journal.{front_of}
use Rattle.digits.proofs.Laid.{part_rest}
use Rattle.journal.proofs.Walk.{part_whole}
use Rattle.journal.proofs.Codec.{Bytes}
use Rattle.journal.proofs.Keeping.{Cutting, cutting_first, cutting_next, cutting_done}
use Rattle.journal.proofs.cut.Goals as goal

pub loop-at-init : goal.loop-at-init
loop-at-init c = cutting_first c.args.held c.args.over c.args.bytes.now c.requires.2

pub entry_length-at-requires : goal.entry_length-at-requires
entry_length-at-requires c =
    let g = c.loop-at in
    part_whole c.args.held g.at c.args.bytes.now (omega (arith, c.loop-at-test.true, c.requires.1)) g.invariant.good

-- one entry more goes
turn : (c : goal.After-entry_length-at) → (c.loop-at.at < c.loop-at.at + c.entry_length-at.result)
    × Cutting c.args.held c.args.over c.args.bytes.now (c.loop-at.at + c.entry_length-at.result)
turn c =
    let g = c.loop-at in
    let is = c.entry_length-at.ensures ∙ ap (front_of c.args.held) (part_rest c.args.bytes.now g.at) in
    cutting_next c.args.held c.args.over c.args.bytes.now (λ i. (c.type_inv.bytes i).fits) g.at g.invariant c.entry_length-at.result is c.requires.1 c.loop-at-test.true

pub overflow_add-at : goal.overflow_add-at
overflow_add-at c = let t = turn c in omega arith

pub loop-at-smaller : goal.loop-at-smaller
loop-at-smaller c = let t = turn c in omega arith

pub loop-at-preserved : goal.loop-at-preserved
loop-at-preserved c = (turn c).1

pub returns : goal.returns
returns c =
    let g = c.loop-at in
    let bytes : Bytes c.args.bytes.now = λ i. (c.type_inv.bytes i).fits in (
      g.invariant.within,
      c.loop-at-test.false,
      cutting_done c.args.held c.args.over c.args.bytes.now bytes g.at g.invariant c.loop-at-test.false,
    )
