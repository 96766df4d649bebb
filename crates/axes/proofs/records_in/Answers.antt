use mathlib.Core.Path.{refl, sym, ◌∙◌}
use native.Mathlib.Omega.{arith}
use borrow.Author.Rules.{rules}
use lib.ListN.{length-set}
use Rattle.axes.proofs.Reading.{records_next, records_done}
use Rattle.axes.proofs.records_in.Goals as goal

pub loop-next-init : goal.loop-next-init
loop-next-init c = (rw c.no_records-records.ensures, refl)

pub loop-next-preserved : goal.loop-next-preserved
loop-next-preserved c =
    let a = c.args in
    (simp length-set c.loop-next.invariant.0, records_next a.bytes.now c.loop-next.next c.loop-next.records _ (omega arith) c.loop-next.invariant.0 c.record_at.ensures ∙ c.loop-next.invariant.1)

pub returns : goal.returns
returns c =
    sym (records_done c.loop-next.records c.loop-next.next _ c.loop-next.invariant.0 (omega arith)) ∙ c.loop-next.invariant.1
