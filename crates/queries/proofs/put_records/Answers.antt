use Prim.Native.Nat.{ℕ}
use mathlib.Core.Path.{sym, ap, ◌∙◌}
use mathlib.Core.List.{List}
use native.Mathlib.Omega.{arith}
use lib.ListN.{length}
use Rattle.digits.specs.Laid.{laid}
use Rattle.points.specs.Axes.{axes_of}
use Rattle.queries.specs.Replies.{records_digits}
use Rattle.queries.proofs.Recorded.{record_next, record_done}
use Rattle.queries.proofs.put_records.Goals as goal

pub loop-axis-preserved : goal.loop-axis-preserved
loop-axis-preserved c =
    let l = c.loop-axis in
    let next = c.in-Some.ensures.steps in
    let many = ap length next in
    let laid_here = record_next c.in-Some.axis l.to (axes_of c.next.new.self.rest) l.reply _ c.args.records (omega arith) c.put_record.ensures in
    let same = ap (λ (axes : List ℕ). laid l.reply l.to (records_digits axes c.args.records)) (sym next) in
    (omega (arith, c.put_record.auto.reply), laid_here ∙ same ∙ l.invariant.1, c.put_record.auto.reply ∙ l.invariant.2)

pub returns : goal.returns
returns c =
    let l = c.loop-axis in
    sym (record_done l.to l.reply c.args.records) ∙ ap (λ (axes : List ℕ). laid l.reply l.to (records_digits axes c.args.records)) (sym c.in-None.ensures.steps.0) ∙ l.invariant.1
