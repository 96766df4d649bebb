use mathlib.Core.Path.{refl, sym, ◌∙◌}
use native.Mathlib.Omega.{arith}
use Rattle.refusals.proofs.Tested.{records_next, records_sensor, records_error, records_done}
use Rattle.refusals.proofs.fits_records.Goals as goal
use Rattle.refusals.proofs.fits_records.Goals.{then-record-gt15-via-then-record-gt15, then-record-gt15-via-else-record-gt15+then-record-gt4095}

pub loop-record-init : goal.loop-record-init
loop-record-init c = refl

pub returns-then-record-gt15 : goal.returns-then-record-gt15
returns-then-record-gt15 c =
    let i = c.loop-record.record-index in
    sym (elim c.then-record-gt15.branch [
      | then-record-gt15-via-then-record-gt15 w ↦ records_sensor c.args.records i (omega arith) w.if-record-gt15.true
      | then-record-gt15-via-else-record-gt15+then-record-gt4095 w ↦ records_error c.args.records i (omega arith) w.if-record-gt15.false w.if-record-gt4095.true
    ]) ∙ c.loop-record.invariant

pub loop-record-preserved : goal.loop-record-preserved
loop-record-preserved c =
    sym (records_next c.args.records c.loop-record.record-index (omega arith) c.if-record-gt15.false c.if-record-gt4095.false) ∙ c.loop-record.invariant

pub returns : goal.returns
returns c =
    sym (records_done c.args.records c.loop-record.record-index (omega arith)) ∙ c.loop-record.invariant
