use mathlib.Core.Path.{◌≡◌}
use lib.ListN.{drop}
use Rattle.refusals.specs.Refusals.{records_fit}
use Rattle.refusals.proofs.fits_records.Given as goal

abbrev pub invariant-loop-record : goal.invariant-loop-record
invariant-loop-record l = records_fit (drop l.record-index l.record-items) ≡ records_fit l.record-items
