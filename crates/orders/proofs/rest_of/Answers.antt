use mathlib.Core.Path.{ap, ◌∙◌}
use native.Mathlib.Omega.{arith}
use lib.ListN.{length, drop}
use Rattle.digits.proofs.Laid.{part_rest}
use Rattle.table.specs.Table.{fields_of}
use Rattle.orders.proofs.rest_of.Goals as goal

pub slice_bounds-result-count : goal.slice_bounds-result-count
slice_bounds-result-count c = omega (arith, c.requires.2, ap length c.content-body.ensures)

pub slice_bounds-result-start : goal.slice_bounds-result-start
slice_bounds-result-start c = omega (arith, c.requires.2, ap length c.content-body.ensures)

pub returns : goal.returns
returns c = let m = c.args.m in part_rest c.content-body.result.now (fields_of m) ∙ ap (drop (fields_of m)) c.content-body.ensures
