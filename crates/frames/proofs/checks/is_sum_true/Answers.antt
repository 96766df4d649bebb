use native.Mathlib.Nat.{add-sub_cancel_left}
use Rattle.std.proofs.Common.{sym, ◌∙◌, arith, length-take-le}
use Rattle.frames.specs.Frame.{sum_true}
use Rattle.frames.proofs.checks.is_sum_true.Goals as goal

pub slice_bounds-sum-end : goal.slice_bounds-sum-end
slice_bounds-sum-end c = sym (length-take-le _ _ (omega arith))

pub returns : goal.returns
unfolding sum_true
returns c = c.is_number.ensures ∙ rw (add-sub_cancel_left, c.sum.ensures)
