use Prim.Native.Nat.{◌+◌, ◌*◌, ◌≤◌}
use mathlib.Core.Path.{◌≡◌}
use lib.ListN.{length}
use Rattle.digits.specs.Laid.{laid}
use Rattle.points.specs.Axes.{axes_of}
use Rattle.points.specs.Point.{position_digits}
use Rattle.listing.proofs.put_positions.Given as goal

abbrev pub invariant-loop-axis : goal.invariant-loop-axis
invariant-loop-axis l =
    let axes = axes_of l.axis-iterator.rest in
    (l.to + 8 * length axes ≤ length l.reply) × (laid l.reply l.to (position_digits axes l.positions) ≡ laid l.initial.reply l.at (position_digits (axes_of l.pattern) l.positions)) × (length l.reply ≡ length l.initial.reply)
