use Prim.Native.Nat.{◌+◌, ◌*◌, ◌≤◌}
use mathlib.Core.Path.{◌≡◌}
use lib.ListN.{length}
use Rattle.digits.specs.Laid.{laid}
use Rattle.points.specs.Axes.{axes_of}
use Rattle.queries.specs.Replies.{records_digits}
use Rattle.queries.proofs.put_records.Given as goal

abbrev pub invariant-loop-axis : goal.invariant-loop-axis
invariant-loop-axis l =
    let axes = axes_of l.axis-iterator.rest in
    (l.to + 16 * length axes ≤ length l.reply) × (laid l.reply l.to (records_digits axes l.records) ≡ laid l.initial.reply l.at (records_digits (axes_of l.pattern) l.records)) × (length l.reply ≡ length l.initial.reply)
