use Rattle.std.proofs.Common.{◌≡◌, true, ◌*◌, ◌≤◌, length}
use Rattle.std.specs.Iterator.Adapters.{zip_first, zip_second}
use Rattle.std.specs.Slice.Iter.{chunks_exact_rest, chunks_exact_size}
use Rattle.digits.specs.Digits.{all_digits}
use Rattle.points.specs.Axes.{axes_of}
use Rattle.points.specs.Point.{positions_of}
use Rattle.points.proofs.Filled.{fill_axes}
use Rattle.points.proofs.reading.read_positions.Given as goal

abbrev pub invariant-loop-axis : goal.invariant-loop-axis
invariant-loop-axis l =
    let axes = axes_of (zip_first l.axis-iterator).rest in
    let left = chunks_exact_rest (zip_second l.axis-iterator) in
    (chunks_exact_size (zip_second l.axis-iterator) ≡ 8) × (8 * length axes ≤ length left) × (all_digits left ≡ true) × (length l.positions ≡ 8) × (fill_axes axes left l.positions ≡ positions_of 8 l.pattern l.digits)
