use Prim.Native.Nat.{ℕ, ◌+◌, ◌-◌, ◌≤◌}
use mathlib.Core.Path.{◌≡◌, sym, ap, ◌∙◌}
use native.Mathlib.Omega.{arith}
use lib.ListN.{length, take, drop}
use lib.Seq.{length-take-le}
use Rattle.digits.specs.Digits.{number_of}
use Rattle.digits.proofs.Inverse.{inverse}
use Rattle.points.specs.Point.{length_of}
use Rattle.points.proofs.Parts.{all_drop}
use Rattle.points.proofs.Measured.{least, fills_next, fills_front, rest_of_lem}
use Rattle.table.specs.Table.{pattern_fits}
use Rattle.contents.proofs.Patterns.{patterns_next, patterns_stop, patterns_done}
use Rattle.contents.proofs.fit_patterns.Goals as goal

pub slice_bounds-small-end : goal.slice_bounds-small-end
slice_bounds-small-end c =
    let front : length_of c.loop.rest.now ≤ length c.loop.rest.now = fills_front (c.args.count - c.loop.counter) _ (omega arith) c.loop.invariant.1 in
    sym (length-take-le 2 c.loop.rest.now (omega (arith, front, least c.loop.rest.now)))

pub overflow_cast-pattern : goal.overflow_cast-pattern
overflow_cast-pattern c =
    let rest = c.loop.rest.now in
    let front : length_of rest ≤ length rest = fills_front (c.args.count - c.loop.counter) _ (omega arith) c.loop.invariant.1 in
    let two = length-take-le 2 rest (omega (arith, front, least rest)) in
    omega (arith, c.small-pattern.ensures.0, (inverse 2).bound (take 2 rest) two)

pub returns-then-not-fits_pattern : goal.returns-then-not-fits_pattern
returns-then-not-fits_pattern c =
    let fits : c.fits_pattern.result ≡ pattern_fits c.args.fitted (number_of (take 2 c.loop.rest.now)) = c.fits_pattern.ensures ∙ rw c.small-pattern.ensures.0 in
    sym (patterns_stop c.args.fitted (c.args.count - c.loop.counter) c.loop.rest.now (omega arith) (sym fits ∙ c.if-not-fits_pattern.true)) ∙ c.loop.invariant.2

pub point_length-requires : goal.point_length-requires
point_length-requires c =
    let front : length_of c.loop.rest.now ≤ length c.loop.rest.now = fills_front (c.args.count - c.loop.counter) _ (omega arith) c.loop.invariant.1 in
    (omega (arith, front, least c.loop.rest.now), c.loop.invariant.0)

pub slice_bounds-rest-count : goal.slice_bounds-rest-count
slice_bounds-rest-count c =
    let front : length_of c.loop.rest.now ≤ length c.loop.rest.now = fills_front (c.args.count - c.loop.counter) _ (omega arith) c.loop.invariant.1 in
    omega (arith, c.point_length.ensures, front)

pub slice_bounds-rest-start : goal.slice_bounds-rest-start
slice_bounds-rest-start c =
    let front : length_of c.loop.rest.now ≤ length c.loop.rest.now = fills_front (c.args.count - c.loop.counter) _ (omega arith) c.loop.invariant.1 in
    omega (arith, c.point_length.ensures, front)

pub loop-preserved : goal.loop-preserved
loop-preserved c =
    let rest = c.loop.rest.now in
    let front : length_of rest ≤ length rest = fills_front (c.args.count - c.loop.counter) rest (omega arith) c.loop.invariant.1 in
    let behind : take (length rest - c.point_length.result) (drop c.point_length.result rest) ≡ drop (length_of rest) rest =
    rest_of_lem c.point_length.result rest ∙ ap (λ (n : ℕ). drop n rest) c.point_length.ensures in
    let left : c.args.count - c.loop.counter - 1 ≡ c.args.count - (c.loop.counter + 1) = omega arith in
    let fits : c.fits_pattern.result ≡ pattern_fits c.args.fitted (number_of (take 2 rest)) = c.fits_pattern.ensures ∙ rw c.small-pattern.ensures.0 in (
      rw behind (all_drop (length_of rest) rest c.loop.invariant.0),
      rw (behind, ← left) (sym (fills_next (c.args.count - c.loop.counter) rest (omega arith) front) ∙ c.loop.invariant.1),
      rw (behind, ← left) (sym (patterns_next c.args.fitted (c.args.count - c.loop.counter) rest (omega arith) (sym fits ∙ c.if-not-fits_pattern.false)) ∙ c.loop.invariant.2),
    )

pub returns : goal.returns
returns c =
    sym (patterns_done c.args.fitted (c.args.count - c.loop.counter) c.loop.rest.now (omega arith)) ∙ c.loop.invariant.2
