use mathlib.Core.Path.{◌≡◌, refl, sym, ap, ◌∙◌}
use mathlib.Core.Logic.{⊎_elim}
use native.Mathlib.Omega.{arith}
use lib.ListN.{length, length-append, length-set}
use Rattle.digits.specs.Digits.{all_digits}
use Rattle.digits.proofs.Inverse.{all_left, all_right}
use Rattle.points.specs.Axes.{axes_of}
use Rattle.points.proofs.Filled.{walk_first, walk_next, walk_done}
use Rattle.points.proofs.reading.read_positions.Goals as goal

pub loop-axis-init : goal.loop-axis-init
loop-axis-init c =
    rw (c.into_iter-axis-iterator.ensures.into_iter_gives, c.zip-axis-items.ensures.first, c.zip-axis-items.ensures.second, c.of.ensures, c.chunks_exact.ensures.rest, c.zero.ensures)
    (c.chunks_exact.ensures.size, c.requires.0, c.requires.1, refl, walk_first c.args.pattern c.args.digits.now)

pub read_position-requires : goal.read_position-requires
read_position-requires c =
    let chunk = c.in-Some.ensures.steps.1.1 in
    (chunk.1 ∙ c.loop-axis.invariant.0, all_left c.in-Some.field.now _ (ap all_digits (sym chunk.0) ∙ c.loop-axis.invariant.2))

pub loop-axis-preserved : goal.loop-axis-preserved
loop-axis-preserved c =
    let s = c.in-Some.ensures.steps in
    let i = c.loop-axis.invariant in
    let chunk = s.1.1 in
    let l = chunk.1 ∙ i.0 in
    let n = ap length s.0 in
    let m = ap length chunk.0 ∙ length-append c.in-Some.field.now _ in (
      s.1.0 ∙ i.0,
      omega arith,
      all_right c.in-Some.field.now _ (ap all_digits (sym chunk.0) ∙ i.2),
      simp length-set i.3,
      walk_next c.loop-axis.positions _ _ s.0 chunk.0 l c.read_position.ensures ∙ i.4,
    )

pub returns : goal.returns
returns c =
    let i = c.loop-axis.invariant in
    let none : length (axes_of c.loop-axis.axis-iterator.a.rest) ≡ 0 = ⊎_elim (λ e. ap length e.1.0) (λ e. let k = e.1.1.0 in omega arith) c.in-None.ensures.steps in
    sym (walk_done _ _ c.loop-axis.positions none) ∙ i.4
