-- Document 02, request b: the effective points of a run.
use Rattle.std.specs.Prelude.{ℕ, cond, List, eqb}
use Rattle.kinds.specs.declared.Kind.{Kind}
use Rattle.kinds.specs.Kinds.{points_tag, run_of}
use Rattle.points.specs.Point.{effective_in}

-- "slots with a non-zero pattern" among those of a run; a run of another kind has none
abbrev pub effective_among : Kind → ℕ → ℕ → List ℕ → ℕ
effective_among k start count area = cond (eqb k.tag points_tag) (effective_in count (run_of k start count area)) 0
