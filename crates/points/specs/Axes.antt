-- Document 01: "Fitted axes: a non-zero byte, bit 0 for axis 1"; a pattern names axes the same way.
use Rattle.std.specs.Prelude.{ℕ, zero, suc, ◌/◌, ◌%◌, cond, List, [], ◌∷◌, eqb}

-- the axes of the next so many bits, counted from one axis on, lowest first
unfoldable pub axes_from : ℕ → ℕ → ℕ → List ℕ
axes_from zero axis pattern = []
axes_from (suc bits) axis pattern = cond (eqb (pattern % 2) 1) (axis ∷ axes_from bits (suc axis) (pattern / 2)) (axes_from bits (suc axis) (pattern / 2))

-- the axes of a pattern, lowest first, axis 1 as 0
unfoldable pub axes_of : ℕ → List ℕ
axes_of pattern = axes_from 8 0 pattern
