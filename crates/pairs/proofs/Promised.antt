-- The laws of specs/Laws.antt.
use Prim.Native.Nat.{ℕ}
use mathlib.Core.List.{List, [], ◌∷◌}
use native.Mathlib.Omega.{arith}
use Rattle.pairs.specs.Laws.{EveryDigit, HighFirst}
use Rattle.pairs.proofs.Paired.{digits_back}

pub every_digit : (s : List ℕ) → EveryDigit s
every_digit s pairs e a = digits_back pairs s e a

pub high_first : HighFirst
high_first (a ∷ b ∷ c ∷ d ∷ e ∷ f ∷ g ∷ h ∷ []) l = omega arith
high_first [] l = absurd (omega arith)
high_first (a ∷ []) l = absurd (omega arith)
high_first (a ∷ b ∷ []) l = absurd (omega arith)
high_first (a ∷ b ∷ c ∷ []) l = absurd (omega arith)
high_first (a ∷ b ∷ c ∷ d ∷ []) l = absurd (omega arith)
high_first (a ∷ b ∷ c ∷ d ∷ e ∷ []) l = absurd (omega arith)
high_first (a ∷ b ∷ c ∷ d ∷ e ∷ f ∷ []) l = absurd (omega arith)
high_first (a ∷ b ∷ c ∷ d ∷ e ∷ f ∷ g ∷ []) l = absurd (omega arith)
high_first (a ∷ b ∷ c ∷ d ∷ e ∷ f ∷ g ∷ h ∷ i ∷ s) l = absurd (omega arith)
