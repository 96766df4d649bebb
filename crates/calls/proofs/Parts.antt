-- Areas by their parts.
use Prim.Native.Nat.{ℕ}
use mathlib.Core.Path.{◌≡◌}
use mathlib.Core.List.{List}
use Rattle.kinds.specs.declared.Firsts.{Firsts}
use Rattle.calls.specs.declared.Kept.{Kept}
use Rattle.calls.specs.Calls.{areas_of}

-- areas of equal parts
pub equal_parts : {p p' c c' n n' f f' j j' : List ℕ} {k k' : Kept} {s : Firsts} → p ≡ p' → c ≡ c' → n ≡ n' → f ≡ f' → j ≡ j' → k.used ≡ k'.used
    → k.effective ≡ k'.effective → areas_of p c n f j k s ≡ areas_of p' c' n' f' j' k' s
equal_parts {s = s} p c n f j u v =
    λ i. record { points = p i; columns = c i; integers = n i; flags = f i; journal = j i; kept = record { used = u i; effective = v i }; firsts = s }
