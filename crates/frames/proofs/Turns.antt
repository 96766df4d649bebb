-- The running sum, and the bytes of an SC.
use Rattle.std.proofs.Common.{◌≡◌, ℕ, ◌+◌, ◌%◌, [], ◌∷◌, ◌<◌, List, get_or, take, drop, ◌∙◌, add-zero, arith, get_or-drop, get_or-take}
use Rattle.std.specs.List.{fold}
use Rattle.frames.specs.Frame.{sum_of}

-- the bytes of an SC, where they stand in the frame
pub sc_first : (f : List ℕ) (n : ℕ) → get_or (take 2 (drop n f)) 0 0 ≡ get_or f n 0
sc_first f n = get_or-take 2 (drop n f) 0 0 (omega arith) ∙ get_or-drop n f 0 0 ∙ rw (add-zero n)

pub sc_second : (f : List ℕ) (n : ℕ) → get_or (take 2 (drop n f)) 1 0 ≡ get_or f (n + 1) 0
sc_second f n = get_or-take 2 (drop n f) 1 0 (omega arith) ∙ get_or-drop n f 1 0

-- the running sum, from a sum so far below 256
pub folded : (n : ℕ) (s : List ℕ) → n < 256 → fold (λ (total b : ℕ). (total + b) % 256) n s ≡ (n + sum_of s) % 256
folded n [] h = omega arith
folded n (b ∷ s) h = folded ((n + b) % 256) s (omega arith) ∙ omega arith
