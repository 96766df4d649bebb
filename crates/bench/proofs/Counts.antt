-- What the finder says of the numbers of what it found in the bytes that are there.
use Rattle.std.proofs.Common.{◌≡◌, ℕ, ◌≤◌, List, length, take, sym, ◌∙◌, subst}
use lib.Seq.{length-take-le}
use Rattle.finder.specs.declared.Found.{Found}
use Rattle.finder.specs.Find.{find_in}
use Rattle.finder.proofs.Finding.{Within, within}

pub counts : {have : ℕ} {f g : Found} (line : List ℕ) → have ≤ length line → f ≡ find_in (take have line) → f ≡ g → Within g have
counts {have} {f} {g} line h e k =
    subst (Within g) (length-take-le have line h) (subst (λ (x : Found). Within x (length (take have line))) (sym e ∙ k) (within (take have line)))
