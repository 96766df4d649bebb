-- The numbers of what is found.
use Prim.Native.Nat.{ℕ, ◌-◌}
use mathlib.Core.Path.{◌≡◌, refl, ap, ◌∙◌}
use mathlib.Core.List.{List}
use native.Mathlib.Omega.{arith}
use lib.ListN.{length, drop, length-drop}
use lib.Seq.{length-take-le}
use Rattle.finder.specs.declared.Found.{Found}
use Rattle.finder.specs.declared.Found.TheVariants.{Frame, Nothing, Wait, TooLong}
use Rattle.finder.specs.Find.{find_in, part_of, drop_of}
use Rattle.finder.proofs.Finding.{Within, within}
use Rattle.board.specs.Calls.{code_of, start_of, length_of, Receives}

-- the part is as long as it should be
part_long : (received : List ℕ) (f : Found) → Within f (length received) → length (part_of f received) ≡ length_of f
part_long received (Frame start used) w = length-take-le (used - start) (drop start received) (simp length-drop (omega (arith, w.0, w.1)))
part_long received (Nothing drop) w = refl
part_long received (Wait drop) w = refl
part_long received (TooLong drop) w = refl

-- what was found, by a case of it, with its part
pub received : {g f : Found} {part : List ℕ} (bytes : List ℕ) → g ≡ find_in bytes → f ≡ g → part ≡ part_of g bytes
    → Receives (find_in bytes) (code_of f) (start_of f) (length part) (drop_of f)
received {g} bytes e q p =
    let d = q ∙ e in
    record {
      code_is = ap code_of d;
      start_is = ap start_of d;
      length_is = ap length p ∙ ap (λ (x : Found). length (part_of x bytes)) e ∙ part_long bytes (find_in bytes) (within bytes);
      drop_is = ap drop_of d;
    }
