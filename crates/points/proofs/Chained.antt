-- Five fields laid one behind the other.
use Prim.Native.Nat.{ℕ, ◌+◌, ◌≤◌}
use mathlib.Core.Path.{◌≡◌, ap}
use mathlib.Core.List.{List, ◌++◌, append_assoc}
use native.Mathlib.Omega.{arith}
use lib.ListN.{length, length-append}
use Rattle.digits.specs.Laid.{laid}
use Rattle.digits.proofs.Laid.{laid_on}

pub chain : (d v w x y z : List ℕ) (at b c e f : ℕ) → at ≤ length d → at + length v ≡ b → b + length w ≡ c → c + length x ≡ e → e + length y ≡ f
    → laid (laid (laid (laid (laid d at v) b w) c x) e y) f z ≡ laid d at (v ++ (w ++ (x ++ (y ++ z))))
chain d v w x y z at b c e f h p q r s =
    let q' : at + length (v ++ w) ≡ c = simp length-append (omega arith) in
    let r' : at + length ((v ++ w) ++ x) ≡ e = simp length-append (omega arith) in
    let s' : at + length (((v ++ w) ++ x) ++ y) ≡ f = simp length-append (omega arith) in
    rw (laid_on d v w at b p h, laid_on d (v ++ w) x at c q' h, laid_on d ((v ++ w) ++ x) y at e r' h, laid_on d (((v ++ w) ++ x) ++ y) z at f s' h)
    (ap (laid d at) (simp append_assoc))
