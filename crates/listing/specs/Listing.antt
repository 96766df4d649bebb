-- Document 01, "Each message", 209H, and source document 000, section 4-3-5: the effective points of a run, listed.
use Rattle.std.specs.Prelude.{ℕ, zero, suc, ◌-◌, cond, List, [], ◌∷◌, ◌++◌, leb, eqb, length, drop, get_or}
use Rattle.digits.specs.Digits.{digits_of}
use Rattle.points.specs.Point.{point_in, point_digits}

-- a listed point: its number in three digits, then its own digits (4-3-5)
abbrev pub listing : ℕ → List ℕ → List ℕ
listing number slot = digits_of 3 number ++ point_digits (point_in slot)

-- "209H lists, rising, the effective points among start to start+count-1, as many leading ones as keep the reply" within so many digits
unfoldable pub listed : ℕ → ℕ → ℕ → List ℕ → List (List ℕ)
listed room zero number slots = []
listed room (suc count) number slots =
    cond (eqb (get_or slots 0 0) 0) (listed room count (suc number) (drop 40 slots))
    (cond (leb (length (listing number slots)) room)
    (listing number slots ∷ listed (room - length (listing number slots)) count (suc number) (drop 40 slots))
    [])

abbrev pub joined : List (List ℕ) → List ℕ
joined [] = []
joined (s ∷ ss) = s ++ joined ss
