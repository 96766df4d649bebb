-- Document 01, "Refusal numbers, in the order tested": how a list of rows gives one number.
use Rattle.std.specs.Prelude.{ℕ, Bool, cond, List, [], ◌∷◌}

-- a line of the table: the number, and when it is given
pub record Row : Type 0 where
  pub number : ℕ
  pub holds : Bool

infixl 20 ◌when◌
abbrev pub ◌when◌ : ℕ → Bool → Row
n when b = record { number = n; holds = b }

-- "Each is given exactly when its condition holds and none earlier does. An accepted call has number 0."
abbrev pub first_of : List Row → ℕ
first_of [] = 0
first_of (r ∷ rs) = cond r.holds r.number (first_of rs)
