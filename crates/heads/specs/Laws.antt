-- What a reply to a query leaves: its length, and every byte of the reply area.
use Rattle.std.specs.Prelude.{ℕ, ◌≡◌, List, length}
use Rattle.digits.specs.Laid.{laid}
use Rattle.frames.specs.Frame.{reply_of, normal}

-- "In a normal reply the reply area beyond it stays."
pub record Replied (reply reply' : List ℕ) (long station : ℕ) (text : List ℕ) : Type 0 where
  pub length_is : long ≡ length (reply_of normal station text)
  pub bytes : reply' ≡ laid reply 0 (reply_of normal station text)
