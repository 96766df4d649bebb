-- What is promised of sums and replies, over all bytes. The proofs are in proofs/Promised.antt.
use Rattle.std.specs.Prelude.{◌≡◌, ℕ, ◌+◌, ◌≤◌, true, false, ◌↔◌, List, [], ◌∷◌, length, drop, slice_index_or}
use Rattle.digits.specs.Digits.{capitals, admitted, digits_of}
use Rattle.digits.specs.Text.{text}
use Rattle.frames.specs.declared.checks.Sum.TheVariants.{True, SwitchedOff, Wrong}
use Rattle.frames.specs.Frame.{station_in, message_in, beforeSC, sc_in, sc_of, has_testID, sum_true, sum_off, sum_said, reply_of, CR, LF}

-- Frame: "SC is the low byte of the sum of all bytes before it, as two digits": in four bytes or more, an SC is true just where its two bytes are admitted
-- and are, in capitals, those digits (02, l)
abbrev pub TrueSC : ℕ → List ℕ → Type 0
TrueSC release frame =
    4 ≤ length frame → (sum_true release frame ≡ true) ↔ ((admitted release (sc_in frame) ≡ true) × (capitals (sc_in frame) ≡ sc_of (beforeSC frame)))

-- 02, f: the SC is switched off just where it is '@@', and each answer of the sum test is given just where its own condition holds
pub record OneOfThree (release : ℕ) (frame : List ℕ) : Type 0 where
  pub off : (sum_off frame ≡ true) ↔ (sc_in frame ≡ text "@@")
  pub says_true : (sum_said release frame ≡ True) ↔ (sum_true release frame ≡ true)
  pub says_off : (sum_said release frame ≡ SwitchedOff) ↔ (sum_off frame ≡ true)
  pub says_wrong : (sum_said release frame ≡ Wrong) ↔ ((sum_true release frame ≡ false) × (sum_off frame ≡ false))

-- 02, c: a frame is a test call just where its ID is '200', and not where fewer bytes are there
abbrev pub TestID : List ℕ → Type 0
TestID frame = (has_testID frame ≡ true) ↔ (message_in frame ≡ text "200")

-- Frame: "Replies start '#', or '&' for an error, and always carry a true SC", never '@@'
pub record Reply (header station : ℕ) (rest : List ℕ) : Type 0 where
  pub starts : slice_index_or (reply_of header station rest) 0 0 ≡ header
  pub says : station_in (reply_of header station rest) ≡ digits_of 2 station
  pub is_true : (release : ℕ) → sum_true release (reply_of header station rest) ≡ true
  pub is_on : sum_off (reply_of header station rest) ≡ false
  pub ends : drop (length rest + 5) (reply_of header station rest) ≡ CR ∷ LF ∷ []
  pub as_long : length (reply_of header station rest) ≡ length rest + 7
