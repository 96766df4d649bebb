-- Document 01, "Each message", 24EH and 210H: "one byte for each", "two digits for each column": bytes as pairs of digits, and back; so 24CH, 20EH and
-- 20DH (02, a).
use Rattle.std.specs.Prelude.{ℕ, List, [], ◌∷◌, ◌++◌}
use Rattle.digits.specs.Digits.{number_of, digits_of}

-- the bytes that pairs of digits write
abbrev pub bytes_in : List ℕ → List ℕ
bytes_in [] = []
bytes_in (a ∷ []) = []
bytes_in (a ∷ b ∷ digits) = number_of (a ∷ b ∷ []) ∷ bytes_in digits

-- two digits for each byte
abbrev pub digits_in : List ℕ → List ℕ
digits_in [] = []
digits_in (b ∷ bytes) = digits_of 2 b ++ digits_in bytes
