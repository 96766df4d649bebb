-- What is promised of pairs of digits. The proof is in proofs/Promised.antt.
use Rattle.std.specs.Prelude.{ℕ, ◌*◌, ◌≡◌, true, List, length}
use Rattle.digits.specs.Digits.{capitals, all_digits, number_of}
use Rattle.areas.specs.Bytes.{four_at}
use Rattle.pairs.specs.Pairs.{bytes_in, digits_in}

-- Demand 2, codes "survive writing and reading back with every digit": pairs of digits, as bytes and back, are the very digits in
-- capitals (02, l)
abbrev pub EveryDigit : List ℕ → Type 0
EveryDigit s = (pairs : ℕ) → length s ≡ 2 * pairs → all_digits s ≡ true → digits_in (bytes_in s) ≡ capitals s

-- "four bytes an integer, high byte first" (02, a): the four bytes of eight digits are the number that the digits write
abbrev pub HighFirst : Type 0
HighFirst = (s : List ℕ) → length s ≡ 8 → four_at (bytes_in s) 0 ≡ number_of s
