-- Document 02, request a, and section 4-3-8 of source document 000: flags as a 20DH shows them, eight to a byte.
use Rattle.std.specs.Prelude.{ℕ, zero, suc, ◌+◌, ◌*◌, ◌/◌, ◌%◌, ◌^◌, cond, List, [], ◌∷◌, eqb, get_or}

-- a flag is on where its byte isn't 00: 1 where it is on, else 0
abbrev pub on_of : ℕ → ℕ
on_of flag = cond (eqb flag 0) 0 1

-- so many flags as the bits of a number, the first in bit 0; where there are fewer, the bits beyond them are 0
unfoldable pub bits_of : ℕ → List ℕ → ℕ
bits_of zero flags = 0
bits_of (suc many) [] = 0
bits_of (suc many) (flag ∷ flags) = on_of flag + 2 * bits_of many flags

-- a byte for each eight flags begun, where so many flags of the present eight are still to be passed
unfoldable pub eights : ℕ → List ℕ → List ℕ
eights left [] = []
eights zero (flag ∷ flags) = bits_of 8 (flag ∷ flags) ∷ eights 7 flags
eights (suc left) (flag ∷ flags) = eights left flags

-- the bit of a flag in such bytes, by its place among the flags
abbrev pub bit_at : ℕ → List ℕ → ℕ
bit_at place bytes = get_or bytes (place / 8) 0 / 2 ^ (place % 8) % 2
