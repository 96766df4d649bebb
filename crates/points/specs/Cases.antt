-- Worked cases of points, in the documents' own strings. Proved by computing, in proofs/Worked.antt.
use Rattle.std.specs.Prelude.{ℕ, ◌≡◌, true, false, List, [], ◌∷◌, ◌++◌, negsuc, drop, replicate}
use Rattle.digits.specs.Text.{text}
use Rattle.points.specs.Units.{position}
use Rattle.points.specs.Axes.{axes_of}
use Rattle.points.specs.Point.{position_of, point_of, fills_of, slot_of, point_digits}

-- Bench listing, the second frame's point: axes 1 and 2, 0.30 G both, 100 mm/sec, 50.000 mm and -0.001 mm
abbrev pub bench_digits : List ℕ
bench_digits = text "03001E001E00640000C350FFFFFFFF"

pub record Cases : Type 0 where
  -- Proved cases, 10: position 80000000 is -2,147,483,648, and its eight digits come back
  pub least : position_of (text "80000000") ≡ position (negsuc 2147483647)
  pub least_back : drop 14 (point_digits (point_of (text "0100000000000080000000"))) ≡ text "80000000"
  pub minus_one : position_of (text "FFFFFFFF") ≡ position (negsuc 0)
  -- the bench listing's slot, byte for byte: pattern, 00, 30, 30, 100, 50,000, -1, and six positions of 0
  pub bench_slot :
      slot_of (point_of bench_digits)
      ≡ 0x03 ∷ 0x00 ∷ 0x00 ∷ 0x1E ∷ 0x00 ∷ 0x1E ∷ 0x00 ∷ 0x64 ∷ 0x00 ∷ 0x00 ∷ 0xC3 ∷ 0x50 ∷ 0xFF ∷ 0xFF ∷ 0xFF ∷ 0xFF ∷ replicate 24 0
  pub bench_digits_lem : point_digits (point_of bench_digits) ≡ bench_digits
  -- "each as long as its own pattern says": one axis and two axes, and not one digit more
  pub two_points_lem : fills_of 2 (text "0100000000000000000001" ++ bench_digits) ≡ true
  pub one_more_lem : fills_of 2 (text "0100000000000000000001" ++ (bench_digits ++ text "0")) ≡ false
  pub one_less : fills_of 3 (text "0100000000000000000001" ++ bench_digits) ≡ false
  -- axis 1 is bit 0, lowest first
  pub axes : axes_of 0x85 ≡ 0 ∷ 2 ∷ 7 ∷ []
