-- Document 01, "The areas": "C hands them over as 72 bytes, nine a record: 1, 1, 2, 1 and 4 bytes in that order, high byte first".
use Rattle.std.specs.Prelude.{ℕ, zero, suc, cond, List, [], ◌∷◌, eqb, length, drop, get_or}
use Rattle.std.specs.Int.{w32}
use Rattle.std.proofs.Common.{to_z}
use Rattle.areas.specs.Bytes.{two_at, four_at}
use Rattle.points.specs.Units.{position}
use Rattle.axes.specs.declared.AxisRecord.{AxisRecord}
use Rattle.axes.specs.Records.{Axes, eight_axes, no_axes}

-- "nine a record": status (1), sensor (1), error code (2), encoder (1), position (4, signed), "high byte first"
unfoldable pub record_in : List ℕ → AxisRecord
record_in bytes =
    record {
      status = get_or bytes 0 0;
      sensor = get_or bytes 1 0;
      error = two_at bytes 2;
      encoder = get_or bytes 4 0;
      position = position (to_z w32 (four_at bytes 5));
    }

-- so many records, one behind the other, axis 1 first ("as one run of records")
unfoldable pub records_in : ℕ → List ℕ → List AxisRecord
records_in zero bytes = []
records_in (suc axes) bytes = record_in bytes ∷ records_in axes (drop 9 bytes)

-- "72 bytes [..]; another length is refusal 5"
abbrev pub axes_in : List ℕ → Axes
axes_in bytes = cond (eqb (length bytes) 72) (eight_axes (records_in 8 bytes)) no_axes
