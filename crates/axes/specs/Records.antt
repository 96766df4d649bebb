-- Document 01, "The areas": "Eight axis records, lent by the motion board"; with another count, refusal 5: "not eight axis records".
use Rattle.std.specs.Prelude.{List, pos, replicate, Option, Some, None}
use Rattle.points.specs.Units.{position}
use Rattle.axes.specs.declared.AxisRecord.{AxisRecord}

-- "status (0 to 255), sensor (0 to 15), error code (0 to 4,095), encoder (0 to 255), position (signed 32 bits)": a record of zeros
abbrev pub zero_record : AxisRecord
zero_record = record { status = 0; sensor = 0; error = 0; encoder = 0; position = position (pos 0) }

-- the records that are lent, or none where there are not eight of them
abbrev pub Axes : Type 0
Axes = Option (List AxisRecord)

-- "Eight axis records": the records as they stand
abbrev pub eight_axes : List AxisRecord → Axes
eight_axes records = Some records

-- "not eight axis records" (refusal 5)
abbrev pub no_axes : Axes
no_axes = None

-- the records; zeros stand for them where there are not eight
abbrev pub records_of : Axes → List AxisRecord
records_of None = replicate 8 zero_record
records_of (Some records) = records
