-- Document 01, "Each message", and document 02, request b: what a normal reply says after its station; source document 000, sections 4-3-2, 4-3-4, 4-3-5
-- and 4-3-12.
use Rattle.std.specs.Prelude.{ℕ, List, [], ◌∷◌, ◌++◌, length, get_or}
use Rattle.std.specs.Int.{w32}
use Rattle.std.proofs.Common.{of_z}
use Rattle.digits.specs.Digits.{digits_of}
use Rattle.axes.specs.declared.AxisRecord.{AxisRecord}
use Rattle.axes.specs.Records.{zero_record}
use Rattle.points.specs.Axes.{axes_of}
use Rattle.listing.specs.Listing.{listed, joined}
use Rattle.table.specs.declared.Message.{Message}
use Rattle.heads.specs.Heads.{id_of}

-- 200H: "ten bytes, returned unchanged"
abbrev pub same_text : Message → List ℕ → List ℕ
same_text m content = id_of m ++ content

-- 208H: "Only 208H trusts the kept count" (02, b), in three digits (4-3-4)
abbrev pub count_text : Message → ℕ → List ℕ
count_text m effective = id_of m ++ digits_of 3 effective

-- "within 1,024 bytes": thirteen of them are header, station, ID, count, SC, CR and LF; "and its count is the number listed"
abbrev pub list_text : Message → ℕ → ℕ → List ℕ → List ℕ
list_text m start count slots = id_of m ++ (digits_of 3 (length (listed 1011 count start slots)) ++ joined (listed 1011 count start slots))

-- 212H, for each axis: "status 2, sensor 1, error code 3, encoder 2, position 8"
abbrev pub record_digits : AxisRecord → List ℕ
record_digits r =
    digits_of 2 r.status
    ++ (digits_of 1 r.sensor ++ (digits_of 3 r.error ++ (digits_of 2 r.encoder ++ digits_of 8 (of_z w32 r.position.0))))

unfoldable pub records_digits : List ℕ → List AxisRecord → List ℕ
records_digits [] records = []
records_digits (axis ∷ axes) records = record_digits (get_or records axis zero_record) ++ records_digits axes records

-- the pattern "with unfitted axes removed, then per axis, lowest first"
abbrev pub axes_text : Message → ℕ → List AxisRecord → List ℕ
axes_text m pattern records = id_of m ++ (digits_of 2 pattern ++ records_digits (axes_of pattern) records)
