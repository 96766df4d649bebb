-- Document 01, "The areas": the eight axis records, "lent by the motion board as one run of records".
use Rattle.std.specs.Prelude.{cond, List, eqb, length}
use Rattle.axes.specs.declared.AxisRecord.{AxisRecord}
use Rattle.axes.specs.Records.{Axes, eight_axes, no_axes}

-- the axes "lent by the motion board as one run of records": a run of eight, or not eight
abbrev pub lent_axes : List AxisRecord → Axes
lent_axes records = cond (eqb (length records) 8) (eight_axes records) no_axes
