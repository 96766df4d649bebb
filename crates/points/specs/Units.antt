-- Document 01, "The areas": "positions in 0.001 mm, accelerations in 0.01 G, speeds in mm/sec. The program keeps these apart."
use Rattle.std.specs.Prelude.{ℕ, ℤ}
use Rattle.points.specs.declared.units.Position.{Position}
use Rattle.points.specs.declared.units.Acceleration.{Acceleration}
use Rattle.points.specs.declared.units.Speed.{Speed}

abbrev pub position : ℤ → Position
position z = record { 0 = z }

abbrev pub acceleration : ℕ → Acceleration
acceleration n = record { 0 = n }

abbrev pub speed : ℕ → Speed
speed n = record { 0 = n }
