use Prim.Native.Nat.{◌-◌, ◌*◌}
use mathlib.Core.Path.{◌≡◌}
use mathlib.Core.List.{◌++◌}
use lib.ListN.{length, take, drop}
use Rattle.axes.specs.Axes.{records_in}
use Rattle.axes.proofs.records_in.Given as goal

abbrev pub invariant-loop-next : goal.invariant-loop-next
invariant-loop-next l = (length l.records ≡ 8) × (take l.next l.records ++ records_in (8 - l.next) (drop (l.next * 9) l.bytes) ≡ records_in 8 l.bytes)
