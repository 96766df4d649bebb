use Rattle.std.proofs.Common.{length}
use Rattle.vectors.proofs.play_all.Given as goal

abbrev pub decreases-loop-operation : goal.decreases-loop-operation
decreases-loop-operation g l = length l.rest
