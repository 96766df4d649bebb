use Rattle.std.proofs.Common.{rules}
use Rattle.writes.proofs.Spans.{span}
use Rattle.writes.proofs.write_points.Goals as goal

pub write-requires-clause-takes : goal.write-requires-clause-takes
write-requires-clause-takes c = λ p e. let l = span c.requires.ready in search rules
