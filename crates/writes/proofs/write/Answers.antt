use Rattle.writes.proofs.Spans.{span}
use Rattle.writes.proofs.write.Goals as goal

pub part-requires : goal.part-requires
part-requires g c = let l = span c.requires.ready in (l.first, l.inside)

pub add-left-requires-clause-good : goal.add-left-requires-clause-good
add-left-requires-clause-good g c = rw c.part.ensures.value (span c.requires.ready).entry
