use Rattle.std.proofs.Common.{inl, inr}
use Rattle.bench.proofs.Counts.{counts}
use Rattle.bench.proofs.go_on.Goals as goal

pub copy_within-requires-clause-start_le_end : goal.copy_within-requires-clause-start_le_end
copy_within-requires-clause-start_le_end g c = (counts c.args.line.now c.requires c.find-found.ensures c.in-Frame.is).1

pub overflow_sub-result : goal.overflow_sub-result
overflow_sub-result g c = (counts c.args.line.now c.requires c.find-found.ensures c.in-Frame.is).1

pub copy_within-requires-in-TooLong-clause-start_le_end : goal.copy_within-requires-in-TooLong-clause-start_le_end
copy_within-requires-in-TooLong-clause-start_le_end g c = counts c.args.line.now c.requires c.find-found.ensures c.in-TooLong.is

pub overflow_sub-result-in-TooLong : goal.overflow_sub-result-in-TooLong
overflow_sub-result-in-TooLong g c = counts c.args.line.now c.requires c.find-found.ensures c.in-TooLong.is

pub pull-requires : goal.pull-requires
pull-requires g c =
    (elim c.in-Nothing.is [ inl e ↦ counts c.args.line.now c.requires c.find-found.ensures e | inr e ↦ counts c.args.line.now c.requires c.find-found.ensures e ], c.requires)
