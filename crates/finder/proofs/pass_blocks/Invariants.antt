use Rattle.std.proofs.Common.{◌≡◌}
use Rattle.std.specs.Slice.Iter.{chunks_exact_rest, chunks_exact_size}
use Rattle.finder.proofs.Blocks.{Passed}
use Rattle.finder.proofs.pass_blocks.Given as goal

abbrev pub invariant-loop-block : goal.invariant-loop-block
invariant-loop-block l = record {
  size : chunks_exact_size l.block-iterator ≡ 64;
  passed : Passed l.b l.s l.passed (chunks_exact_rest l.block-iterator);
}
