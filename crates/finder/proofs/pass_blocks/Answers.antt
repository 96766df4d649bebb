use Rattle.std.proofs.Common.{sym, ◌∙◌}
use Rattle.finder.proofs.Blocks.{block_passed}
use Rattle.finder.proofs.pass_blocks.Goals as goal

pub loop-block-preserved : goal.loop-block-preserved
loop-block-preserved c =
    let i = c.loop-block.invariant in
    let h = c.in-Some.ensures.steps in
    record {
      size = h.0 ∙ i.size;
      passed = block_passed _ _ 64 _ _ _ _ i.passed h.1.0 (h.1.1 ∙ i.size) (sym c.has.ensures ∙ c.if-has.false);
    }
