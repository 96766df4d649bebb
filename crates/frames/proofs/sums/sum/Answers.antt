use Rattle.std.proofs.Common.{rules, ◌≡◌, ℕ, ◌+◌, ◌%◌, ◌∙◌, zero-add, arith}
use Rattle.std.specs.List.{fold}
use Rattle.frames.proofs.Turns.{folded}
use Rattle.frames.proofs.sums.sum.Goals as goal

pub returns : goal.returns
returns c =
    let e : c.fold.result ≡ fold (λ (total b : ℕ). (total + b) % 256) 0 c.args.s.now = search rules in
    e ∙ folded 0 c.args.s.now (omega arith) ∙ rw zero-add
