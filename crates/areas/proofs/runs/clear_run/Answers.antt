use Rattle.std.proofs.Common.{rules, ◌≡◌, replicate, arith}
use Rattle.std.proofs.lemmas.List.{length-replicate}
use Rattle.digits.proofs.Laid.{part_put}
use Rattle.areas.proofs.runs.clear_run.Goals as goal

pub returns : goal.returns
returns c =
    let e : c.fill.new.self ≡ replicate c.args.many 0 = search rules in
    rw e (part_put c.args.area.now _ c.args.at _ (simp length-replicate (omega arith)))
