use mathlib.Core.Path.{refl, ap, ◌∙◌}
use Rattle.kinds.specs.declared.Run.{Run}
use Rattle.slots.specs.Counted.{effective_among}
use Rattle.orders.proofs.Counting.{run_counts}
use mathlib.Core.Path.{sym}
use Rattle.orders.proofs.count_named.Goals as goal

pub returns-then-not-is_write : goal.returns-then-not-is_write
returns-then-not-is_write c = rw (sym c.is_write.ensures ∙ c.if-not-is_write.true)

pub count_run-requires : goal.count_run-requires
count_run-requires c =
    rw c.run.ensures (run_counts c.args.order c.args.area.now c.requires.0 c.requires.1 (sym c.is_write.ensures ∙ c.if-not-is_write.false) refl)

pub returns : goal.returns
returns c =
    rw (sym c.is_write.ensures ∙ c.if-not-is_write.false) (c.count_run.ensures ∙ ap (λ (r : Run). effective_among r.kind r.start r.count c.args.area.now) c.run.ensures)
