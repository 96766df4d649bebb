use mathlib.Core.Path.{ap, ◌∙◌}
use Prim.Native.Nat.{ℕ}
use native.Mathlib.Omega.{arith}
use lib.ListN.{length}
use Rattle.kinds.specs.Kinds.{put}
use Rattle.digits.specs.Laid.{laid}
use Rattle.journal.specs.Journal.{entry_for}
use Rattle.journal.proofs.Fitting.{Fit, fit, puts_own, puts_other}
use Rattle.journal.proofs.restore.Goals as goal

pub place-requires : goal.place-requires
place-requires c =
    let f : Fit c.args.k c.args.start (length c.args.old.now) = fit c.args.k c.args.start (length c.args.old.now) (c.requires.value c.if-tag-k.true) in
    (f.first, omega arith)

pub put_run-requires : goal.put_run-requires
put_run-requires c =
    let f : Fit c.args.k c.args.start (length c.args.old.now) = fit c.args.k c.args.start (length c.args.old.now) (c.requires.value c.if-tag-k.true) in
    omega (arith, c.place.ensures)

pub returns-then-tag-k : goal.returns-then-tag-k
unfolding put
returns-then-tag-k c =
    let a = c.args in
    c.put_run.ensures ∙ ap (λ (m : ℕ). laid a.area.now m a.old.now) c.place.ensures ∙ puts_own a.k (entry_for a.tag a.start a.old.now) a.area.now c.if-tag-k.true

pub returns-else-tag-k : goal.returns-else-tag-k
returns-else-tag-k c =
    let a = c.args in
    puts_other a.k (entry_for a.tag a.start a.old.now) a.area.now c.if-tag-k.false
