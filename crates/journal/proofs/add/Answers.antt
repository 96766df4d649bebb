use borrow.Author.Rules.{rules}
use mathlib.Core.Path.{◌≡◌}
use native.Mathlib.Omega.{arith}
use lib.ListN.{length, take}
use lib.Seq.{length-take-le}
use Rattle.journal.specs.Journal.{entry_for}
use Rattle.journal.proofs.Adding.{holds_added}
use Rattle.journal.proofs.add.Goals as goal

pub cut-gone-requires : goal.cut-gone-requires
cut-gone-requires c =
    let used_long : length (take c.args.used c.args.journal.now) ≡ c.args.used = length-take-le c.args.used c.args.journal.now c.requires.sound.2 in
    (c.requires.sound.0, omega (arith, used_long, c.over_by-over.ensures), c.requires.journal_value)

pub returns : goal.returns
returns c =
    let a = c.args in
    holds_added a.held a.journal.now _ _ a.used c.over_by-over.result c.cut-gone.result (entry_for a.tag a.start a.old.now)
    (λ i. search rules) c.requires.sound.2 c.requires.journal_value c.requires.sound.3 c.over_by-over.ensures c.cut-gone.ensures.0 c.cut-gone.ensures.2
    c.move_run.ensures c.put_entry.ensures
