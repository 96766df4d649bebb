use native.Mathlib.Omega.{arith}
use Rattle.journal.proofs.Back.{before, stands}
use Rattle.journal.proofs.find_last.Goals as goal

pub bounds-journal-at : goal.bounds-journal-at
unfolding before
bounds-journal-at c =
    let f = stands c.args.held c.args.journal.now c.args.used c.last_at-at.result (λ i. (c.type_inv.journal i).fits) c.requires.sound.2 c.requires.sound.1 c.requires.journal_value c.last_at-at.ensures in
    omega (arith, f.span)

pub overflow_add-at : goal.overflow_add-at
unfolding before
overflow_add-at c =
    let f = stands c.args.held c.args.journal.now c.args.used c.last_at-at.result (λ i. (c.type_inv.journal i).fits) c.requires.sound.2 c.requires.sound.1 c.requires.journal_value c.last_at-at.ensures in
    omega (arith, f.span)

pub two_at-requires : goal.two_at-requires
unfolding before
two_at-requires c =
    let f = stands c.args.held c.args.journal.now c.args.used c.last_at-at.result (λ i. (c.type_inv.journal i).fits) c.requires.sound.2 c.requires.sound.1 c.requires.journal_value c.last_at-at.ensures in
    omega (arith, f.span)

pub returns : goal.returns
unfolding before
returns c =
    let f = stands c.args.held c.args.journal.now c.args.used c.last_at-at.result (λ i. (c.type_inv.journal i).fits) c.requires.sound.2 c.requires.sound.1 c.requires.journal_value c.last_at-at.ensures in
    rw (c.from.ensures, c.two_at.ensures) f
