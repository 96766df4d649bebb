use mathlib.Core.Path.{sym, ◌∙◌}
use Rattle.refusals.proofs.Rows.{late_by_lem}
use Rattle.refusals.proofs.test_late.Goals as goal
use Rattle.refusals.proofs.test_late.Goals.{in-True, in-SwitchedOff}

pub returns-in-SwitchedOff-2 : goal.returns-in-SwitchedOff-2
returns-in-SwitchedOff-2 c =
    sym (late_by_lem c.args.sent.settings c.args.sent.frame.now c.args.areas.points.now c.args.areas.kept _ c.requires.1 ∙ rw (c.in-SwitchedOff.is, c.if-settings.false))

pub returns-in-Wrong : goal.returns-in-Wrong
returns-in-Wrong c =
    sym (late_by_lem c.args.sent.settings c.args.sent.frame.now c.args.areas.points.now c.args.areas.kept _ c.requires.1 ∙ rw c.in-Wrong.is)

pub is_ours-requires : goal.is_ours-requires
is_ours-requires c = c.requires.0

pub returns-then-not-is_ours : goal.returns-then-not-is_ours
returns-then-not-is_ours c =
    sym
    (late_by_lem c.args.sent.settings c.args.sent.frame.now c.args.areas.points.now c.args.areas.kept _ c.requires.1
    ∙ elim c.match-sum.branch [
      | in-True w ↦ rw (w.in-True.is, sym c.is_ours.ensures ∙ c.if-not-is_ours.true)
      | in-SwitchedOff w ↦ rw (w.in-SwitchedOff.is, w.if-settings.true, sym c.is_ours.ensures ∙ c.if-not-is_ours.true)
    ])

pub returns : goal.returns
returns c =
    let o = sym c.is_ours.ensures ∙ c.if-not-is_ours.false in
    c.test_count.ensures
    ∙ sym
    (late_by_lem c.args.sent.settings c.args.sent.frame.now c.args.areas.points.now c.args.areas.kept _ c.requires.1
    ∙ elim c.match-sum.branch [
      | in-True w ↦ rw (w.in-True.is, o)
      | in-SwitchedOff w ↦ rw (w.in-SwitchedOff.is, w.if-settings.true, o)
    ])
