use mathlib.Core.Path.{refl, sym, ap, ◌∙◌}
use Rattle.kinds.specs.Kinds.{columns_tag, integers_tag, flags_tag, size_of}
use Rattle.kinds.proofs.Known.{kind_columns, kind_integers, kind_flags}
use Rattle.journal.specs.Journal.{entry_for}
use Rattle.back.proofs.Backing.{restore_needs, same_puts, same_count}
use Rattle.calls.proofs.Parts.{equal_parts}
use Rattle.back.proofs.put_back.Goals as goal

pub restore-requires : goal.restore-requires
restore-requires c =
    let it = (restore_needs c.args.held columns_tag _ _ _ c.args.areas.now.columns.now c.requires.sound.0 c.requires.sound.1 c.kind.ensures (c.requires.points_len.1 ∙ ap size_of (sym (kind_columns c.args.held)))) in
    record { area_len = it.0; value = it.1 }

pub restore-requires-2 : goal.restore-requires-2
restore-requires-2 c =
    let it = (restore_needs c.args.held integers_tag _ _ _ c.args.areas.now.integers.now c.requires.sound.0 c.requires.sound.1 c.kind-2.ensures (c.requires.points_len.2 ∙ ap size_of (sym (kind_integers c.args.held)))) in
    record { area_len = it.0; value = it.1 }

pub restore-requires-3 : goal.restore-requires-3
restore-requires-3 c =
    let it = (restore_needs c.args.held flags_tag _ _ _ c.args.areas.now.flags.now c.requires.sound.0 c.requires.sound.1 c.kind-3.ensures (c.requires.points_len.3 ∙ ap size_of (sym (kind_flags c.args.held)))) in
    record { area_len = it.0; value = it.1 }

pub returns-clause-areas_after : goal.returns-clause-areas_after
returns-clause-areas_after c =
    let g = c.put_points_back-areas.ensures in
    equal_parts g.points_after (same_puts _ c.restore.ensures (c.kind.ensures ∙ kind_columns c.args.held) refl)
    (same_puts _ c.restore-2.ensures (c.kind-2.ensures ∙ kind_integers c.args.held) refl)
    (same_puts _ c.restore-3.ensures (c.kind-3.ensures ∙ kind_flags c.args.held) refl) refl refl
    (same_count {h = c.args.held} {x = entry_for c.args.tag c.args.start c.args.old.now} c.args.areas.now.points.now c.args.areas.now.kept.effective g.value g.points_after refl refl)
