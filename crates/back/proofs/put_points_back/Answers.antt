use Prim.Native.Nat.{ℕ, ◌+◌, ◌-◌}
use mathlib.Core.Path.{refl, sym, ap, ap₂, ◌∙◌}
use native.Mathlib.Omega.{arith}
use lib.ListN.{length}
use Rattle.kinds.specs.Kinds.{points_tag, size_of}
use Rattle.kinds.proofs.Known.{kind_points}
use Rattle.back.proofs.Backing.{restore_needs, same_puts}
use Rattle.back.proofs.Recounting.{some_unit, entry_counts, counts_after, entry_recounted, same_among}
use Rattle.back.proofs.put_points_back.Goals as goal

pub nonzero_div-count : goal.nonzero_div-count
nonzero_div-count c =
    omega (arith, some_unit c.args.held c.args.tag c.args.start c.args.old.now c.requires.sound.0 c.requires.sound.1 c.kind-kind.ensures)

pub count_run-before-requires : goal.count_run-before-requires
count_run-before-requires c =
    entry_counts c.args.held c.args.tag c.args.start c.args.old.now c.requires.sound.0 c.requires.sound.1 c.args.points.now c.kind-kind.ensures c.requires.sound.2

pub restore-requires : goal.restore-requires
restore-requires c =
    let it = (restore_needs c.args.held points_tag _ _ _ c.args.points.now c.requires.sound.0 c.requires.sound.1 c.kind.ensures
    (c.requires.sound.2 ∙ ap size_of (sym (kind_points c.args.held)))) in
    record { area_len = it.0; value = it.1 }

pub count_run-after-requires : goal.count_run-after-requires
count_run-after-requires c =
    counts_after c.args.held c.args.tag c.args.start c.args.old.now c.requires.sound.0 c.requires.sound.1 c.args.points.now c.kind-kind.ensures
    c.requires.sound.2
    (same_puts c.args.points.now c.restore.ensures (c.kind.ensures ∙ kind_points c.args.held) refl)

pub returns : goal.returns
returns c =
    let p = same_puts c.args.points.now c.restore.ensures (c.kind.ensures ∙ kind_points c.args.held) refl in record {
      points_after = p;
      value = ap₂ (λ (m n : ℕ). c.args.effective - m + n) (same_among c.args.start (length c.args.old.now) _ c.count_run-before.ensures c.kind-kind.ensures)
          (same_among c.args.start (length c.args.old.now) _ c.count_run-after.ensures c.kind-kind.ensures)
          ∙ (entry_recounted c.args.held c.args.tag c.args.start c.args.old.now c.requires.sound.0 c.requires.sound.1 c.args.points.now c.requires.sound.2 c.requires.effective_value p).is;
    }

pub overflow_sub-others : goal.overflow_sub-others
overflow_sub-others c =
    omega (
      arith,
      (entry_recounted c.args.held c.args.tag c.args.start c.args.old.now c.requires.sound.0 c.requires.sound.1 c.args.points.now c.requires.sound.2 c.requires.effective_value
          (same_puts c.args.points.now c.restore.ensures (c.kind.ensures ∙ kind_points c.args.held) refl)).least,
      same_among c.args.start (length c.args.old.now) _ c.count_run-before.ensures c.kind-kind.ensures,
    )

pub overflow_add-result : goal.overflow_add-result
overflow_add-result c =
    omega (
      arith,
      (entry_recounted c.args.held c.args.tag c.args.start c.args.old.now c.requires.sound.0 c.requires.sound.1 c.args.points.now c.requires.sound.2 c.requires.effective_value
          (same_puts c.args.points.now c.restore.ensures (c.kind.ensures ∙ kind_points c.args.held) refl)).most 18446744073709551615 (omega arith) (omega (arith, c.requires.sound.0.points)),
      same_among c.args.start (length c.args.old.now) _ c.count_run-before.ensures c.kind-kind.ensures,
      same_among c.args.start (length c.args.old.now) _ c.count_run-after.ensures c.kind-kind.ensures,
    )
