use Prim.Native.Nat.{ℕ, ◌+◌, ◌-◌}
use mathlib.Core.Path.{ap₂, ◌∙◌}
use native.Mathlib.Omega.{arith}
use Rattle.orders.proofs.Counting.{run_within, run_within_after, left}
use Rattle.orders.proofs.carry_out.Goals as goal

pub count_named-before-requires : goal.count_named-before-requires
count_named-before-requires c =
    let p = c.requires in
    (p.0.sound, run_within p.0)

pub count_named-after-requires : goal.count_named-after-requires
count_named-after-requires c =
    (c.requires.0.sound, run_within_after c.requires.0 c.args.kept.effective c.requires.3 c.store-used.ensures)

pub returns : goal.returns
returns c =
    record {
      says = c.say-length.ensures;
      stores = c.store-used.ensures;
      effective_value = ap₂ (λ (b a : ℕ). c.args.kept.effective - b + a) c.count_named-before.ensures c.count_named-after.ensures
          ∙ (left c.requires.0 c.args.kept.effective c.requires.3 c.store-used.ensures).is;
    }

pub overflow_sub-others : goal.overflow_sub-others
overflow_sub-others c =
    omega (arith, (left c.requires.0 c.args.kept.effective c.requires.3 c.store-used.ensures).least, c.count_named-before.ensures)

pub overflow_add-effective : goal.overflow_add-effective
overflow_add-effective c =
    omega (
      arith,
      (left c.requires.0 c.args.kept.effective c.requires.3 c.store-used.ensures).most 18446744073709551615 (omega arith) (omega (arith, c.requires.0.sound.points)),
      c.count_named-before.ensures,
      c.count_named-after.ensures,
    )
