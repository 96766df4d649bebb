use Rattle.std.proofs.Common.{ℕ, List, ◌≡◌, ◌+◌, ◌-◌, ◌*◌, ◌/◌, length}
use native.Mathlib.Omega.{arith}
use Rattle.pairs.specs.Pairs.{digits_in}
use Rattle.flags.specs.Flags.{eights}
use Rattle.flags.proofs.Promised.{shown}
use Rattle.heads.specs.Heads.{flags_text}
use Rattle.heads.proofs.Texts.{replied, run_laid, length_flags}
use Rattle.kinds.specs.Kinds.{place_of}
use mathlib.Core.Path.{refl}
use Rattle.heads.proofs.reply_flags.Goals as goal

pub put_flags-requires : goal.put_flags-requires
put_flags-requires c = omega (arith, (shown c.part-flags.result.now).as_many, c.part-flags.ensures.long, c.put_head-end.ensures.value.1)

pub returns : goal.returns
returns c =
    let a = c.args in
    let s = a.area.now in
    let h = c.put_head-end in
    let run = c.part-flags in
    let k = c.close_reply.ensures in
    let many : c.div_ceil.result ≡ (length run.result.now + 7) / 8 = omega (arith, c.div_ceil.ensures) in
    let e = run_laid a.m a.run.kind a.run.start a.run.count h.result s run.result.now h.ensures.value.0 run.ensures.value (λ (flags : List ℕ). digits_in (eights 0 flags)) a.reply.now _ _ (omega arith) h.ensures.reply_after c.put_flags.ensures in
    let l = length_flags a.m a.run.kind a.run.start a.run.count h.result (place_of a.run.kind a.run.start) (length run.result.now) s h.ensures.value.0 refl run.ensures.long (omega arith) in
    replied a.reply.now _ _ (flags_text a.m a.run.kind a.run.start a.run.count s) a.station (h.result - 3 + 2 * c.div_ceil.result) _ e (omega (arith, l, many)) (omega (arith, h.ensures.value.1, run.ensures.long, many)) k.value k.reply_after
