use Rattle.std.proofs.Common.{◌+◌, ◌-◌, ◌*◌, length}
use native.Mathlib.Omega.{arith}
use Rattle.pairs.specs.Pairs.{digits_in}
use Rattle.heads.specs.Heads.{run_text}
use Rattle.heads.proofs.Texts.{replied, run_laid, length_run}
use Rattle.kinds.specs.Kinds.{place_of}
use mathlib.Core.Path.{refl}
use Rattle.heads.proofs.reply_run.Goals as goal

pub returns : goal.returns
returns c =
    let a = c.args in
    let s = a.area.now in
    let h = c.put_head-end in
    let run = c.part-bytes in
    let k = c.close_reply.ensures in
    let e = run_laid a.m a.run.kind a.run.start a.run.count h.result s run.result.now h.ensures.value.0 run.ensures.value digits_in a.reply.now _ _ (omega arith) h.ensures.reply_after c.put_digits.ensures in
    let l = length_run a.m a.run.kind a.run.start a.run.count h.result (place_of a.run.kind a.run.start) (length run.result.now) s h.ensures.value.0 refl run.ensures.long (omega arith) in
    replied a.reply.now _ _ (run_text a.m a.run.kind a.run.start a.run.count s) a.station (h.result - 3 + 2 * length run.result.now) _ e l (omega (arith, h.ensures.value.1, run.ensures.long)) k.value k.reply_after
