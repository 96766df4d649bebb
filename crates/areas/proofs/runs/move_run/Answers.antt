use mathlib.Core.Path.{◌≡◌}
use native.Mathlib.Omega.{arith}
use lib.ListN.{length, take, drop, length-drop}
use lib.Seq.{length-take-le}
use Rattle.areas.proofs.Moves.{laying_first, laying_front, laying_done, moved, own_front}
use Rattle.areas.proofs.runs.move_run.Goals as goal

pub returns-else-from-ne0 : goal.returns-else-from-ne0
returns-else-from-ne0 c = own_front c.args.area.now c.args.from c.args.many (omega arith) c.requires

pub loop-i-init : goal.loop-i-init
loop-i-init c =
    let many_bytes : length (take c.args.many (drop c.args.from c.args.area.now)) ≡ c.args.many = length-take-le c.args.many (drop c.args.from c.args.area.now) (simp length-drop (omega arith)) in
    laying_first _ _ _ (omega (arith, many_bytes))

pub loop-i-preserved : goal.loop-i-preserved
loop-i-preserved c =
    let many_bytes : length (take c.args.many (drop c.args.from c.args.area.now)) ≡ c.args.many = length-take-le c.args.many (drop c.args.from c.args.area.now) (simp length-drop (omega arith)) in
    let a = c.args in
    let s = take a.many (drop a.from a.area.now) in
    laying_front a.area.now s (omega (arith, many_bytes)) c.loop-i.i _ c.loop-i.area c.loop-i.invariant (omega (arith, many_bytes)) (moved a.area.now c.loop-i.area a.from a.many c.loop-i.i c.requires (omega arith) c.loop-i.invariant)

pub returns-after-loop-i : goal.returns-after-loop-i
returns-after-loop-i c =
    let many_bytes : length (take c.args.many (drop c.args.from c.args.area.now)) ≡ c.args.many = length-take-le c.args.many (drop c.args.from c.args.area.now) (simp length-drop (omega arith)) in
    let a = c.args in
    laying_done a.area.now (take a.many (drop a.from a.area.now)) 0 (omega (arith, many_bytes)) c.loop-i.i c.loop-i.area c.loop-i.invariant (omega (arith, many_bytes))
