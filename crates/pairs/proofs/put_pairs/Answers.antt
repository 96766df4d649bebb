use Rattle.std.proofs.Common.{◌≡◌, sym, length, arith}
use Rattle.areas.proofs.Moves.{laying_first, laying_front, laying_done}
use Rattle.pairs.specs.Pairs.{bytes_in}
use Rattle.pairs.proofs.Paired.{length_bytes_in, byte_at}
use Rattle.pairs.proofs.put_pairs.Goals as goal

pub loop-pair-init : goal.loop-pair-init
loop-pair-init c = laying_first _ _ _ (omega (arith, length_bytes_in c.args.many c.args.digits.now c.requires.0))

pub loop-pair-preserved : goal.loop-pair-preserved
loop-pair-preserved c =
    let a = c.args in
    let l = c.loop-pair in
    let m : length (bytes_in a.digits.now) ≡ a.many = length_bytes_in a.many a.digits.now c.requires.0 in
    let e = byte_at a.many a.digits.now l.pair c.requires.0 (omega arith) in
    laying_front a.area.now (bytes_in a.digits.now) (omega arith) l.pair _ l.area l.invariant (omega arith) (rw (c.worth-high.ensures.0, c.worth-low.ensures.0) (sym e))

pub returns : goal.returns
returns c =
    let a = c.args in
    let m : length (bytes_in a.digits.now) ≡ a.many = length_bytes_in a.many a.digits.now c.requires.0 in
    laying_done a.area.now (bytes_in a.digits.now) 0 (omega arith) c.loop-pair.pair c.loop-pair.area c.loop-pair.invariant (omega arith)
