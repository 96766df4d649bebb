use Rattle.std.proofs.Common.{◌≡◌, ◌∙◌, ◌*◌, length, take, sym, ap, ℕ, arith, length-take-le}
use Rattle.digits.proofs.Laid.{laid_on, laid_nothing}
use Rattle.pairs.specs.Pairs.{digits_in}
use Rattle.pairs.proofs.Paired.{digits_in_more, length_digits_in}
use Rattle.pairs.proofs.put_digits.Goals as goal

pub loop-i-init : goal.loop-i-init
loop-i-init c = sym (laid_nothing _ _)

pub loop-i-preserved : goal.loop-i-preserved
loop-i-preserved c =
    let a = c.args in
    let l = c.loop-i in
    let done = digits_in (take l.i a.bytes.now) in
    let n : length done ≡ 2 * l.i = length_digits_in (take l.i a.bytes.now) ∙ ap (λ (m : ℕ). 2 * m) (length-take-le l.i a.bytes.now (omega arith)) in
    c.put_number.ensures ∙ rw (c.from.ensures, l.invariant, digits_in_more a.bytes.now l.i (omega arith)) (laid_on a.reply.now done _ a.at _ (omega arith) (omega arith))
