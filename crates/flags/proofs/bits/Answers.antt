use Rattle.std.proofs.Common.{◌≡◌, ◌-◌, ◌≤◌, get_or, arith}
use Rattle.std.proofs.lemmas.Bool.Decides.{nat_tests}
use Rattle.flags.specs.Flags.{on_of}
use Rattle.flags.proofs.OneByte.{read_first, read_fits, read_next}
use Rattle.flags.proofs.bits.Goals as goal

pub loop-i-init : goal.loop-i-init
loop-i-init c = read_first _

pub overflow_mul-byte : goal.overflow_mul-byte
overflow_mul-byte c = omega (arith, read_fits c.loop-i.invariant c.loop-i-test.true)

pub overflow_add-byte : goal.overflow_add-byte
overflow_add-byte c =
    let f = read_fits c.loop-i.invariant c.loop-i-test.true in
    let b : c.from.result ≤ 1 = grind (arith, nat_tests) in
    omega (arith, f, b)

pub loop-i-preserved : goal.loop-i-preserved
loop-i-preserved c =
    let e : c.from.result ≡ on_of (get_or c.args.flags.now (c.loop-i.i - 1) 0) = grind (arith, nat_tests) in
    read_next c.loop-i.invariant c.loop-i-test.true _ c.requires (omega (arith, e))
