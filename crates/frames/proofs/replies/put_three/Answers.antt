use Rattle.std.proofs.Common.{rules, ◌≡◌, ◌/◌, ◌%◌, arith}
use Rattle.digits.specs.Digits.{byte_of}
use Rattle.digits.proofs.Laid.{part_put}
use Rattle.frames.proofs.replies.put_three.Goals as goal

pub returns : goal.returns
returns c =
    let n = c.args.number in
    let a : c.digit.result ≡ byte_of (n / 100 % 10) = search rules in
    let b : c.digit-2.result ≡ byte_of (n / 10 % 10) = search rules in
    let d : c.digit-3.result ≡ byte_of (n % 10) = search rules in
    rw (c.copy_from_slice.ensures.after, a, b, d) (part_put c.args.area.now _ c.args.at _ (omega arith))
