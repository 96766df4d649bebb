use Rattle.std.proofs.Common.{◌≡◌, ◌∙◌, arith}
use Rattle.digits.proofs.Laid.{part_put}
use Rattle.areas.specs.Bytes.{two_of}
use Rattle.areas.proofs.BigEndian.{in_two}
use Rattle.areas.proofs.bytes.put_two.Goals as goal

pub returns : goal.returns
returns c =
    let e : c.copy_from_slice.new.self ≡ two_of c.args.x = c.copy_from_slice.ensures.after ∙ c.to_be_bytes.ensures ∙ in_two c.args.x (omega arith) in
    rw e (part_put c.args.area.now _ c.args.at _ (omega arith))
