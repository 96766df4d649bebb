use Rattle.std.proofs.Common.{rules, ℕ, ◌*◌, ap, ◌∷◌, []}
use native.Mathlib.Omega.{arith}
use Rattle.kinds.specs.Kinds.{place_of, put}
use Rattle.digits.proofs.Laid.{stored}
use Rattle.writes.proofs.Spans.{span, one_digit}
use Rattle.writes.proofs.set_flag.Goals as goal

pub write-requires-clause-takes : goal.write-requires-clause-takes
write-requires-clause-takes c = λ p e. let l = span c.requires.ready in search rules

pub returns : goal.returns
unfolding put
returns c =
    let a = c.args in
    let at = place_of a.run.kind a.run.start in
    let value = c.worth-value.result in
    let inside = (span c.requires.ready).inside in
    let one = ap (λ (u : ℕ). a.run.count * u) c.requires.unit_value.0 in
    let there = stored a.area.now at (value ∷ []) (omega (arith, inside, one, c.requires.ready.some)) in
    let number = one_digit a.digits.now c.requires.unit_value.2 c.worth-value.ensures.0 in
    record { put_there = search rules; journalled = c.write.ensures.journalled }
