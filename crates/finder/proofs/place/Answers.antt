use Rattle.std.proofs.Common.{◌≡◌, ◌∙◌, ap, ◌+◌, ◌-◌, ◌≤◌, length, take, drop}
use native.Mathlib.Omega.{arith}
use Rattle.std.specs.Option.{unwrap_or}
use Rattle.finder.specs.Find.{place_of}
use Rattle.finder.proofs.Blocks.{by_position}
use Rattle.finder.proofs.Search.{place_on}
use Rattle.finder.proofs.place.Goals as goal

-- where the byte stands in what is left
found : (c : goal.After-unwrap_or) → let k = c.pass_blocks-passed.result in
    (k + c.unwrap_or.result ≤ length c.args.s.now) × (c.unwrap_or.result ≡ place_of c.args.b (drop k c.args.s.now))
found c =
    let s = c.args.s.now in
    let k = c.pass_blocks-passed.result in
    let rest = take (length s - k) (drop k s) in
    place_on c.args.b s k c.unwrap_or.result c.pass_blocks-passed.ensures.0
    (c.unwrap_or.ensures ∙ (ap (λ o. unwrap_or o (length rest)) c.by_byte.ensures ∙ by_position c.args.b rest))

pub overflow_add-result : goal.overflow_add-result
overflow_add-result c = omega (arith, found c)

pub returns : goal.returns
returns c = omega (arith, found c)
