use Rattle.std.proofs.Common.{◌≡◌, ◌∙◌, ap, min, length, take}
use native.Mathlib.Omega.{arith}
use Rattle.std.proofs.lemmas.List.{take_min}
use Rattle.finder.proofs.window.Goals as goal

pub returns : goal.returns
returns c =
    let s = c.args.s.now in
    let n : c.min.result ≡ min 1023 (length s) = omega arith in
    ap (λ k. take k s) n ∙ take_min 1023 s
