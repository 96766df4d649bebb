-- The board's own conduct, for the proofs of demands that compare whole answers. Demand 3 (Shaped, Wrote, Histories) takes the definition itself.
use mathlib.Core.Path.{◌≡◌, refl}
use Rattle.calls.specs.Calls.{Call}
use Rattle.link.specs.Answer.{answer_of}
use Rattle.demands.specs.History.{Conduct, ours}

-- its answer is the one that the contracts of the calls cite
pub own_answer : (c : Call) → ours.answer c ≡ answer_of c
own_answer c = refl

-- the board's own, for those who lean on that: where its answer is another, their proofs aren't looked at, since each would compare two boards by
-- computing, for minutes
abbrev pub own : Conduct
own = (λ (e : (c : Call) → ours.answer c ≡ answer_of c). ours) own_answer
