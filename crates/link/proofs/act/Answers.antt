use Prim.Native.Nat.{◌≤◌}
use mathlib.Core.Path.{◌≡◌, ap, sym, ◌∙◌}
use native.Mathlib.Omega.{arith}
use lib.ListN.{length}
use Rattle.kinds.specs.Kinds.{held_in}
use Rattle.messages.specs.Asked.{asked_by}
use Rattle.messages.proofs.Numbered.{err_number}
use Rattle.calls.specs.Calls.{lengths_of}
use Rattle.calls.specs.Lent.{areas_in, call_in}
use Rattle.link.specs.Check.{check_of, checked_by}
use Rattle.link.proofs.Checking.{without_reply_lem, same_act, same_gives, acted_refused, acted_heard, acted_told}
use Rattle.link.proofs.Outcomes.{accepted_so}
use Rattle.link.proofs.act.Goals as goal
use Rattle.link.proofs.act.Goals.{After-check-checked}

-- behind the check the reply area is long enough, and what was checked is this call
long : (c : After-check-checked) → 1024 ≤ length c.args.reply.now
long c = omega arith

checked : (c : After-check-checked) → checked_by c.check-checked.result ≡ check_of (call_in c.args.sent c.args.reply.now (areas_in c.args.areas.now))
checked c = (rw c.read.ensures at c.check-checked.ensures) ∙ without_reply_lem (call_in c.args.sent c.args.reply.now (areas_in c.args.areas.now))

pub refuse-requires : goal.refuse-requires
refuse-requires c = omega (arith, long (goal.at.refuse-requires c).After-check-checked)

pub perform-done-requires : goal.perform-done-requires
perform-done-requires c =
    let p = (goal.at.perform-done-requires c).After-check-checked in
    acted_heard _ (long p) (checked p) _ (ap asked_by c.in-Ok.is) (c.held_in.ensures ∙ ap held_in (c.lengths.ensures ∙ ap lengths_of c.read-in-Ok.ensures))

pub returns-in-Err-clause-acts : goal.returns-in-Err-clause-acts
returns-in-Err-clause-acts c =
    let p = (goal.at.returns-in-Err-clause-acts c).After-check-checked in
    let n = c.refuse.ensures.number_value in
    acted_refused _ (long p) (checked p) _ _ _ (ap asked_by c.in-Err.is) (err_number n.0, n.1, n.2, n.3) c.refuse.ensures.reply_after

pub returns-in-Ok-clause-acts : goal.returns-in-Ok-clause-acts
returns-in-Ok-clause-acts c =
    let p = (goal.at.returns-in-Ok-clause-acts c).After-check-checked in
    same_gives _ (sym (same_act _)) (accepted_so _ c.accept.ensures (acted_told _ (long p) (checked p)) c.perform-done.ensures.performs)
