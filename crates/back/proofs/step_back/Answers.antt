use mathlib.Core.Path.{◌≡◌, sym, ap, ◌∙◌}
use mathlib.Core.List.{List}
use Prim.Native.Nat.{ℕ}
use Rattle.std.proofs.Common.{rules}
use native.Mathlib.Omega.{arith}
use Rattle.std.specs.Borrow.{MutBor}
use Rattle.kinds.specs.Kinds.{held_in}
use Rattle.journal.specs.Laws.{Stands}
use Rattle.journal.proofs.Codec.{Bytes}
use Rattle.calls.specs.Calls.{lengths_of}
use Rattle.calls.specs.Lent.{areas_in}
use Rattle.refusals.specs.Refusals.{back_refusal_of}
use Rattle.refusals.proofs.Rows.{back_tested}
use Rattle.std.proofs.lemmas.Result.{err_from_is_err_and}
use Rattle.messages.proofs.Numbered.{refusal_some}
use Rattle.back.proofs.Backing.{can_step_back, stepped_refused, find_needs, put_needs, stepped}
use Rattle.back.proofs.step_back.Goals as goal
use Rattle.back.proofs.step_back.Goals.{After-take-journal, After-find_last-last}

pub returns-in_err-back_refusal-clause-steps_back : goal.returns-in_err-back_refusal-clause-steps_back
returns-in_err-back_refusal-clause-steps_back c =
    let p = err_from_is_err_and c.from_residual.result c.from_residual.ensures.1 in
    rw (p.1, p.2) (stepped_refused _ _ (c.in_err-back_refusal.ensures ∙ back_tested _ c.tested.result c.tested.ensures ∙ ap back_refusal_of c.read-read.ensures) (refusal_some _))

-- the areas passed the tests, and the board holds what they are long enough for
passed : (c : After-take-journal) → back_refusal_of (areas_in c.args.areas.now) ≡ 0
passed c = sym (c.in_ok-back_refusal.ensures ∙ back_tested _ c.tested.result c.tested.ensures ∙ ap back_refusal_of c.read-read.ensures)

held : (c : After-take-journal) → c.held_in-held.result ≡ held_in (lengths_of (areas_in c.args.areas.now))
held c = c.held_in-held.ensures ∙ ap held_in (c.lengths.ensures ∙ ap lengths_of c.read-read.ensures)

-- the journal that was taken out is the one that was lent
journal : (c : After-take-journal) → c.take-journal.result.now ≡ c.args.areas.now.journal.now
journal c = ap (λ (x : MutBor (List ℕ)). x.now) c.take-journal.ensures.value

-- and its last entry stands in it
stands : (c : After-find_last-last) → Stands c.held_in-held.result c.args.areas.now.journal.now c.args.areas.now.kept.used c.find_last-last.result
stands c = rw (ap (λ (x : MutBor (List ℕ)). x.now) c.take-journal.ensures.value) at c.find_last-last.ensures

pub find_last-last-requires : goal.find_last-last-requires
find_last-last-requires c =
    let n = find_needs _ (passed c) (held c) in
    record { sound = rw (journal c) n.0; journal_value = rw (journal c) n.1 }

pub slice_bounds-put_back-end : goal.slice_bounds-put_back-end
slice_bounds-put_back-end c =
    let t = (goal.at.slice_bounds-put_back-end c).After-take-journal in
    rw (journal t) (omega (arith, (can_step_back _ (passed t)).journal.within))

pub put_back-requires : goal.put_back-requires
put_back-requires c =
    let t = (goal.at.put_back-requires c).After-take-journal in
    let n = put_needs _ (passed t) (held t) (stands (goal.at.put_back-requires c).After-find_last-last) in
    record { sound = rw (journal t) n.0; points_len = n.1.0; effective_value = n.1.1 }

pub remove-requires : goal.remove-requires
remove-requires c =
    let t = (goal.at.remove-requires c).After-take-journal in
    rw (journal t) (omega (arith, (can_step_back _ (passed t)).journal.within, (stands (goal.at.remove-requires c).After-find_last-last).span))

pub returns-clause-steps_back : goal.returns-clause-steps_back
returns-clause-steps_back c =
    let t = (goal.at.returns-clause-steps_back c).After-take-journal in
    let bytes : Bytes c.take-journal.result.now = λ i. search rules in
    stepped _ (passed t) (held t) (stands (goal.at.returns-clause-steps_back c).After-find_last-last) (rw (journal t) at bytes) _
    (rw (journal t) at c.put_back.ensures.areas_after)
    (rw (journal t) at c.remove.ensures)
