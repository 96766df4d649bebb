use mathlib.Core.Path.{sym, ap, ◌∙◌}
use mathlib.Core.List.{[]}
use Rattle.kinds.specs.Kinds.{held_in}
use Rattle.calls.specs.Calls.{Call}
use Rattle.calls.specs.Lent.{areas_read, call_in}
use Rattle.messages.proofs.Numbered.{refusal_some, err_number, ok_number}
use Rattle.refusals.proofs.Tested.{same_sound}
use Rattle.refusals.proofs.Rows.{silent_tested, told_tested}
use Rattle.link.proofs.Answering.{same_asked}
use Rattle.link.proofs.Checking.{checked_silent, checked_heard, fits}
use Rattle.link.proofs.check.Goals as goal

pub returns-in-Err : goal.returns-in-Err
returns-in-Err c =
    let h = c.silent-hearing.ensures in
    let call : Call = call_in c.args.sent [] (areas_read c.args.areas) in
    checked_silent call _ _ (sym (err_number c.in-Err.is) ∙ h.number_value ∙ silent_tested call c.tested.result c.tested.ensures)
    (h.sum_value ∙ told_tested call c.tested.result c.tested.ensures)
    (refusal_some c.in-Err.refusal)

pub judge-requires : goal.judge-requires
judge-requires c =
    let call : Call = call_in c.args.sent [] (areas_read c.args.areas) in
    let n = c.silent-hearing.ensures.number_value ∙ silent_tested call c.tested.result c.tested.ensures in
    let f = fits call (sym n ∙ ok_number c.in_default.is) in
    (f.frame_long, same_sound (c.held_in-held.ensures ∙ ap held_in c.lengths.ensures) f.sound_held)

pub returns : goal.returns
returns c =
    let h = c.silent-hearing.ensures in
    let call : Call = call_in c.args.sent [] (areas_read c.args.areas) in
    let n = h.number_value ∙ silent_tested call c.tested.result c.tested.ensures in
    checked_heard call _ _ (sym n ∙ ok_number c.in_default.is)
    (sym (same_asked _ _ _ c.judge.ensures (c.held_in-held.ensures ∙ ap held_in c.lengths.ensures)))
    (h.sum_value ∙ told_tested call c.tested.result c.tested.ensures)
