-- The laws of specs/Laws.antt.
use Prim.Native.Nat.{ℕ}
use mathlib.Core.Path.{◌≡◌, refl, sym, ap, ◌∙◌}
use mathlib.Core.Bool.{false}
use lib.ListN.{length}
use borrow.Author.Tests.{eq-eqb, ne_eqb, le-ltb}
use Rattle.frames.specs.Frame.{content_in}
use Rattle.kinds.specs.Kinds.{held_in}
use Rattle.axes.specs.Records.{Axes, no_axes}
use Rattle.axes.specs.Run.{lent_axes}
use Rattle.messages.specs.Rows.{first_of}
use Rattle.table.specs.Table.{message_of}
use Rattle.messages.specs.Asked.{asked_rows}
use Rattle.calls.specs.Calls.{lengths_of, call_of}
use Rattle.refusals.specs.Refusals.{axes_fit, refusal_of}
use Rattle.refusals.proofs.Rows.{own_number, late_number, area_rows_lem, areas_pass, past_areas, refusal_is}
use Rattle.lent.specs.Laws.{SameEight, OtherCount}

pub same_eight : SameEight
same_eight frame records settings reply a e = rw (eq-eqb (length records) 8 e)

not_eight : (fitted : ℕ) → axes_fit no_axes fitted ≡ false
unfolding axes_fit
not_eight fitted = refl

pub other_count : OtherCount
other_count frame records settings reply a n r e =
    let k = first_of (asked_rows (held_in (lengths_of a)) settings.fitted settings.release (message_of settings.release frame) (content_in frame)) in
    let p = (areas_pass (lengths_of a) a.journal a.kept (sym (area_rows_lem (lengths_of a) a.journal a.kept) ∙ e)).0 in
    let l : lent_axes records ≡ no_axes = rw (ne_eqb (length records) 8 n) in
    ap (λ (x : Axes). refusal_of (call_of frame x settings reply a)) l
    ∙ refusal_is (call_of frame no_axes settings reply a)
    ∙ rw (le-ltb (length reply) 1024 r)
    (past_areas (lengths_of a) a.journal a.kept p (own_number no_axes settings frame (late_number settings frame a.points a.kept k)) ∙ rw (not_eight settings.fitted))
