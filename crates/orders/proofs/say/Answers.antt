use mathlib.Core.List.{List}
use Prim.Native.Nat.{ℕ}
use mathlib.Core.Path.{ap₂, refl, ap, ◌∙◌}
use native.Mathlib.Omega.{arith}
use lib.Bits.{bit_and}
use lib.ListN.{drop}
use Rattle.axes.specs.declared.AxisRecord.{AxisRecord}
use Rattle.digits.specs.Digits.{number_of}
use Rattle.digits.proofs.Laid.{part_rest}
use Rattle.kinds.specs.declared.Run.{Run}
use Rattle.table.specs.declared.Action.TheVariants.{SayBack, CountPoints, ListPoints, ReadRun, AxisStatus, WritePoints, ClearRun, ChangeRun, ShowFlags, SetFlag}
use Rattle.heads.specs.Heads.{run_text, flags_text}
use Rattle.queries.specs.Replies.{same_text, list_text, axes_text}
use Rattle.calls.specs.Lent.{sent_in}
use Rattle.orders.proofs.Handling as handling
use Rattle.orders.proofs.say.Goals as goal

pub rest_of-rest-requires : goal.rest_of-rest-requires
rest_of-rest-requires c = handling.rest_needs c.requires.0

pub reply_same-requires : goal.reply_same-requires
reply_same-requires c = (c.requires.1, handling.same_needs c.requires.0 c.in-SayBack.is c.rest_of-rest.ensures)

pub at-at-requires : goal.at-at-requires
at-at-requires c = rw c.run-run.ensures (handling.list_place c.requires.0 c.in-ListPoints.is refl)

pub slice_bounds-reply_list-count : goal.slice_bounds-reply_list-count
slice_bounds-reply_list-count c = let d = c.in-ListPoints.is in
    let a = handling.list_at c.requires.0 d refl (rw c.run-run.ensures at c.at-at.ensures) in
    omega (arith, handling.list_room_lem c.requires.0 d a)

pub slice_bounds-reply_list-start : goal.slice_bounds-reply_list-start
slice_bounds-reply_list-start c = let d = c.in-ListPoints.is in
    let a = handling.list_at c.requires.0 d refl (rw c.run-run.ensures at c.at-at.ensures) in
    omega (arith, handling.list_room_lem c.requires.0 d a)

pub reply_list-requires : goal.reply_list-requires
reply_list-requires c = let d = c.in-ListPoints.is in
    let n = handling.list_needs c.requires.0 d (handling.list_at c.requires.0 d refl (rw c.run-run.ensures at c.at-at.ensures)) in (c.requires.1, n.0, n.1)

pub reply_run-requires : goal.reply_run-requires
reply_run-requires c =
    let it = handling.run_needs c.requires.0 c.in-ReadRun.is c.requires.1 refl in
    rw c.run-run.ensures (record { narrow = it.0; area_len = it.1 })

pub number-pattern-requires : goal.number-pattern-requires
number-pattern-requires c = omega (arith, handling.two_digits c.requires.0 c.in-AxisStatus.is c.rest_of-rest.ensures)

pub overflow_cast-pattern : goal.overflow_cast-pattern
overflow_cast-pattern c = omega (arith, handling.one_byte c.requires.0 c.in-AxisStatus.is c.rest_of-rest.ensures c.number-pattern.ensures)

pub reply_head-requires : goal.reply_head-requires
reply_head-requires c = ((handling.content c.requires.0).narrow, c.requires.1)

pub reply_head-requires-in-ClearRun : goal.reply_head-requires-in-ClearRun
reply_head-requires-in-ClearRun c = ((handling.content c.requires.0).narrow, c.requires.1)

pub reply_head-requires-in-ChangeRun : goal.reply_head-requires-in-ChangeRun
reply_head-requires-in-ChangeRun c = ((handling.content c.requires.0).narrow, c.requires.1)

pub reply_flags-requires : goal.reply_flags-requires
reply_flags-requires c =
    let it = handling.flags_needs c.requires.0 c.in-ShowFlags.is c.requires.1 refl in
    rw c.run-run.ensures (record { narrow = it.0; area_len = it.1 })

pub reply_head-requires-in-SetFlag : goal.reply_head-requires-in-SetFlag
reply_head-requires-in-SetFlag c = ((handling.content c.requires.0).narrow, c.requires.1)

pub returns-in-SayBack : goal.returns-in-SayBack
returns-in-SayBack c =
    handling.says c.requires.0 (sent_in c.args.sent c.args.reply.now) c.args.kept SayBack c.in-SayBack.is (ap (same_text c.args.order.message) c.rest_of-rest.ensures) c.reply_same.ensures

pub returns-in-CountPoints : goal.returns-in-CountPoints
returns-in-CountPoints c =
    handling.says c.requires.0 (sent_in c.args.sent c.args.reply.now) c.args.kept CountPoints c.in-CountPoints.is refl c.reply_count.ensures

pub returns-in-ListPoints : goal.returns-in-ListPoints
returns-in-ListPoints c =
    let d = c.in-ListPoints.is in
    let s = c.args in
    let a = handling.list_at c.requires.0 d refl (rw c.run-run.ensures at c.at-at.ensures) in
    handling.says c.requires.0 (sent_in c.args.sent c.args.reply.now) c.args.kept ListPoints d (ap (list_text s.order.message s.order.start s.order.count) (part_rest s.area.now _ ∙ ap (λ (x : ℕ). drop x s.area.now) a)) c.reply_list.ensures

pub returns-in-ReadRun : goal.returns-in-ReadRun
returns-in-ReadRun c =
    let s = c.args in handling.says c.requires.0 (sent_in c.args.sent c.args.reply.now) c.args.kept ReadRun c.in-ReadRun.is (ap (λ (r : Run). run_text s.order.message r.kind r.start r.count s.area.now) c.run-run.ensures) c.reply_run.ensures

pub returns-in-AxisStatus : goal.returns-in-AxisStatus
returns-in-AxisStatus c =
    let s = c.args in
    handling.says c.requires.0 (sent_in c.args.sent c.args.reply.now) c.args.kept AxisStatus c.in-AxisStatus.is (ap₂ (λ (n : ℕ) (rs : List AxisRecord). axes_text s.order.message (bit_and n s.sent.settings.fitted) rs) (c.number-pattern.ensures ∙ ap number_of c.rest_of-rest.ensures) c.records_of.ensures) c.reply_axes.ensures

pub returns-in-WritePoints : goal.returns-in-WritePoints
returns-in-WritePoints c =
    handling.says c.requires.0 (sent_in c.args.sent c.args.reply.now) c.args.kept WritePoints c.in-WritePoints.is refl c.reply_head.ensures

pub returns-in-ClearRun : goal.returns-in-ClearRun
returns-in-ClearRun c =
    handling.says c.requires.0 (sent_in c.args.sent c.args.reply.now) c.args.kept ClearRun c.in-ClearRun.is refl c.reply_head-in-ClearRun.ensures

pub returns-in-ChangeRun : goal.returns-in-ChangeRun
returns-in-ChangeRun c =
    handling.says c.requires.0 (sent_in c.args.sent c.args.reply.now) c.args.kept ChangeRun c.in-ChangeRun.is refl c.reply_head-in-ChangeRun.ensures

pub returns-in-ShowFlags : goal.returns-in-ShowFlags
returns-in-ShowFlags c =
    let s = c.args in handling.says c.requires.0 (sent_in c.args.sent c.args.reply.now) c.args.kept ShowFlags c.in-ShowFlags.is (ap (λ (r : Run). flags_text s.order.message r.kind r.start r.count s.area.now) c.run-run.ensures) c.reply_flags.ensures

pub returns-in-SetFlag : goal.returns-in-SetFlag
returns-in-SetFlag c =
    handling.says c.requires.0 (sent_in c.args.sent c.args.reply.now) c.args.kept SetFlag c.in-SetFlag.is refl c.reply_head-in-SetFlag.ensures
