-- Demand 2, put together: by the next call, and after any history.
use Prim.Native.Nat.{ℕ, ◌+◌, ◌*◌, ◌≤◌}
use mathlib.Core.Path.{◌≡◌, refl, sym, ap, ◌∙◌, subst}
use mathlib.Core.Bool.{Bool, true, false}
use mathlib.Core.List.{List}
use native.Mathlib.Omega.{arith}
use lib.ListN.{length}
use Rattle.digits.specs.Text.{text}
use Rattle.digits.proofs.Bools.{was_not}
use Rattle.kinds.specs.declared.Held.{Held}
use Rattle.kinds.specs.declared.Lengths.{Lengths}
use Rattle.kinds.specs.Kinds.{points_tag, columns_tag, integers_tag, points_of, held_in, holds, put}
use Rattle.kinds.proofs.Known.{kind_points}
use Rattle.points.specs.Point.{effective_in}
use Rattle.table.specs.declared.Follows.{Follows}
use Rattle.table.specs.declared.Follows.TheVariants.{Nothing, Points}
use Rattle.table.specs.declared.Action.{Action}
use Rattle.table.specs.declared.Action.TheVariants.{WritePoints, ClearRun}
use Rattle.table.specs.declared.Message.{Message}
use Rattle.std.specs.Prelude.{Some}
use Rattle.table.specs.Table.{row}
use Rattle.calls.specs.Calls.{Areas, Sent, Call, lengths_of}
use Rattle.orders.specs.Orders.{rest, writes, new_bytes}
use Rattle.link.specs.Answer.{held, answer_of}
use Rattle.frames.proofs.Three.{said_off, one_of_three}
use Rattle.digits.proofs.Bools.{was_not}
use Rattle.refusals.proofs.Rows.{call_passed}
use Rattle.link.proofs.Carrying.{fine}
use Rattle.demands.specs.History.{message_by, effective_of}
use Rattle.demands.proofs.Own.{own as ours}
use Rattle.demands.specs.Reading.{start_of, count_of, RunRead, IntegersStored, FlagRead, FlagStored, PointsRead, PointsGone, Reads}
use Rattle.demands.specs.Survive.{Accepted, HeardAgain, effective_named, Once, EveryDigitSurvives}
use Rattle.demands.proofs.Refused.{one_number}
use Rattle.demands.proofs.Commands.{writing, clearing, changing, changing_integers, setting, row_of, rows, station_byte}
use Rattle.demands.proofs.Asking.{Took, took}
use Rattle.demands.proofs.Shaped.{Bounds, count_true_lem, passes}
use Rattle.demands.proofs.Written.{wrote, lengths_kept, open_after, counted_still, only_named}
use Rattle.demands.proofs.Kept.{Standing, standing_next}
use Rattle.demands.proofs.Codes.{of_columns, of_integers, run_read}
use Rattle.demands.proofs.Stored.{integers_stored}
use Rattle.demands.proofs.Shown.{flag_read, flag_stored}
use Rattle.demands.proofs.Listed.{tells, points_read, points_gone}
use Rattle.slots.proofs.Counted.{effective_zero, effective_put}
use Rattle.demands.proofs.Slots.{effective_sent}
use Rattle.demands.proofs.Histories.{first, every}
use Rattle.demands.proofs.Lasting.{standing_past}

-- what is read of a write that stands, whichever of the five it is
reads : {h : Held} {a : Areas} {m : Message} {s : Sent} {later : List Sent} → h.points ≤ 1500 → message_by s ≡ Some m → Standing h a m s later
    → Reads ours a m s later
reads {h} {a} {m} {s} {later} sound known t =
    record {
      codes = λ i.
          let e = row_of s 0x24E changing known i rows.2 in
          subst (λ (x : Message). RunRead ours a (text "210") columns_tag x s later) (sym e) (run_read of_columns 0x24E false (there (here e)));
      integers = λ i.
          let e = row_of s 0x24C changing_integers known i rows.3 in
          subst (λ (x : Message). RunRead ours a (text "20E") integers_tag x s later) (sym e) (run_read of_integers 0x24C true (there (here e)));
      stored = λ i.
          let e = row_of s 0x24C changing_integers known i rows.3 in
          subst (λ (x : Message). IntegersStored a x s later) (sym e) (integers_stored (there (here e)));
      flag = λ i.
          let e = row_of s 0x24B setting known i rows.4 in
          subst (λ (x : Message). FlagRead ours a x s later) (sym e) (flag_read (there (here e)));
      flag_stored = λ i.
          let e = row_of s 0x24B setting known i rows.4 in
          subst (λ (x : Message). FlagStored a x s later) (sym e) (flag_stored (there (here e)));
      points = λ i.
          let e = row_of s 0x244 writing known i rows.0 in
          subst (λ (x : Message). PointsRead ours a x s later) (sym e) (points_read (here e) sound);
      cleared = λ i.
          let e = row_of s 0x246 clearing known i rows.1 in
          subst (λ (x : Message). PointsGone ours a x s later) (sym e) (points_gone (here e) sound);
    }
  where
    here : {r : Message} → m ≡ r → Standing h a r s later
    here e = subst (λ (x : Message). Standing h a x s later) e t

    -- what is held is what the areas hold
    there : {r : Message} → Standing h a r s later → Standing (held_in (lengths_of a)) a r s later
    there {r} x = subst (λ (y : Held). Standing y a r s later) (sym t.is_held) x

-- a message that writes slots: each effective one of them is counted once
module _ (id : ℕ) (follows : Follows) (does : Action) (repeats : Bool) where
  abbrev slots : Message
  slots = row id 0 3 3 points_tag follows does repeats

  counted_once : (c : Call) → Took slots c → writes does ≡ true → (many : ℕ)
      → effective_in (count_of slots c.sent) (new_bytes does 40 (count_of slots c.sent) (rest c.sent slots)) ≡ many → Once ours slots c many
  counted_once c t w many e =
      let s = start_of slots c.sent in
      let n = count_of slots c.sent in
      let new = new_bytes does 40 n (rest c.sent slots) in
      let r = wrote slots c t w in
      let stored : (answer_of c).areas.points ≡ put (points_of (held c)) s new c.areas.points = rw (kind_points (held c)) at r.own in
      let all : holds (points_of (held c)) s n ≡ true = rw (kind_points (held c)) at r.run.run.held_all in
      let many_bytes : length new ≡ n * 40 = rw (kind_points (held c)) at r.run.long in
      let long : length c.areas.points ≡ (held c).points * 40 = omega (arith, (fine c t.heard).points.whole_slots) in
      ap (λ (x : Lengths). effective_in (held_in x).points (answer_of c).areas.points + effective_named slots c) (lengths_kept slots c t w)
      ∙ ap (λ (x : List ℕ). effective_in (held c).points x + effective_named slots c) stored
      ∙ effective_put (held c) s n new c.areas.points all long many_bytes
      ∙ ap (λ (x : ℕ). effective_of c.areas + x) e

-- the frame of an accepted call was taken
pub taken : {id : ℕ} (c : Call) (a : Accepted id c) → Took a.message c
taken c a = took a.message c a.known (one_number.frame c ∙ a.number)

pub heard_again : HeardAgain
heard_again id c a =
    let t = taken c a in
    let p = call_passed c t.heard in
    let f = fine c t.heard in (
      record { reply_long = f.reply_long; axes_fit_lem = p.early.axes_fit_lem; release_fits_lem = p.early.release_fits_lem; station_byte = station_byte c.sent.settings.release c.sent.settings.station c.sent.frame f.frame_long p.station },
      λ o. let r = c.sent.settings.release in was_not (rw (said_off r c.sent.frame ((one_of_three r c.sent.frame).off.1 o)) at p.allowed),
    )

written_once : (c : Call) (a : Accepted 0x244 c) → Once ours a.message c (count_of a.message c.sent)
written_once c a =
    let e = row_of c.sent 0x244 writing a.known a.named rows.0 in
    let t = subst (λ (m : Message). Took m c) e (taken c a) in
    subst (λ (m : Message). Once ours m c (count_of m c.sent)) (sym e)
    (counted_once 0x244 Points WritePoints true c t refl (count_of writing c.sent)
    (effective_sent c.sent.settings.fitted (count_of writing c.sent) (rest c.sent writing) (was_not t.right.pattern)))

cleared_once : (c : Call) (a : Accepted 0x246 c) → Once ours a.message c 0
cleared_once c a =
    let e = row_of c.sent 0x246 clearing a.known a.named rows.1 in
    let t = subst (λ (m : Message). Took m c) e (taken c a) in
    subst (λ (m : Message). Once ours m c 0) (sym e) (counted_once 0x246 Nothing ClearRun _ c t refl 0 (effective_zero (count_of clearing c.sent)))

-- demand 2
pub every_digit_survives : EveryDigitSurvives ours
every_digit_survives =
    record {
      accepted = λ id c a. one_number.frame c ∙ a.number;
      next = λ id c a. reads (fine c (taken c a).heard).sound_held.points a.known (standing_next a.message c (taken c a) a.bytes);
      tells = λ id c a. tells (answer_of c).areas (open_after a.message c (taken c a) a.bytes);
      count_kept = λ id c a. counted_still a.message c (taken c a);
      written_once = written_once;
      cleared_once = cleared_once;
      others = λ id c a. only_named a.message c (taken c a);
      later = λ h size s l g events.
          let b : Bounds h size = record { sound = s; least = l; largest = g } in
          let v = every b _ (first b) events in
          record {
            counted = count_true_lem b v.shape;
            tells = tells _ (passes b v.shape);
            read = λ earlier later s m q known. reads b.sound.points known (standing_past b _ v earlier later s m q known);
          };
    }
