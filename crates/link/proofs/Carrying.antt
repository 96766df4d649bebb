-- What a heard frame assures of the areas, and of its order.
use Prim.Native.Nat.{ℕ, ◌≤◌}
use mathlib.Core.Path.{◌≡◌, sym, ap, ◌∙◌}
use mathlib.Core.Bool.{true}
use mathlib.Core.List.{List}
use native.Mathlib.Omega.{arith}
use lib.ListN.{length}
use borrow.Author.Tests.{ltb-false, eqb-true}
use Rattle.digits.proofs.Bools.{was_not}
use Rattle.frames.specs.Frame.{content_in}
use Rattle.kinds.specs.Kinds.{Sound, kind_of, held_in, size_of}
use Rattle.std.specs.Prelude.{Option, Some}
use Rattle.table.specs.declared.Message.{Message}
use Rattle.table.specs.Table.{message_of}
use Rattle.messages.specs.Asked.{asked_of}
use Rattle.messages.proofs.Judged.{told}
use Rattle.calls.specs.Calls.{Areas, Call, lengths_of, area_in}
use Rattle.calls.proofs.Tagged.{each_long}
use Rattle.refusals.specs.Refusals.{count_fits, miscounted, silent_of}
use Rattle.refusals.proofs.Rows.{AreasPass, call_passed}
use Rattle.refusals.proofs.Tested.{Points, Journal, points_fit_lem, variables_fit_lem, journal_fits_lem, shaped_long, sound}
use Rattle.orders.specs.declared.Order.{Order}
use Rattle.orders.specs.Contract.{Ordered}
use Rattle.link.specs.Answer.{held}
use Rattle.link.specs.Contract.{Heard}

-- what the tests before a reply assure
pub record Fine (c : Call) : Type 0 where
  pub reply_long : 1024 ≤ length c.sent.reply
  pub points : Points (length c.areas.points)
  pub areas : AreasPass (lengths_of c.areas) c.areas.journal c.areas.kept
  pub journal : Journal (held c) c.areas.journal c.areas.kept.used
  pub frame_long : 10 ≤ length c.sent.frame
  pub sound_held : Sound (held c)

pub fine : (c : Call) → silent_of c ≡ 0 → Fine c
fine c e =
    let p = (call_passed c e).early in
    record {
      reply_long = ltb-false _ _ p.reply_long;
      points = points_fit_lem (length c.areas.points) p.areas.points;
      areas = p.areas;
      journal = journal_fits_lem (held c) c.areas.journal c.areas.kept.used p.areas.journal_fits_lem;
      frame_long = shaped_long c.sent.frame p.shape;
      sound_held = sound (lengths_of c.areas) p.areas.points p.areas.variables;
    }

-- the area of each kind is as long as it should be
pub areas_long : (a : Areas) → AreasPass (lengths_of a) a.journal a.kept → (tag : ℕ) → length (area_in tag a) ≡ size_of (kind_of (held_in (lengths_of a)) tag)
areas_long a p =
    let v = variables_fit_lem (length a.integers) (length a.flags) a.firsts p.variables in
    each_long (held_in (lengths_of a)) a (omega (arith, (points_fit_lem (length a.points) p.points).whole_slots)) (eqb-true _ _ p.columns) v.integers_long
    v.flags_long

-- the message of an order is the frame's own
pub ordered_message : (c : Call) (o : Order) → Heard c o → message_of c.sent.settings.release c.sent.frame ≡ Some o.message
unfolding asked_of
ordered_message c o e =
    (told (held c) c.sent.settings.fitted c.sent.settings.release (message_of c.sent.settings.release c.sent.frame) (content_in c.sent.frame)
    o.message o.start o.count e.order).message

-- and its count fits with the slots: refusal 11 does not hold
pub counts : (c : Call) (o : Order) → Heard c o → count_fits o.message.does c.areas.points c.areas.kept.effective ≡ true
counts c o e =
    was_not
    (sym (ap (λ (n : Option Message). miscounted n c.areas.points c.areas.kept.effective) (ordered_message c o e)) ∙ (call_passed c e.silent_0).count)

-- the order of a heard frame, with the area of its message's kind
pub ordered : (c : Call) (o : Order) → Heard c o → {area : List ℕ}
    → (1 ≤ (kind_of (held c) o.message.tag).held → area ≡ area_in o.message.tag c.areas) → Ordered o c.sent.frame area
ordered c o e w =
    let f = fine c e.silent_0 in
    record {
      sound = rw e.held_is f.sound_held;
      fitted = c.sent.settings.fitted;
      release = c.sent.settings.release;
      frame_long = f.frame_long;
      order = rw e.held_is e.order;
      area_long = rw e.held_is (λ z. ap length (w z) ∙ areas_long c.areas f.areas o.message.tag);
    }
