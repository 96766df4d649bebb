-- No reply is longer than 1,024 bytes: what each message's reply says, by what it has the board do.
use Prim.Native.Nat.{ℕ, zero, suc, ◌+◌, ◌-◌, ◌*◌, ◌/◌, ◌≤◌}
use mathlib.Core.Path.{◌≡◌, refl}
use mathlib.Core.Bool.{Bool, true, false}
use mathlib.Core.List.{List, ◌++◌}
use native.Mathlib.Omega.{arith}
use lib.Bits.{bit_and, and_le_l}
use lib.Dec.{eqb, leb}
use lib.ListN.{length, drop, get_or, replicate, length-append}
use borrow.Author.Tests.{leb-true}
use Rattle.axes.specs.Records.{records_of}
use Rattle.digits.specs.Digits.{number_of}
use Rattle.digits.proofs.Bools.{either}
use Rattle.frames.specs.Frame.{normal, error, three_of}
use Rattle.frames.proofs.Closing.{length_reply}
use Rattle.kinds.specs.Kinds.{kind_of, place_of}
use Rattle.points.specs.Axes.{axes_of}
use Rattle.points.proofs.Ones.{at_most}
use Rattle.table.specs.declared.Action.{Action}
use Rattle.table.specs.declared.Action.TheVariants.{SayBack, CountPoints, ListPoints, ReadRun, AxisStatus, WritePoints, ClearRun, ChangeRun, ShowFlags, SetFlag}
use Rattle.table.specs.declared.Message.{Message}
use Rattle.table.specs.Table.{Narrow}
use Rattle.messages.specs.Asked.{Asked, Refused, Order}
use Rattle.listing.specs.Listing.{listing, listed, joined}
use Rattle.heads.specs.Heads.{head_of, run_text, flags_text}
use Rattle.queries.specs.Replies.{list_text}
use Rattle.heads.proofs.Texts.{head_repeating, head_alone, length_run, length_flags}
use Rattle.queries.proofs.Texts.{length_list, length_axes}
use Rattle.calls.specs.Calls.{Call, Outcome, area_in}
use Rattle.refusals.specs.Refusals.{silent_of}
use Rattle.orders.specs.Orders.{rest, said_by}
use Rattle.link.specs.Answer.{held, asked, text_of}
use Rattle.link.proofs.Carrying.{fine, ordered}
use Rattle.orders.specs.Contract.{Ordered}
use Rattle.orders.proofs.Handling as handling
use Rattle.demands.specs.Replied.{ReplyFits}
use Rattle.demands.proofs.Refused.{answer_either}

-- what is listed stays within its room, one point more too
one_more_lem : (s : List ℕ) (ps : List (List ℕ)) (room : ℕ) → length s ≤ room → length (joined ps) ≤ room - length s → length (s ++ joined ps) ≤ room
one_more_lem s ps room h k = simp length-append (omega arith)

listed_within : (room count number : ℕ) (slots : List ℕ) → length (joined (listed room count number slots)) ≤ room
unfolding listed
listed_within room zero number slots = omega arith
listed_within room (suc count) number slots =
    let one = listing number slots in
    let skipped = listed_within room count (suc number) (drop 40 slots) in
    let behind = listed_within (room - length one) count (suc number) (drop 40 slots) in
    either (λ (ps : List (List ℕ)). length (joined ps) ≤ room) (eqb (get_or slots 0 0) 0) (λ _. skipped)
    (λ _.
    either (λ (ps : List (List ℕ)). length (joined ps) ≤ room) (leb (length one) room)
    (λ e. one_more_lem one (listed (room - length one) count (suc number) (drop 40 slots)) room (leb-true (length one) room e) behind)
    (λ _. omega arith))

-- six bytes before them
list_short : (m : Message) (start count : ℕ) (slots : List ℕ) → length (list_text m start count slots) ≤ 1017
list_short m start count slots = rw (length_list m start count _ slots refl) (omega (arith, listed_within 1011 count start slots))

-- a head is short
head_short : (m : Message) (start count : ℕ) → Narrow m → length (head_of m start count) ≤ 15
head_short m start count n = go m.repeats refl
  where
    go : (b : Bool) → m.repeats ≡ b → length (head_of m start count) ≤ 15
    go true t = let h = head_repeating (replicate 6 0) m start count _ (omega arith) refl _ _ n t refl refl in omega (arith, h.0)
    go false t = let h = head_alone (replicate 6 0) m start count _ (omega arith) refl t in omega (arith, h.0)

-- header, station, SC, CR and LF are seven bytes more
abbrev Short : List ℕ → Type 0
Short t = length t ≤ 1017

module _ (c : Call) (m : Message) (start count : ℕ) (z : silent_of c ≡ 0) (e : asked c ≡ Order m start count) where
  abbrev area : List ℕ
  area = area_in m.tag c.areas

  order : Ordered (record { message = m; start = start; count = count; held = held c }) c.sent.frame area
  order = ordered c _ (record { silent_0 = z; held_is = refl; order = e }) (λ _. refl)

  head : Short (head_of m start count)
  head = omega (arith, head_short m start count (handling.content order).narrow)

  -- a run's digits behind the head
  run_short : (t : List ℕ) (n : ℕ) → n ≤ 1000 → length t ≡ 3 + length (head_of m start count) - 3 + n → Short t
  run_short t n l e = let s = head_short m start count (handling.content order).narrow in omega (arith, e, l, s)

  -- what is said after the station, by what the message has the board do
  said_short : (a : Action) → m.does ≡ a → Short (said_by a (held c) c.sent c.areas.kept m start count area)
  said_short SayBack d = omega (arith, handling.same_needs order d refl)
  said_short CountPoints d = omega arith
  said_short ListPoints d = list_short m start count _
  said_short ReadRun d =
      let k = kind_of (held c) m.tag in
      let r = handling.run_needs order d (fine c z).reply_long refl in
      run_short (run_text m k start count area) (2 * (count * k.unit)) r.0.3
      (length_run m k start count (3 + length (head_of m start count)) (place_of k start) (count * k.unit) area refl refl refl (omega (arith, r.1)))
  said_short AxisStatus d =
      let p = bit_and (number_of (rest c.sent m)) c.sent.settings.fitted in
      let b = handling.one_byte order d refl refl in
      let l = and_le_l (number_of (rest c.sent m)) c.sent.settings.fitted in
      rw (length_axes m p (length (axes_of p)) (records_of c.sent.axes) refl) (omega (arith, at_most p (omega arith)))
  said_short WritePoints d = head
  said_short ClearRun d = head
  said_short ChangeRun d = head
  said_short ShowFlags d =
      let k = kind_of (held c) m.tag in
      let r = handling.flags_needs order d (fine c z).reply_long refl in
      let l = length_flags m k start count (3 + length (head_of m start count)) (place_of k start) (count * k.unit) area refl refl refl (omega (arith, r.1)) in
      run_short (flags_text m k start count area) (2 * ((count * k.unit + 7) / 8)) (omega (arith, r.0.3)) l
  said_short SetFlag d = head

-- the reply to what a heard frame asks
asked_short : (c : Call) (a : Asked) → silent_of c ≡ 0 → asked c ≡ a → length (text_of c a) ≤ 1024
asked_short c (Refused k) z e = rw (length_reply error c.sent.settings.station (three_of k)) (omega arith)
asked_short c (Order m start count) z e =
    rw (length_reply normal c.sent.settings.station (said_by m.does (held c) c.sent c.areas.kept m start count (area_in m.tag c.areas)))
    (omega (arith, said_short c m start count z e m.does refl))

pub reply_fits : ReplyFits
reply_fits c =
    answer_either c (λ (o : Outcome). length o.text ≤ 1024)
    (λ z. asked_short c (asked c) z refl)
    (λ _. omega arith)
