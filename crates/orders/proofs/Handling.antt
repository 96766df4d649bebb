-- What each handler needs and says, of a message that was ordered.
use Prim.Native.Nat.{ℕ, ◌+◌, ◌-◌, ◌*◌, ◌≤◌, ◌<◌, ◌^◌}
use mathlib.Core.Path.{◌≡◌, refl, sym, ap, ◌∙◌, subst}
use mathlib.Core.Bool.{true, false}
use mathlib.Core.List.{List}
use mathlib.Core.Logic.{◌⊎◌, inl, inr}
use native.Mathlib.Omega.{arith}
use lib.ListN.{length, take, drop, length-drop}
use borrow.Author.Tests.{eqb-true}
use Rattle.digits.specs.Digits.{all_digits, number_of}
use Rattle.digits.proofs.Inverse.{inverse}
use Rattle.digits.proofs.Laid.{part_rest}
use Rattle.frames.specs.Frame.{content_in}
use Rattle.kinds.specs.declared.Kind.{Kind}
use Rattle.kinds.specs.declared.Held.{Held}
use Rattle.kinds.specs.Kinds.{points_tag, columns_tag, integers_tag, points_of, integers_of, flags_of, kind_of, holds, place_of, size_of}
use Rattle.kinds.proofs.Known.{kind_points, kind_columns, kind_integers, kind_flags, own_kind, sized, within, few, room}
use Rattle.points.specs.Point.{fills_of}
use Rattle.points.proofs.Parts.{all_drop}
use Rattle.table.specs.declared.Follows.{Follows}
use Rattle.table.specs.declared.Follows.TheVariants.{TenBytes, AxisPattern, Points, RunBytes, ChangeType}
use Rattle.table.specs.declared.Action.{Action}
use Rattle.table.specs.declared.Action.TheVariants.{SayBack, CountPoints, ListPoints, ReadRun, AxisStatus, WritePoints, ClearRun, ChangeRun, ShowFlags, SetFlag}
use Rattle.table.specs.declared.Message.{Message}
use Rattle.table.specs.Table.{fields_of, rest_in, follows_right, any_bytes, Narrow}
use Rattle.messages.proofs.Shapes.{Shape}
use Rattle.heads.specs.Laws.{Replied}
use Rattle.writes.specs.Writes.{Ready, Written}
use Rattle.calls.specs.declared.Kept.{Kept}
use Rattle.calls.specs.Calls.{Sent}
use Rattle.refusals.specs.Refusals.{journal_fits}
use Rattle.refusals.proofs.Tested.{journal_fits_lem}
use Rattle.orders.specs.Orders.{writes, new_bytes, said_by}
use Rattle.orders.specs.declared.Order.{Order}
use Rattle.orders.specs.Contract.{kind_in, Ordered, Stores}
use Rattle.orders.proofs.Judging.{Judged, judged_so, writable, not_so}

module _ {x : Order} {frame area : List ℕ} (o : Ordered x frame area) where
  abbrev h : Held
  h = x.held

  abbrev m : Message
  m = x.message

  abbrev start : ℕ
  start = x.start

  abbrev count : ℕ
  count = x.count

  pub content : Judged h (content_in frame) m start count
  content = judged_so h o.fitted o.release frame m start count o.order

  pub rest_needs : Narrow m × (10 ≤ length frame) × (fields_of m ≤ length (content_in frame))
  rest_needs = (content.narrow, o.frame_long, content.fields)

  shape_of : {a : Action} → m.does ≡ a → Shape a m
  shape_of e = subst (λ (a : Action). Shape a m) e content.shape

  -- what follows the fields is as its message has it, and digits but for 200H
  follows_so : (f : Follows) → m.follows ≡ f → follows_right f (kind_of h m.tag).unit count (rest_in m (content_in frame)) ≡ true
  follows_so f e = subst (λ (x : Follows). follows_right x (kind_of h m.tag).unit count (rest_in m (content_in frame)) ≡ true) e content.follows

  all_digits_lem : {t : List ℕ} → t ≡ rest_in m (content_in frame) → any_bytes m.follows ≡ false → all_digits t ≡ true
  all_digits_lem g f = ap all_digits g ∙ all_drop (fields_of m) (content_in frame) (content.digits f)

  -- something of a kind is held: points always, and where a run of it is held
  points_kind : m.tag ≡ points_tag → kind_of h m.tag ≡ points_of h
  points_kind t = ap (kind_of h) t ∙ kind_points h

  points_held : m.tag ≡ points_tag → 1 ≤ (kind_of h m.tag).held
  points_held t = rw (points_kind t) o.sound.some_points

  run_held : 1 ≤ m.start → 1 ≤ m.count → 1 ≤ (kind_of h m.tag).held
  run_held s c = omega (arith, few (kind_of h m.tag) start count (content.held_all s), content.some c)

  points_long : m.tag ≡ points_tag → length area ≡ 40 * h.points
  points_long t = let l = o.area_long (points_held t) ∙ ap size_of (points_kind t) in omega (arith, l)

  -- 200H
  pub same_needs : {t : List ℕ} → m.does ≡ SayBack → t ≡ rest_in m (content_in frame) → length t ≡ 10
  same_needs d e = ap length e ∙ eqb-true _ _ (follows_so TenBytes (shape_of d).1)

  -- 209H
  module _ (d : m.does ≡ ListPoints) where
    inside : (1 ≤ start) × (start + count ≤ 1 + h.points)
    inside =
        let w = within (points_of h) start count (subst (λ (x : Kind). holds x start count ≡ true) (points_kind (shape_of d).0) (content.held_all (shape_of d).1)) in
        (w.0, w.1)

    pub list_place : {k : Kind} → k ≡ kind_of h m.tag → (k.first ≤ start) × (place_of k start < 2 ^ 63)
    list_place e = rw (e ∙ points_kind (shape_of d).0) (inside.0, omega (arith, inside, o.sound.points))

    pub list_at : {k : Kind} {at : ℕ} → k ≡ kind_of h m.tag → at ≡ place_of k start → at ≡ (start - 1) * 40
    list_at e f = f ∙ ap (λ (x : Kind). place_of x start) (e ∙ points_kind (shape_of d).0)

    pub list_room_lem : {at : ℕ} → at ≡ (start - 1) * 40 → at + 40 * count ≤ length area
    list_room_lem e = omega (arith, e, inside, points_long (shape_of d).0)

    pub list_needs : {at : ℕ} → at ≡ (start - 1) * 40 → (start + count ≤ 1501) × (40 * count ≤ length (take (length area - at) (drop at area)))
    list_needs {at} e =
        let r = list_room_lem e in
        (omega (arith, inside, o.sound.points), rw (part_rest area at) (simp length-drop (omega arith)))

  -- a query of a run: where it stands in its area
  run_in : {k : Kind} → k ≡ kind_of h m.tag → 1 ≤ m.start → 1 ≤ m.count
      → (k.first ≤ start) × (count ≤ k.held) × (length area ≡ size_of k) × (place_of k start + count * k.unit ≤ size_of k) × (size_of k < 65536)
  run_in e s c =
      let k = kind_of h m.tag in
      let g = content.held_all s in
      rw e
      ((within k start count g).0, few k start count g, o.area_long (run_held s c), room k start count g, omega (arith, (sized h m.tag o.sound).small))

  -- 210H and 20EH: at most 255 columns, or 100 integers
  few_digits : (m.tag ≡ columns_tag) ⊎ (m.tag ≡ integers_tag) → 1 ≤ m.start → m.count ≡ 2 → 2 * (count * (kind_of h m.tag).unit) ≤ 1000
  few_digits (inl t) s f = rw (ap (kind_of h) t ∙ kind_columns h) (omega (arith, content.few f))
  few_digits (inr t) s f =
      let k = ap (kind_of h) t ∙ kind_integers h in
      let n : count ≤ (integers_of h).held = rw k at (few (kind_of h m.tag) start count (content.held_all s)) in
      rw k (omega (arith, n))

  pub run_needs : {k : Kind} {long : ℕ} → m.does ≡ ReadRun → 1024 ≤ long → k ≡ kind_of h m.tag
      → (Narrow m × (1024 ≤ long) × (k.first ≤ start) × (2 * (count * k.unit) ≤ 1000))
      × ((length area ≡ size_of k) × (place_of k start + count * k.unit ≤ size_of k) × (size_of k < 65536))
  run_needs d l e =
      let x = shape_of d in
      let w = run_in e x.1 (omega (arith, x.2)) in
      ((content.narrow, l, w.0, rw e (few_digits x.0 x.1 x.2)), (w.2, w.3, w.4))

  -- 20DH: at most 300 flags
  pub flags_needs : {k : Kind} {long : ℕ} → m.does ≡ ShowFlags → 1024 ≤ long → k ≡ kind_of h m.tag
      → (Narrow m × (1024 ≤ long) × (k.first ≤ start) × (count * k.unit ≤ 1000))
      × ((length area ≡ size_of k) × (place_of k start + count * k.unit ≤ size_of k) × (size_of k < 65536))
  flags_needs d l e =
      let f = e ∙ ap (kind_of h) (shape_of d).0 ∙ kind_flags h in
      let w = run_in e (shape_of d).1 (shape_of d).2 in
      let n : count ≤ (flags_of h).held = rw f at w.1 in
      ((content.narrow, l, w.0, rw f (omega (arith, n))), (w.2, w.3, w.4))

  -- 212H
  module _ (d : m.does ≡ AxisStatus) {t : List ℕ} (e : t ≡ rest_in m (content_in frame)) where
    pub two_digits : length t ≡ 2
    two_digits = ap length e ∙ eqb-true _ _ (follows_so AxisPattern (shape_of d).1)

    pub one_byte : {n : ℕ} → n ≡ number_of t → n < 256
    one_byte q = let b = (inverse 2).bound t two_digits in omega (arith, b, q)

  -- what the message says, by what it does
  pub says : (s : Sent) (kept : Kept) {reply reply' : List ℕ} {long station : ℕ} {t : List ℕ} (a : Action) → m.does ≡ a → t ≡ said_by a h s kept m start count area
      → Replied reply reply' long station t → Replied reply reply' long station (said_by m.does h s kept m start count area)
  says s kept {reply} {reply'} {long} {station} a d e p =
      subst (λ (x : List ℕ). Replied reply reply' long station x) (e ∙ ap (λ (x : Action). said_by x h s kept m start count area) (sym d)) p

  -- what is said asks for the area of the message's kind alone
  pub said_same : {own : List ℕ} (s : Sent) (kept : Kept) → (1 ≤ (kind_of h m.tag).held → area ≡ own) → said_by m.does h s kept m start count area ≡ said_by m.does h s kept m start count own
  said_same {own} s kept e = go m.does content.shape
    where
      same : (a : Action) → 1 ≤ (kind_of h m.tag).held → said_by a h s kept m start count area ≡ said_by a h s kept m start count own
      same a z = ap (said_by a h s kept m start count) (e z)

      go : (a : Action) → Shape a m → said_by a h s kept m start count area ≡ said_by a h s kept m start count own
      go SayBack x = refl
      go CountPoints x = refl
      go ListPoints x = same ListPoints (points_held x.0)
      go ReadRun x = same ReadRun (run_held x.1 (omega (arith, x.2)))
      go AxisStatus x = refl
      go WritePoints x = refl
      go ClearRun x = refl
      go ChangeRun x = refl
      go ShowFlags x = same ShowFlags (run_held x.1 x.2)
      go SetFlag x = refl

  -- the writes: the board can be written
  module _ {journal : List ℕ} {used : ℕ} (j : journal_fits h journal used ≡ true) where
    pub can_write : {k : Kind} → writes m.does ≡ true → k ≡ kind_of h m.tag → Ready h k start count area journal used
    can_write w f =
        let n = (writable h (content_in frame) m start count content w).run in
        let g = journal_fits_lem h journal used j in
        rw f
        (record {
          sound = o.sound;
          own = own_kind h m.tag;
          some = n.some;
          held_all = n.held_all;
          named = n.named;
          area_long = o.area_long (omega (arith, few (kind_of h m.tag) start count n.held_all, n.some));
          room = omega (arith, n.few_bytes, g.least);
          largest = g.most;
          used_within = g.within;
          entries_whole = g.entries;
        })

    -- 244H
    pub points_needs : {k : Kind} {t : List ℕ} → m.does ≡ WritePoints → k ≡ kind_of h m.tag → t ≡ rest_in m (content_in frame)
        → ((k.unit ≡ 40) × (all_digits t ≡ true) × (fills_of count t ≡ true)) × Ready h k start count area journal used
    points_needs d f g = (
      (
        ap (λ (x : Kind). x.unit) (f ∙ points_kind (shape_of d).0.0),
        all_digits_lem g (rw (shape_of d).1),
        ap (fills_of count) g ∙ follows_so Points (shape_of d).1,
      ),
      can_write (ap writes d) f,
    )

    -- 24EH and 24CH
    pub change_needs : {k : Kind} {t : List ℕ} → m.does ≡ ChangeRun → k ≡ kind_of h m.tag → t ≡ rest_in m (content_in frame)
        → ((all_digits t ≡ true) × (length t ≡ 2 * (count * k.unit))) × Ready h k start count area journal used
    change_needs d f g = (
      (
        all_digits_lem g (rw (shape_of d).1),
        ap length g ∙ eqb-true _ _ (follows_so RunBytes (shape_of d).1) ∙ ap (λ (x : Kind). 2 * (count * x.unit)) (sym f),
      ),
      can_write (ap writes d) f,
    )

    -- 24BH
    pub flag_needs : {k : Kind} {t : List ℕ} → m.does ≡ SetFlag → k ≡ kind_of h m.tag → t ≡ rest_in m (content_in frame)
        → ((k.unit ≡ 1) × (all_digits t ≡ true) × (length t ≡ 1)) × Ready h k start count area journal used
    flag_needs d f g = (
      (
        ap (λ (x : Kind). x.unit) (f ∙ ap (kind_of h) (shape_of d).0 ∙ kind_flags h),
        all_digits_lem g (rw (shape_of d).3),
        ap length g ∙ eqb-true _ _ (follows_so ChangeType (shape_of d).3),
      ),
      can_write (ap writes d) f,
    )

-- what each message stores
module _ {x : Order} {frame area journal : List ℕ} {used : ℕ} where
  pub stays : writes x.message.does ≡ false → Stores x frame area area journal journal used used
  stays w = record { wrote = λ e. not_so (sym w ∙ e); stayed = λ _. (refl, refl, refl) }

  pub stored : {k : Kind} {new area' journal' : List ℕ} {left : ℕ} (a : Action) → x.message.does ≡ a → writes a ≡ true → k ≡ kind_in x
      → new ≡ new_bytes a (kind_in x).unit x.count (rest_in x.message (content_in frame))
      → Written x.held k x.start x.count new area area' journal journal' used left → Stores x frame area area' journal journal' used left
  stored a d w f n y = record { wrote = λ _. rw (d, ← n, ← f) y; stayed = λ e. not_so (sym e ∙ ap writes d ∙ w) }
