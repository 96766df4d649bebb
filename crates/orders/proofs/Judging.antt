-- What the judgement assures of a message's content, and of a run that is to be written.
use Prim.Native.Nat.{ℕ, zero, suc, ◌+◌, ◌*◌, ◌≤◌, ◌<◌, ◌^◌}
use mathlib.Core.Path.{◌≡◌, refl, sym, ap, ◌∙◌, subst}
use mathlib.Core.Bool.{Bool, true, false, cond, not, ◌&&◌}
use mathlib.Core.Logic.{◌⊎◌, inl, inr}
use mathlib.Core.List.{List}
use native.Mathlib.Omega.{arith}
use native.Mathlib.Nat.{mul-le-mul_right}
use lib.Dec.{eqb, leb}
use lib.ListN.{length, take, drop, length-append, length-drop, length-replicate}
use lib.Seq.{length-take-le}
use borrow.Author.Tests.{eqb-true, eqb-false, leb-true, le-leb}
use Rattle.digits.specs.Digits.{all_digits, number_of}
use Rattle.digits.proofs.Inverse.{inverse, and_left, and_right}
use Rattle.digits.proofs.Bools.{was_not}
use Rattle.frames.specs.Frame.{content_in}
use Rattle.kinds.specs.declared.Kind.{Kind}
use Rattle.kinds.specs.declared.Held.{Held}
use Rattle.kinds.specs.Kinds.{points_tag, columns_tag, integers_tag, kind_of, holds}
use Rattle.kinds.proofs.Known.{kind_points, kind_columns, kind_integers, kind_flags, entry_room, few}
use Rattle.pairs.proofs.Paired.{length_bytes_in}
use Rattle.points.specs.Point.{length_of, point_of, slot_of, slots_of}
use Rattle.points.proofs.Slotted.{length_point_slot}
use Rattle.table.specs.declared.Follows.TheVariants.{RunBytes}
use Rattle.table.specs.declared.Action.{Action}
use Rattle.table.specs.declared.Action.TheVariants.{SayBack, CountPoints, ListPoints, ReadRun, AxisStatus, WritePoints, ClearRun, ChangeRun, ShowFlags, SetFlag}
use Rattle.table.specs.declared.Message.{Message}
use Rattle.messages.specs.Asked.{Order, asked_of}
use Rattle.table.specs.Table.{message_of, fields_of, start_in, count_in, rest_in, follows_right, any_bytes, Narrow}
use Rattle.messages.proofs.Judged.{told, written}
use Rattle.messages.proofs.Shapes.{Shape, shaped}
use Rattle.orders.specs.Orders.{writes, new_bytes}

-- so many slots are forty bytes each
pub slots_long : (count : ℕ) (digits : List ℕ) → length (slots_of count digits) ≡ count * 40
unfolding slots_of
slots_long zero digits = refl
slots_long (suc count) digits =
    let n = slots_long count (drop (length_of digits) digits) in
    length-append (slot_of (point_of digits)) (slots_of count (drop (length_of digits) digits)) ∙ omega (arith, length_point_slot digits)

-- what the judgement assures of a message's content
pub record Judged (h : Held) (content : List ℕ) (m : Message) (start count : ℕ) : Type 0 where
  pub narrow : Narrow m
  pub shape : Shape m.does m
  pub start_is : start ≡ start_in m content
  pub count_is : count ≡ count_in m content
  pub fields : fields_of m ≤ length content
  pub follows : follows_right m.follows (kind_of h m.tag).unit count (rest_in m content) ≡ true
  pub digits : any_bytes m.follows ≡ false → all_digits content ≡ true
  pub some : 1 ≤ m.count → 1 ≤ count
  pub held_all : 1 ≤ m.start → holds (kind_of h m.tag) start count ≡ true
  pub few : m.count ≡ 2 → count ≤ 255
  pub alone : m.count ≡ 0 → count ≡ 1

one : (k : ℕ) → (k ≡ 0 → ⊥) → 1 ≤ k
one zero n = absurd (n refl)
one (suc k) n = omega arith

-- a joined test that failed, where its first part holds
second : (a b : Bool) → a ≡ true → a && b ≡ false → b ≡ false
second a b e f = rw e at f

pub judged_so : (h : Held) (fitted release : ℕ) (frame : List ℕ) (m : Message) (start count : ℕ) → asked_of h fitted release frame ≡ Order m start count
    → Judged h (content_in frame) m start count
unfolding asked_of
judged_so h fitted release frame m start count e =
    let s = content_in frame in
    let t = told h fitted release (message_of release frame) s m start count e in
    let r = t.rows in
    let x = shaped release frame m t.message in
    let l = was_not r.long in
    let room : fields_of m ≤ length s = leb-true _ _ (and_left (leb (fields_of m) (length s)) (follows_right m.follows (kind_of h m.tag).unit (count_in m s) (rest_in m s)) l) in
    let f = and_right (leb (fields_of m) (length s)) (follows_right m.follows (kind_of h m.tag).unit (count_in m s) (rest_in m s)) l in
    record {
      narrow = x.narrow;
      shape = x.shape;
      start_is = t.start_is;
      count_is = t.count_is;
      fields = room;
      follows = subst (λ (k : ℕ). follows_right m.follows (kind_of h m.tag).unit k (rest_in m s) ≡ true) (sym t.count_is) f;
      digits = λ a. written release m s a r.digits;
      some = λ a. one count (λ z. eqb-false _ _ (second (leb 1 m.count) (eqb (count_in m s) 0) (le-leb _ _ a) r.some) (sym t.count_is ∙ z));
      held_all = λ a.
          let q = was_not (second (leb 1 m.start) (not (holds (kind_of h m.tag) (start_in m s) (count_in m s))) (le-leb _ _ a) r.held_all) in
          subst (λ (x : ℕ). holds (kind_of h m.tag) x count ≡ true) (sym t.start_is) (subst (λ (k : ℕ). holds (kind_of h m.tag) (start_in m s) k ≡ true) (sym t.count_is) q);
      few = λ a. few_digits m s a room t.count_is;
      alone = λ a. t.count_is ∙ rw a;
    }
  where
    few_digits : (m : Message) (s : List ℕ) {k : ℕ} → m.count ≡ 2 → fields_of m ≤ length s → k ≡ count_in m s → k ≤ 255
    few_digits m s a r e =
        let w = take m.count (drop (m.program + m.start) s) in
        let l : length w ≡ 2 = length-take-le m.count (drop (m.program + m.start) s) (simp length-drop (omega arith)) ∙ a in
        let b : number_of w < 16 ^ 2 = (inverse 2).bound w l in
        let q : count_in m s ≡ number_of w = rw a in
        omega (arith, e, q)

-- what a message's kind holds, in one look
pub record Named (h : Held) (tag start count : ℕ) : Type 0 where
  pub some : 1 ≤ count
  pub held_all : holds (kind_of h tag) start count ≡ true
  pub named : count ≤ (kind_of h tag).most
  pub few_bytes : 5 + count * (kind_of h tag).unit ≤ 40 * h.points + 500

named_so : (h : Held) (tag start count : ℕ) → 1 ≤ count → holds (kind_of h tag) start count ≡ true → count ≤ (kind_of h tag).most → Named h tag start count
named_so h tag start count o e m =
    let u : count * (kind_of h tag).unit ≤ (kind_of h tag).most * (kind_of h tag).unit = mul-le-mul_right (kind_of h tag).unit m in
    record { some = o; held_all = e; named = m; few_bytes = omega (arith, u, entry_room h tag) }

-- a write's run, whatever the message: named, and as many bytes as it has
pub record Writable (h : Held) (content : List ℕ) (m : Message) (start count : ℕ) : Type 0 where
  pub run : Named h m.tag start count
  pub long : length (new_bytes m.does (kind_of h m.tag).unit count (rest_in m content)) ≡ count * (kind_of h m.tag).unit

pub not_so : {A : Type 0} → false ≡ true → A
not_so e = absurd (let z : ◌≡◌ {A = ℕ} 0 1 = ap (λ (b : Bool). cond b 1 0) e in omega arith)

pub writable : (h : Held) (content : List ℕ) (m : Message) (start count : ℕ) → Judged h content m start count → writes m.does ≡ true → Writable h content m start count
writable h content m start count j w = go m.does refl j.shape
  where
    -- of points and of integers a write can name all
    all : {k : Kind} → kind_of h m.tag ≡ k → k.held ≡ k.most → 1 ≤ m.start → count ≤ (kind_of h m.tag).most
    all e f s = let n = few (kind_of h m.tag) start count (j.held_all s) in omega (arith, n, ap (λ (x : Kind). x.held) e, ap (λ (x : Kind). x.most) e, f)

    points : m.tag ≡ points_tag → 1 ≤ m.start → 1 ≤ m.count → Named h m.tag start count
    points t s k = named_so h m.tag start count (j.some k) (j.held_all s) (all (ap (kind_of h) t ∙ kind_points h) refl s)

    -- of columns 255, since the count has two digits
    run_most : (m.tag ≡ columns_tag) ⊎ (m.tag ≡ integers_tag) → 1 ≤ m.start → m.count ≡ 2 → count ≤ (kind_of h m.tag).most
    run_most (inl t) s k = rw (ap (kind_of h) t ∙ kind_columns h) (j.few k)
    run_most (inr t) s k = all (ap (kind_of h) t ∙ kind_integers h) refl s

    long : {n : ℕ} (a : Action) → m.does ≡ a → length (new_bytes a (kind_of h m.tag).unit count (rest_in m content)) ≡ n
        → length (new_bytes m.does (kind_of h m.tag).unit count (rest_in m content)) ≡ n
    long a e f = ap (λ (b : Action). length (new_bytes b (kind_of h m.tag).unit count (rest_in m content))) e ∙ f

    go : (a : Action) → m.does ≡ a → Shape a m → Writable h content m start count
    go SayBack e x = not_so (ap writes (sym e) ∙ w)
    go CountPoints e x = not_so (ap writes (sym e) ∙ w)
    go ListPoints e x = not_so (ap writes (sym e) ∙ w)
    go ReadRun e x = not_so (ap writes (sym e) ∙ w)
    go AxisStatus e x = not_so (ap writes (sym e) ∙ w)
    go ShowFlags e x = not_so (ap writes (sym e) ∙ w)
    go WritePoints e x =
        record {
          run = points x.0.0 x.0.1 x.0.2;
          long = long WritePoints e (slots_long count (rest_in m content) ∙ ap (λ (k : Kind). count * k.unit) (sym (kind_points h) ∙ ap (kind_of h) (sym x.0.0)));
        }
    go ClearRun e x =
        record { run = points x.0 x.1 x.2; long = long ClearRun e (length-replicate (count * (kind_of h m.tag).unit) 0) }
    go ChangeRun e x =
        let f : follows_right RunBytes (kind_of h m.tag).unit count (rest_in m content) ≡ true = rw x.1 at j.follows in
        record {
          run = named_so h m.tag start count (j.some (omega (arith, x.0.2))) (j.held_all x.0.1) (run_most x.0.0 x.0.1 x.0.2);
          long = long ChangeRun e (length_bytes_in (count * (kind_of h m.tag).unit) (rest_in m content) (eqb-true _ _ f));
        }
    go SetFlag e x =
        let k = ap (kind_of h) x.0 ∙ kind_flags h in
        let o = j.alone x.2 in
        record {
          run = named_so h m.tag start count (omega (arith, o)) (j.held_all x.1) (rw k (omega (arith, o)));
          long = long SetFlag e (rw (o, k));
        }
