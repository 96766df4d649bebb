-- 244H or 246H, then 209H and 208H: the points that are left, listed and counted.
use Prim.Native.Nat.{ℕ, ◌+◌, ◌-◌, ◌*◌, ◌≤◌, ◌<◌}
use mathlib.Core.Path.{◌≡◌, refl, sym, ap, ap₂, ◌∙◌, subst}
use mathlib.Core.Bool.{Bool, true, false}
use mathlib.Core.List.{List, [], ◌∷◌, ◌++◌}
use native.Mathlib.Omega.{arith}
use lib.ListN.{length, take, drop, get_or, length-append, length-take, length-drop, take-append-drop}
use lib.Seq.{take_all}
use borrow.Author.Tests.{eqb-true, le-leb}
use Rattle.digits.specs.Digits.{byte_of, capitals, digits_of, all_digits}
use Rattle.digits.specs.Text.{text}
use Rattle.digits.proofs.Inverse.{inverse}
use Rattle.digits.proofs.Capitals.{length_capitals}
use Rattle.digits.proofs.Bools.{was_not}
use Rattle.kinds.specs.declared.Held.{Held}
use Rattle.kinds.specs.Kinds.{points_tag, points_of, held_in, holds, run_of}
use Rattle.kinds.proofs.Known.{kind_points, within}
use Rattle.table.specs.declared.Follows.{Follows}
use Rattle.table.specs.declared.Follows.TheVariants.{Nothing, Points}
use Rattle.table.specs.declared.Action.{Action}
use Rattle.table.specs.declared.Action.TheVariants.{ListPoints, WritePoints, ClearRun}
use Rattle.table.specs.declared.Message.{Message}
use Rattle.std.specs.Prelude.{Some}
use Rattle.table.specs.Table.{row, start_in, count_in, patterns_fit}
use Rattle.messages.proofs.Judged.{Right}
use Rattle.messages.proofs.Capitals as capital
use Rattle.points.proofs.Parts.{all_drop}
use Rattle.listing.specs.Listing.{listed}
use Rattle.calls.specs.Calls.{Areas, Sent, lengths_of}
use Rattle.refusals.proofs.Tested.{sound, true_fits}
use Rattle.orders.specs.Orders.{writes, new_bytes}
use Rattle.orders.proofs.Judging.{writable}
use Rattle.demands.specs.History.{effective_of, CountTrue}
use Rattle.demands.proofs.Own.{own as ours}
use Rattle.demands.specs.Reading.{content, start_of, count_of, rest_of, untouched, Says, sent_by, fitting, lists, list_room, asks_points, PointsRead, PointsGone, slots_from, Tells}
use Rattle.demands.proofs.Commands.{counting, listing, writing, clearing, named}
use Rattle.demands.proofs.Asking.{Open, says, same_start, same_count, query_right, start_said, count_said, asks_right}
use Rattle.demands.proofs.Codes.{of_columns, of_integers, reads_any}
use Rattle.demands.proofs.Shown.{shows_any}
use Rattle.demands.proofs.Kept.{Standing, right_here}
use Rattle.demands.proofs.Slots.{listed_sent, listed_one_sent, listed_zero, zero_part}

-- what a 209H lists, from the slots that it names on
list_said : (a : Areas) (s : List ℕ) (ls : List (List ℕ)) → Open a → ((fitted release : ℕ) → Right (held_in (lengths_of a)) fitted release listing s) → length s ≤ 6
    → listed 1011 (count_in listing s) (start_in listing s) (drop ((start_in listing s - 1) * 40) a.points) ≡ ls → Says ours a (text "209" ++ s) (lists ls)
unfolding byte_of
list_said a s ls o r h e =
    says a (text "209" ++ s) (lists ls) listing o refl (omega arith) (omega arith) refl named.1 r (λ x frame. ap lists e)

-- what is told of all that is held
module _ (a : Areas) (o : Open a) where
  abbrev h : Held
  h = held_in (lengths_of a)

  -- a 208H has no content to test, and says how many slots are effective, where the count is true
  counted : CountTrue a → Says ours a (text "208") (text "208" ++ digits_of 3 (effective_of a))
  unfolding byte_of
  counted t =
      says a (text "208") (text "208" ++ digits_of 3 (effective_of a)) counting o (was_not (true_fits (Some counting) a.points a.kept.effective t)) (omega arith) (omega arith) refl named.0
      (λ fitted release. record { digits = refl; long = refl; program = refl; some = refl; held_all = refl; pattern = refl; type = refl })
      (λ x frame. ap (λ (n : ℕ). text "208" ++ digits_of 3 n) t)

  -- a 209H of any points lists those of them that are effective
  pub lists_any : (start count : ℕ) → 1 ≤ count → holds (points_of h) start count ≡ true
      → Says ours a (asks_points start count) (lists (listed list_room count start (slots_from start a)))
  lists_any start count some all =
      let v = within (points_of h) start count all in
      let few = (sound (lengths_of a) o.points o.variables).points in
      let n = start_said 0x209 0 3 3 points_tag ListPoints false start count (omega (arith, v.1, few)) (omega (arith, v.0, v.1, few)) (omega arith) in
      let c = count_said 0x209 0 3 3 points_tag ListPoints false start count (omega (arith, v.1, few)) (omega (arith, v.0, v.1, few)) (omega arith) in
      list_said a (digits_of 3 start ++ digits_of 3 count) (listed list_room count start (slots_from start a)) o
      (asks_right 0x209 0 3 3 points_tag ListPoints false start count (omega (arith, v.1, few)) (omega (arith, v.0, v.1, few)) (omega arith) h some (rw (kind_points h) all))
      (simp length-append (omega (arith, (inverse 3).as_many start, (inverse 3).as_many count)))
      (ap₂ (λ (x y : ℕ). listed list_room x y (slots_from y a)) c n)

  pub tells : Tells ours a
  tells =
      record {
        counted = counted;
        listed = lists_any;
        columns = reads_any of_columns a o;
        integers = reads_any of_integers a o;
        flags = shows_any a o;
      }

-- a message that writes slots, with what it wrote
module _ (id : ℕ) (follows : Follows) (does : Action) (repeats : Bool) where
  abbrev slots : Message
  slots = row id 0 3 3 points_tag follows does repeats

  module _ {h : Held} {a : Areas} {s : Sent} {later : List Sent} (t : Standing h a slots s later) (w : writes does ≡ true) where
    -- its bytes
    abbrev new : List ℕ
    new = new_bytes does 40 (count_of slots s) (rest_of slots s)

    run_held : holds (points_of h) (start_of slots s) (count_of slots s) ≡ true
    run_held = rw (kind_points h) at (writable h (content s) slots (start_of slots s) (count_of slots s) t.ordered.assured w).run.held_all

    as_many : length new ≡ count_of slots s * 40
    as_many = rw (kind_points h) at (writable h (content s) slots (start_of slots s) (count_of slots s) t.ordered.assured w).long

    -- slots of it stand where a 209H looks, before whatever follows
    slots_there : (number many : ℕ) → start_of slots s ≤ number → number + many ≤ start_of slots s + count_of slots s → untouched points_tag number many later ≡ true
        → drop ((number - 1) * 40) a.points
        ≡ take (many * 40) (drop ((number - start_of slots s) * 40) new) ++ drop (many * 40) (drop ((number - 1) * 40) a.points)
    unfolding run_of
    slots_there number many l m u =
        sym (take-append-drop (many * 40) (drop ((number - 1) * 40) a.points))
        ∙ ap (λ (x : List ℕ). x ++ drop (many * 40) (drop ((number - 1) * 40) a.points)) (rw (kind_points h) at (t.kept w number many l m u))

    -- all of them
    pub all_there : untouched points_tag (start_of slots s) (count_of slots s) later ≡ true
        → drop ((start_of slots s - 1) * 40) a.points ≡ new ++ drop (count_of slots s * 40) (drop ((start_of slots s - 1) * 40) a.points)
    all_there u =
        let z : (start_of slots s - start_of slots s) * 40 ≡ 0 = omega arith in
        slots_there (start_of slots s) (count_of slots s) (omega arith) (omega arith) u
        ∙ ap (λ (x : List ℕ). x ++ drop (count_of slots s * 40) (drop ((start_of slots s - 1) * 40) a.points))
        (ap (λ (x : ℕ). take (count_of slots s * 40) (drop x new)) z ∙ take_all (count_of slots s * 40) new (omega (arith, as_many)))

    -- one of them, asked for alone
    module _ (i : ℕ) (below : i < count_of slots s) (u : untouched points_tag (start_of slots s + i) 1 later ≡ true) where
      abbrev number : ℕ
      number = start_of slots s + i

      abbrev behind : List ℕ
      behind = drop 40 (drop ((number - 1) * 40) a.points)

      one_there : drop ((number - 1) * 40) a.points ≡ take 40 (drop (i * 40) new) ++ behind
      one_there =
          let n : start_of slots s + i - start_of slots s ≡ i = omega arith in
          slots_there number 1 (omega arith) (omega arith) u ∙ ap (λ (x : ℕ). take 40 (drop (x * 40) new) ++ behind) n

      number_held : holds (points_of h) number 1 ≡ true
      unfolding holds
      number_held = let v = within (points_of h) (start_of slots s) (count_of slots s) run_held in rw (le-leb 1 number (omega (arith, v.0)), le-leb (number + 1) (1 + h.points) (omega (arith, v.1)))

      pub says_one : (ls : List (List ℕ)) → h.points ≤ 1500 → listed 1011 1 number (take 40 (drop (i * 40) new) ++ behind) ≡ ls
          → Says ours a (asks_points number 1) (lists ls)
      says_one ls sound e =
          let v = within (points_of h) (start_of slots s) (count_of slots s) run_held in
          let n = start_said 0x209 0 3 3 points_tag ListPoints false number 1 (omega (arith, v.1)) (omega arith) (omega arith) in
          let c = count_said 0x209 0 3 3 points_tag ListPoints false number 1 (omega (arith, v.1)) (omega arith) (omega arith) in
          list_said a (digits_of 3 number ++ digits_of 3 1) ls t.is_open
          (right_here t (asks_right 0x209 0 3 3 points_tag ListPoints false number 1 (omega (arith, v.1)) (omega arith) (omega arith) h (omega arith) (rw (kind_points h) number_held)))
          (simp length-append (omega (arith, (inverse 3).as_many number)))
          (ap₂ (λ (x y : ℕ). listed 1011 x y (drop ((y - 1) * 40) a.points)) c n ∙ ap (listed 1011 1 number) one_there ∙ e)

-- after a 244H
module _ {h : Held} {a : Areas} {s : Sent} {later : List Sent} (t : Standing h a writing s later) (sound : h.points ≤ 1500) where
  abbrev digits : List ℕ
  digits = rest_of writing s

  patterns : patterns_fit s.settings.fitted (count_of writing s) digits ≡ true
  patterns = was_not t.ordered.right.pattern

  all_digits_lem : all_digits digits ≡ true
  all_digits_lem = all_drop 6 (content s) (t.ordered.assured.digits refl)

  pub points_read : PointsRead ours a writing s later
  points_read =
      record {
        kind = refl;
        listed = λ u.
            list_said a (capitals (take 6 (content s))) (fitting 1011 (sent_by writing s)) t.is_open
            (right_here t (query_right 0x244 0x209 0 3 3 points_tag Points WritePoints ListPoints true _ h s t.ordered refl))
            (simp (length_capitals, length-take) (omega arith))
            (rw (
              same_start 0x244 0x209 0 3 3 points_tag Points WritePoints ListPoints true true (content s),
              same_count 0x244 0x209 0 3 3 points_tag Points WritePoints ListPoints true true (content s),
              all_there 0x244 Points WritePoints true t refl u,
            )
            (listed_sent s.settings.fitted (count_of writing s) 1011 (start_of writing s) digits _ t.ordered.assured.follows all_digits_lem patterns));
        each = λ i below u.
            says_one 0x244 Points WritePoints true t refl i below u (get_or (sent_by writing s) i [] ∷ []) sound
            (listed_one_sent s.settings.fitted i (count_of writing s) (start_of writing s) digits _ below t.ordered.assured.follows all_digits_lem patterns);
      }

-- after a 246H
module _ {h : Held} {a : Areas} {s : Sent} {later : List Sent} (t : Standing h a clearing s later) (sound : h.points ≤ 1500) where
  six : length (content s) ≡ 6
  six =
      let f = t.ordered.assured.fields in
      let d : length (drop 6 (content s)) ≡ 0 = eqb-true _ _ t.ordered.assured.follows in
      omega (arith, length-drop 6 (content s))

  pub points_gone : PointsGone ours a clearing s later
  unfolding byte_of
  points_gone =
      record {
        kind = refl;
        listed = λ u.
            list_said a (capitals (content s)) [] t.is_open
            (subst (λ (c : List ℕ). (fitted release : ℕ) → Right (held_in (lengths_of a)) fitted release listing (capitals c)) (take_all 6 (content s) (omega (arith, six)))
            (right_here t (query_right 0x246 0x209 0 3 3 points_tag Nothing ClearRun ListPoints _ _ h s t.ordered refl)))
            (omega (arith, six, length_capitals (content s)))
            (rw (capital.same_start listing (content s), capital.same_count listing (content s), all_there 0x246 Nothing ClearRun _ t refl u) (listed_zero 1011 (count_of clearing s) (start_of clearing s) _));
        each = λ i below u.
            says_one 0x246 Nothing ClearRun _ t refl i below u [] sound
            (rw (zero_part i (count_of clearing s) below) (listed_zero 1011 1 (start_of clearing s + i) _));
      }
