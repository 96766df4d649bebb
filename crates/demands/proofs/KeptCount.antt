-- Request b, of our board.
use Prim.Native.Nat.{ℕ, ◌/◌}
use mathlib.Core.Path.{◌≡◌, refl, sym, ap, ap₂, ◌∙◌, subst}
use mathlib.Core.Bool.{Bool, true, false, cond, not}
use mathlib.Core.Logic.{◌⊎◌, inl, inr, ⊎_elim}
use mathlib.Core.List.{List, ◌++◌}
use native.Mathlib.Omega.{arith}
use lib.Dec.{eqb, leb, ltb}
use lib.ListN.{length}
use borrow.Author.Tests.{eq-eqb, eqb-true, eqb-false, leb-true, leb-false, le-ltb, lt-ltb}
use Rattle.digits.specs.Digits.{byte_of, digits_of}
use Rattle.digits.specs.Text.{text}
use Rattle.frames.specs.Frame.{normal, message_in, content_in, reply_of}
use Rattle.kinds.specs.declared.Lengths.{Lengths}
use Rattle.kinds.specs.Kinds.{points_tag, points_of, held_in}
use Rattle.points.specs.Point.{effective_in}
use Rattle.journal.specs.Journal.{last_entry, puts}
use Rattle.journal.proofs.Codec.{Bytes}
use Rattle.journal.proofs.Back.{before, stands}
use Rattle.table.specs.declared.Message.{Message}
use Rattle.std.specs.Prelude.{Option, Some, None}
use Rattle.table.specs.Table.{messages, message_numbered, message_of}
use Rattle.messages.specs.Asked.{Asked, Refused, Order, asked_of, number_given}
use Rattle.messages.proofs.Judged.{told}
use Rattle.messages.proofs.Shapes.{Each, in_frame}
use Rattle.calls.specs.Calls.{Areas, Call, Outcome, lengths_of, entries_of}
use Rattle.calls.proofs.Tagged.{counted_after}
use Rattle.refusals.specs.Refusals.{count_true, count_fits, miscounted, area_rows, silent_of, back_refusal_of}
use Rattle.refusals.proofs.Rows.{area_number, area_rows_lem, area_given, areas_pass, past_areas, own_back, back_rows_lem, sum_number, early_number, silent_is}
use Rattle.orders.specs.Orders.{writes}
use Rattle.orders.proofs.Judging.{not_so}
use Rattle.link.specs.Answer.{held, asked, text_of, answer_of}
use Rattle.link.proofs.Answering.{accepted, heard_answer, silent_answer}
use Rattle.link.proofs.Carrying.{ordered_message}
use Rattle.back.specs.Back.{back_of}
use Rattle.back.proofs.Backing.{can_step_back, accepted_back, back_first}
use Rattle.back.proofs.Recounting.{length_after}
use Rattle.demands.specs.History.{effective_of, CountTrue, message_by}
use Rattle.demands.proofs.Own.{own as ours}
use Rattle.demands.specs.Survive.{Accepted}
use Rattle.demands.specs.KeptCount.{SameCount, wrong_at, id_named, to_four, Eleven, ElevenBack, over, KeptCount}
use Rattle.demands.proofs.Refused.{one_number, changes_nothing, one_reply, number_given_lem, eight_other, asked_number, wrong, past_eight, up_to_eight, by_eleven}
use Rattle.demands.proofs.Commands.{counting, writing, clearing, row_of, rows, named, message_of_lem}
use Rattle.demands.proofs.Asking.{Took, took}
use Rattle.demands.proofs.Survived.{taken}
use Rattle.demands.proofs.Written.{points_counted, count_given, areas_left}

-- not at most is above
not_above : (n k : ℕ) → not (leb k n) ≡ ltb n k
not_above n k = go (leb k n) refl
  where
    go : (b : Bool) → leb k n ≡ b → not b ≡ ltb n k
    go true e = sym (le-ltb n k (leb-true k n e))
    go false e = sym (lt-ltb n k (leb-false k n e))

-- the messages that look at the count, by their ID
abbrev ById : Message → Type 0
ById m = (a : Areas) → not (count_fits m.does a.points a.kept.effective) ≡ wrong_at m.id a

each_id : Each ById messages
each_id = (λ a. refl, (λ a. not_above (length a.points / 40) a.kept.effective, (λ a. refl, (λ a. refl, (λ a. refl, (λ a. refl, (λ a. refl, (λ a. refl, (λ a. refl, (λ a. refl, (λ a. refl, (λ a. refl, tt))))))))))))

-- those that write points
abbrev OfPoints : Message → Type 0
OfPoints m = writes m.does ≡ true → m.tag ≡ points_tag → (m.id ≡ 0x244) ⊎ (m.id ≡ 0x246)

each_write : Each OfPoints messages
each_write = (
  λ w _. not_so w,
  (
    λ w _. not_so w,
    (
      λ w _. not_so w,
      (
        λ w _. not_so w,
        (
          λ w _. not_so w,
          (
            λ w _. not_so w,
            (
              λ w _. not_so w,
              (
                λ _ _. inl refl,
                (λ _ _. inr refl, (λ _ t. absurd (omega (arith, t)), (λ _ t. absurd (omega (arith, t)), (λ _ t. absurd (omega (arith, t)), tt)))),
              ),
            ),
          ),
        ),
      ),
    ),
  ),
)

-- a count is wrong for a frame by its ID
wrong_is : (c : Call) → wrong c ≡ wrong_at (id_named (message_by c.sent)) c.areas
wrong_is c = go (message_by c.sent) refl
  where
    go : (n : Option Message) → message_by c.sent ≡ n → miscounted n c.areas.points c.areas.kept.effective ≡ wrong_at (id_named n) c.areas
    go None e = refl
    go (Some m) e = in_frame ById c.sent.settings.release c.sent.frame each_id e c.areas

eleven : (c : Call) → Eleven c (answer_of c)
eleven c =
    record {
      not_before = λ n. (one_number.frame c ∙ up_to_eight c n, eight_other c);
      by_id = λ z. (
        λ e. sym (wrong_is c) ∙ by_eleven c (sym (one_number.frame c) ∙ e),
        λ w. one_number.frame c ∙ past_eight c z ∙ ap (λ (b : Bool). cond b 11 (asked_number c)) (wrong_is c ∙ w),
      );
      nothing_done = λ e. (one_reply.none c (λ z. omega (arith, z, e)) (omega (arith, e)), changes_nothing.frame c (λ z. omega (arith, z, e)));
    }

-- what is tested of the areas never gives 11
four_other : (a : Areas) → to_four a ≡ 11 → ⊥
unfolding area_rows
four_other a =
    number_given_lem (λ (k : ℕ). k ≡ 11 → ⊥) (area_rows (lengths_of a) a.journal a.kept) (λ e. omega (arith, e))
    (λ e. omega (arith, e), (λ e. omega (arith, e), (λ e. omega (arith, e), (λ e. omega (arith, e), tt))))

-- the step back's number, behind the areas
module _ (a : Areas) where
  abbrev l : Lengths
  l = lengths_of a

  number_is : (back_of a).number ≡ area_number l a.journal a.kept (own_back l a.journal a.kept a.points)
  number_is = one_number.back a ∙ back_first a ∙ back_rows_lem l a.journal a.kept a.points

  eleven_back : ElevenBack a (back_of a)
  eleven_back =
      record {
        not_before = λ n. (number_is ∙ sym (area_given l a.journal a.kept _ n), four_other a);
        by_count = λ z.
            let p = (areas_pass l a.journal a.kept (sym (area_rows_lem l a.journal a.kept) ∙ z)).0 in
            let e = number_is ∙ past_areas l a.journal a.kept p (own_back l a.journal a.kept a.points) in
            (λ q t. other (eqb a.kept.used 0) (sym (rw (eq-eqb _ _ t) at e) ∙ q), λ k. e ∙ wrong_count_lem k);
        nothing_done = λ e. (one_reply.back a, changes_nothing.back a (λ z. omega (arith, z, e)));
      }
    where
      other : (b : Bool) → ◌≡◌ {A = ℕ} (cond b 9 0) 11 → ⊥
      other true q = omega (arith, q)
      other false q = omega (arith, q)

      wrong_count_lem : (CountTrue a → ⊥) → own_back l a.journal a.kept a.points ≡ 11
      wrong_count_lem k = go (count_true a.points a.kept.effective) refl
        where
          go : (b : Bool) → count_true a.points a.kept.effective ≡ b → ◌≡◌ {A = ℕ} (cond (not b) 11 (cond (eqb a.kept.used 0) 9 0)) 11
          go true q = absurd (k (eqb-true _ _ q))
          go false q = refl

  -- an accepted step back of an entry of any kind hands back the number of effective slots after it
  stepped : Bytes a.journal → (back_of a).number ≡ 0 → CountTrue (back_of a).areas
  unfolding before
  stepped bs e =
      let z : back_refusal_of a ≡ 0 = sym (one_number.back a) ∙ e in
      let o = can_step_back a z in
      let h = held_in l in
      let es = entries_of h a in
      let last = last_entry es in
      let g = (stands h a.journal a.kept.used (before es) bs o.journal.within o.used o.journal.entries refl).good in
      let long = length_after h last.tag last.start last.bytes o.sound_held g a.points (omega (arith, o.points.whole_slots)) in
      ap (λ (x : Outcome). x.areas.kept.effective) (accepted_back a z)
      ∙ counted_after h last a o.counted
      ∙ ap (λ (n : ℕ). effective_in (n / 40) (puts (points_of h) last a.points)) (sym long)
      ∙ sym (ap (λ (x : Outcome). effective_of x.areas) (accepted_back a z))

-- accepted writes of points, and calls of any other ID
of_row : {id : ℕ} (c : Call) (a : Accepted id c) (r : Message) → message_numbered id ≡ Some r → a.message ≡ r
of_row {id} c a r n = row_of c.sent id r a.known a.named n

points_written : {id : ℕ} (c : Call) (a : Accepted id c) (r : Message) → message_numbered id ≡ Some r → writes r.does ≡ true → r.tag ≡ points_tag
    → CountTrue (answer_of c).areas
points_written c a r n w t =
    let e = of_row c a r n in
    points_counted a.message c (taken c a) (ap (λ (m : Message). writes m.does) e ∙ w) (ap (λ (m : Message). m.tag) e ∙ t)

others_given : (c : Call) → (id_named (message_by c.sent) ≡ 0x244 → ⊥) → (id_named (message_by c.sent) ≡ 0x246 → ⊥)
    → SameCount c.areas (answer_of c).areas
others_given c w x = go (eqb (answer_of c).number 0) refl
  where
    -- an accepted message of another ID writes no points
    stays : (m : Message) (k : message_by c.sent ≡ Some m) (t : Took m c) (b : Bool) → writes m.does ≡ b → SameCount c.areas (answer_of c).areas
    stays m k t true q =
        count_given m c t q
        (λ p.
        ⊎_elim (λ e. w (ap id_named k ∙ e)) (λ e. x (ap id_named k ∙ e))
        (in_frame OfPoints c.sent.settings.release c.sent.frame each_write k q p))
    stays m k t false q = ap (λ (a : Areas). a.kept.effective) (areas_left m c t false q)

    go : (b : Bool) → eqb (answer_of c).number 0 ≡ b → SameCount c.areas (answer_of c).areas
    go true q =
        let n = eqb-true _ _ q in
        let a = accepted c n in
        let k =
        ordered_message c (record { message = a.message; start = a.start; count = a.count; held = held c })
        (record { silent_0 = a.heard; held_is = refl; order = a.order }) in
        stays a.message k (took a.message c k n) (writes a.message.does) refl
    go false q = ap (λ (a : Areas). a.kept.effective) (changes_nothing.frame c (eqb-false _ _ q))

-- 208H
trusts : (c : Call) → Accepted 0x208 c
    → (answer_of c).text ≡ reply_of normal c.sent.settings.station (text "208" ++ digits_of 3 c.areas.kept.effective)
unfolding byte_of message_numbered
trusts c a =
    let e = of_row c a counting refl in
    let t = subst (λ (m : Message). Took m c) e (taken c a) in
    ap (λ (o : Outcome). o.text) t.answer

-- it looks at the lengths and at the count alone
module _ (c : Call) (points : List ℕ) (e : message_in c.sent.frame ≡ text "208") (same : length points ≡ length c.areas.points) where
  abbrev d : Call
  d = over points c

  lengths : lengths_of d.areas ≡ lengths_of c.areas
  lengths = λ i. record { points = same i; columns = length c.areas.columns; integers = length c.areas.integers; flags = length c.areas.flags; firsts = c.areas.firsts }

  is_counting : message_of c.sent.settings.release c.sent.frame ≡ Some counting
  is_counting = message_of_lem c.sent.settings.release c.sent.frame (text "208") e ∙ named.0 c.sent.settings.release

  same_wrong : wrong d ≡ wrong c
  same_wrong =
      ap (λ (n : Option Message). miscounted n points c.areas.kept.effective) is_counting
      ∙ ap (λ (n : ℕ). not (leb c.areas.kept.effective (n / 40))) same
      ∙ sym (ap (λ (n : Option Message). miscounted n c.areas.points c.areas.kept.effective) is_counting)

  same_silent : silent_of d ≡ silent_of c
  same_silent =
      silent_is d
      ∙ ap₂
      (λ (x : Lengths) (w : Bool).
      early_number (length c.sent.reply) c.sent.frame c.sent.axes c.sent.settings x c.areas.journal c.areas.kept
      (sum_number c.sent.settings c.sent.frame (cond w 11 0)))
      lengths same_wrong
      ∙ sym (silent_is c)

  same_asked : asked d ≡ asked c
  same_asked = ap (λ (x : Lengths). asked_of (held_in x) c.sent.settings.fitted c.sent.settings.release c.sent.frame) lengths

  -- what it asks is a refusal, or the count
  same_text_lem : (x : Asked) → asked c ≡ x → text_of d x ≡ text_of c x
  unfolding asked_of
  same_text_lem (Refused k) q = refl
  same_text_lem (Order m start count) q =
      let t = told (held c) c.sent.settings.fitted c.sent.settings.release (message_by c.sent) (content_in c.sent.frame) m start count q in
      let k : m ≡ counting = let p = sym t.message ∙ is_counting in cc in
      subst (λ (r : Message). text_of d (Order r start count) ≡ text_of c (Order r start count)) (sym k) refl

  unwalked : ((answer_of d).number ≡ (answer_of c).number) × ((answer_of d).text ≡ (answer_of c).text)
  unwalked = go (eqb (silent_of c) 0) refl
    where
      go : (b : Bool) → eqb (silent_of c) 0 ≡ b → ((answer_of d).number ≡ (answer_of c).number) × ((answer_of d).text ≡ (answer_of c).text)
      go true q =
          let z = eqb-true _ _ q in
          let there = heard_answer d (same_silent ∙ z) in
          let here = heard_answer c z in (
            ap (λ (o : Outcome). o.number) there ∙ ap number_given same_asked ∙ sym (ap (λ (o : Outcome). o.number) here),
            ap (λ (o : Outcome). o.text) there ∙ ap (text_of d) same_asked ∙ same_text_lem (asked c) refl ∙ sym (ap (λ (o : Outcome). o.text) here),
          )
      go false q =
          let n = eqb-false _ _ q in
          let there = silent_answer d (silent_of c) (sym same_silent) n in
          let here = silent_answer c (silent_of c) refl n in
          (ap (λ (o : Outcome). o.number) there ∙ sym (ap (λ (o : Outcome). o.number) here), ap (λ (o : Outcome). o.text) there ∙ sym (ap (λ (o : Outcome). o.text) here))

pub kept_count : KeptCount ours
kept_count =
    record {
      written = λ c a. points_written c a writing rows.0 refl refl;
      cleared = λ c a. points_written c a clearing rows.1 refl refl;
      stepped = stepped;
      other = others_given;
      refused = λ c n. ap (λ (x : Areas). x.kept.effective) (changes_nothing.frame c n);
      refused_back = λ a n. ap (λ (x : Areas). x.kept.effective) (changes_nothing.back a n);
      trusts = trusts;
      no_walk = unwalked;
      eleven = eleven;
      eleven_back = eleven_back;
    }
