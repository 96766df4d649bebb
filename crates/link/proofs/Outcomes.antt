-- What a handler's contract says, as the outcome.
use Prim.Native.Nat.{ℕ, ◌≤◌}
use mathlib.Core.Path.{◌≡◌, refl, sym, ap, ap₂, ◌∙◌, subst}
use mathlib.Core.Bool.{Bool, true, false, cond}
use mathlib.Core.List.{List}
use native.Mathlib.Omega.{arith}
use lib.Dec.{eqb}
use borrow.Author.Tests.{eqb-true}
use lib.ListN.{length, take}
use Rattle.digits.specs.Laid.{laid}
use Rattle.frames.specs.Frame.{content_in, reply_of, normal}
use Rattle.kinds.specs.declared.Kind.{Kind}
use Rattle.kinds.specs.declared.Held.{Held}
use Rattle.kinds.specs.Kinds.{points_tag, columns_tag, integers_tag, flags_tag, points_of, columns_of, integers_of, flags_of, kind_of, run_of, put}
use Rattle.kinds.proofs.Known.{each_kind, kind_points, kind_columns, kind_integers, kind_flags, tag_of, few}
use Rattle.journal.specs.Journal.{encodes, entries_in, added, area_of, puts, entry_for}
use Rattle.points.specs.Point.{effective_in}
use Rattle.messages.specs.Asked.{Asked, number_given}
use Rattle.messages.specs.Asked as asks
use Rattle.writes.specs.Writes.{Written}
use Rattle.calls.specs.declared.Kept.{Kept}
use Rattle.std.specs.Prelude.{Option}
use Rattle.frames.specs.declared.checks.Sum.{Sum}
use Rattle.calls.specs.Calls.{Areas, Call, Outcome, areas_of, area_in, count_after, written}
use Rattle.calls.proofs.Parts.{equal_parts}
use Rattle.refusals.specs.Refusals.{count_fits, journal_fits, silent_of, told_of}
use Rattle.orders.specs.declared.Order.{Order}
use Rattle.orders.specs.declared.Done.{Done}
use Rattle.orders.specs.Orders.{rest, writes, new_bytes, said_by}
use Rattle.orders.specs.Contract.{kind_in, Ordered, Says, Stores, count_left}
use Rattle.orders.proofs.Judging.{writable}
use Rattle.orders.proofs.Handling.{content, said_same}
use Rattle.orders.proofs.Counting.{count_same}
use Rattle.link.specs.Answer.{held, asked, text_of, areas_after, answer_of}
use Rattle.link.specs.Contract.{GivenBack, Heard, accepted, Gives, Answers, Performs}
use Rattle.link.proofs.Answering.{heard_answer}
use Rattle.link.proofs.Carrying.{Fine, fine, counts, ordered}

-- a result that is the outcome
pub gives_by : {f : Call → Outcome} (c : Call) (o : Outcome) (r : GivenBack) (areas' : Areas) (reply' : List ℕ) → r.kept ≡ areas'.kept → f c ≡ o
    → r.number ≡ o.number → r.length ≡ length o.text → r.sum ≡ o.sum → areas' ≡ o.areas → reply' ≡ laid c.sent.reply 0 o.text
    → Gives f c r areas' reply'
gives_by c o r areas' reply' k e n l s a t =
    let b = a ∙ sym (ap (λ (x : Outcome). x.areas) e) in
    record {
      number_is = n ∙ sym (ap (λ (x : Outcome). x.number) e);
      length_is = l ∙ sym (ap (λ (x : Outcome). length x.text) e);
      kept_is = k ∙ ap (λ (x : Areas). x.kept) b;
      sum_is = s ∙ sym (ap (λ (x : Outcome). x.sum) e);
      areas_are = b;
      reply_is = t ∙ sym (ap (λ (x : Outcome). laid c.sent.reply 0 x.text) e);
    }

-- what is asked, answered
asked_so : (c : Call) (a : Asked) → silent_of c ≡ 0 → asked c ≡ a → answer_of c ≡ record { number = number_given a; text = text_of c a; areas = areas_after c a; sum = told_of c }
asked_so c a s e = heard_answer c s ∙ ap (λ (x : Asked). record { number = number_given x; text = text_of c x; areas = areas_after c x; sum = told_of c }) e

-- areas with another area of a kind, by its tag
abbrev pub replacing : ℕ → List ℕ → Areas → List ℕ → Kept → Areas
replacing tag area' a journal' kept' =
    areas_of (cond (eqb tag points_tag) area' a.points) (cond (eqb tag columns_tag) area' a.columns) (cond (eqb tag integers_tag) area' a.integers)
    (cond (eqb tag flags_tag) area' a.flags)
    journal'
    kept'
    a.firsts

-- a write of a run of any kind, as it stands in the areas
module _ (a : Areas) (h : Held) (tag start count : ℕ) (new area' journal' : List ℕ) (kept' : Kept)
    (w : Written h (kind_of h tag) start count new (area_in tag a) area' a.journal journal' a.kept.used kept'.used)
    (v : kept'.effective ≡ cond (eqb tag points_tag) (effective_in h.points area') a.kept.effective) where
  -- the area of a kind: the bytes are put in where it is the tag's
  own : (k : Kind) (area : List ℕ) → (tag ≡ k.tag → (kind_of h tag ≡ k) × (area_in tag a ≡ area)) → cond (eqb tag k.tag) area' area ≡ puts k (entry_for tag start new) area
  unfolding puts
  own k area f = go (eqb tag k.tag) refl
    where
      go : (b : Bool) → eqb tag k.tag ≡ b → cond b area' area ≡ cond b (put k start new area) area
      go true e = let g = f (eqb-true _ _ e) in w.put_there ∙ ap₂ (λ (x : Kind) (y : List ℕ). put x start new y) g.0 g.1
      go false e = refl

  in_area : {k : Kind} → kind_of h k.tag ≡ k → tag ≡ k.tag → (kind_of h tag ≡ k) × (area_in tag a ≡ area_in k.tag a)
  in_area e t = (ap (kind_of h) t ∙ e, ap (λ (x : ℕ). area_in x a) t)

  -- the count of the slots, where they are the tag's
  own_count : kept'.effective ≡ count_after h (entry_for tag start new) a
  own_count = v ∙ go (eqb tag points_tag) (own (points_of h) a.points (in_area (kind_points h)))
    where
      go : (b : Bool) → cond b area' a.points ≡ puts (points_of h) (entry_for tag start new) a.points
          → cond b (effective_in h.points area') a.kept.effective
          ≡ cond b (effective_in h.points (puts (points_of h) (entry_for tag start new) a.points)) a.kept.effective
      go true e = ap (effective_in h.points) e
      go false e = refl

  pub written_so : replacing tag area' a journal' kept' ≡ written h tag start count new a
  written_so =
      equal_parts (own (points_of h) a.points (in_area (kind_points h))) (own columns_of a.columns (in_area (kind_columns h)))
      (own (integers_of h) a.integers (in_area (kind_integers h)))
      (own (flags_of h) a.flags (in_area (kind_flags h)))
      (w.journalled.bytes ∙ ap (λ (t : ℕ). area_of (length a.journal) (added (length a.journal) (entries_in h 0 (take a.kept.used a.journal)) (entry_for t start (run_of (kind_of h tag) start count (area_in tag a))))) (tag_of h tag))
      (w.journalled.used ∙ ap (λ (t : ℕ). length (encodes (added (length a.journal) (entries_in h 0 (take a.kept.used a.journal)) (entry_for t start (run_of (kind_of h tag) start count (area_in tag a)))))) (tag_of h tag))
      own_count

-- of a tag that none of the others is, flags are held or nothing
pub last_kind : (h : Held) (tag : ℕ) → (tag ≡ points_tag → ⊥) → (tag ≡ columns_tag → ⊥) → (tag ≡ integers_tag → ⊥) → 1 ≤ (kind_of h tag).held → tag ≡ flags_tag
last_kind h tag p c n =
    each_kind (λ (k : Kind). 1 ≤ k.held → tag ≡ flags_tag) h tag (λ e _. absurd (p e)) (λ e _. absurd (c e)) (λ e _. absurd (n e)) (λ e _. e)
    (λ z. absurd (omega arith))

-- an order, carried out in the area of a tag, which is its message's where anything of that kind is held
module _ {c : Call} {o : Order} (e : Heard c o) (tag : ℕ) (whole : replacing tag (area_in tag c.areas) c.areas c.areas.journal c.areas.kept ≡ c.areas)
    (w : 1 ≤ (kind_of (held c) o.message.tag).held → o.message.tag ≡ tag) where
  board : Fine c
  board = fine c e.silent_0

  of_kind : 1 ≤ (kind_of (held c) o.message.tag).held → area_in tag c.areas ≡ area_in o.message.tag c.areas
  of_kind z = ap (λ (t : ℕ). area_in t c.areas) (sym (w z))

  can : Ordered o c.sent.frame (area_in tag c.areas)
  can = ordered c o e of_kind

  pub can_carry : Ordered o c.sent.frame (area_in tag c.areas) × (1024 ≤ length c.sent.reply)
      × (journal_fits o.held c.areas.journal c.areas.kept.used ≡ true)
      × (count_fits o.message.does (area_in tag c.areas) c.areas.kept.effective ≡ true)
  can_carry = (can, board.reply_long, rw e.held_is board.areas.journal_fits_lem, count_same can c.areas.kept.effective slots (counts c o e))
    where
      slots : o.message.tag ≡ points_tag → area_in tag c.areas ≡ c.areas.points
      slots t =
          let z : 1 ≤ (kind_of (held c) o.message.tag).held = rw (ap (kind_of (held c)) t ∙ kind_points (held c)) board.sound_held.some_points in
          of_kind z ∙ ap (λ (x : ℕ). area_in x c.areas) t

  module _ {r : Done} {area' journal' reply' : List ℕ} (p : Says o c.sent c.areas.kept (area_in tag c.areas) r.length reply')
      (s : Stores o c.sent.frame (area_in tag c.areas) area' c.areas.journal journal' c.areas.kept.used r.kept.used)
      (v : r.kept.effective ≡ count_left o area' c.areas.kept.effective) where
    abbrev saying : Held → List ℕ → List ℕ
    saying h area = said_by o.message.does h c.sent c.areas.kept o.message o.start o.count area

    said : saying o.held (area_in tag c.areas) ≡ saying (held c) (area_in o.message.tag c.areas)
    said =
        ap (λ (h : Held). saying h (area_in tag c.areas)) e.held_is
        ∙ rw e.held_is at (said_same can {own = area_in o.message.tag c.areas} c.sent c.areas.kept (rw e.held_is of_kind))

    left : (b : Bool) → writes o.message.does ≡ b
        → replacing tag area' c.areas journal' r.kept
        ≡ cond b (written (held c) o.message.tag o.start o.count (new_bytes o.message.does (kind_of (held c) o.message.tag).unit o.count (rest c.sent o.message)) c.areas) c.areas
    left true f =
        let n = (writable o.held (content_in c.sent.frame) o.message o.start o.count (content can) f).run in
        let z : 1 ≤ (kind_of (held c) o.message.tag).held = rw (sym e.held_is) (omega (arith, few (kind_in o) o.start o.count n.held_all, n.some)) in
        ap (λ (t : ℕ). replacing t area' c.areas journal' r.kept) (sym (w z))
        ∙ written_so c.areas (held c) o.message.tag o.start o.count _ area' journal' r.kept (rw (e.held_is, of_kind z) at (s.wrote f))
        (rw (f, e.held_is) at v)
    left false f =
        let q = s.stayed f in
        let n = rw f at v in
        (λ i. replacing tag (q.0 i) c.areas (q.1 i) (record { used = q.2 i; effective = n i })) ∙ whole

    pub performed : Performs c r (replacing tag area' c.areas journal' r.kept) reply'
    performed =
        gives_by c _ (accepted r (told_of c)) (replacing tag area' c.areas journal' r.kept) reply' refl
        (asked_so c (asks.Order o.message o.start o.count) e.silent_0 e.order)
        refl
        (p.length_is ∙ ap (λ (x : List ℕ). length (reply_of normal c.sent.settings.station x)) said)
        refl
        (left (writes o.message.does) refl)
        (p.bytes ∙ ap (λ (x : List ℕ). laid c.sent.reply 0 (reply_of normal c.sent.settings.station x)) said)

-- the result that says so
pub accepted_so : {c : Call} {r : GivenBack} (done : Done) {t : Option Sum} {areas' : Areas} {reply' : List ℕ} → r ≡ accepted done t → t ≡ told_of c
    → Performs c done areas' reply' → Answers c r areas' reply'
accepted_so {c} done {areas'} {reply'} e g a = subst (λ (x : GivenBack). Answers c x areas' reply') (sym (e ∙ ap (accepted done) g)) a
