-- What stands of a write after any history: the account of the standing writes, and that a later one leaves what it spares.
use Prim.Native.Nat.{ℕ, ◌+◌, ◌≤◌}
use mathlib.Core.Path.{◌≡◌, refl, sym, ap, ◌∙◌, subst}
use mathlib.Core.Bool.{Bool, true, false, not, ◌||◌}
use mathlib.Core.List.{List, [], ◌∷◌, ◌++◌}
use native.Mathlib.Omega.{arith}
use lib.Dec.{eqb, leb}
use lib.ListN.{length}
use borrow.Author.Tests.{eqb-true, eqb-false}
use Rattle.digits.proofs.Inverse.{and_left, and_right}
use Rattle.frames.specs.Frame.{content_in}
use Rattle.kinds.specs.declared.Held.{Held}
use Rattle.kinds.specs.Kinds.{kind_of, size_of, run_of}
use Rattle.kinds.proofs.Known.{within}
use Rattle.journal.specs.Journal.{Entry}
use Rattle.table.specs.declared.Message.{Message}
use Rattle.std.specs.Prelude.{Option, Some}
use Rattle.table.specs.Table.{start_in, count_in}
use Rattle.messages.specs.Asked.{asked_of}
use Rattle.messages.proofs.Judged.{told}
use Rattle.calls.specs.Calls.{Areas, Sent, fresh, area_in, put_in}
use Rattle.orders.specs.Orders.{writes}
use Rattle.orders.proofs.Judging.{writable}
use Rattle.demands.specs.History.{message_by, Past, run_said, account}
use Rattle.demands.specs.Reading.{content, start_of, count_of, spares, untouched}
use Rattle.demands.proofs.Asking.{Ordered, ordered_so}
use Rattle.demands.proofs.Shaped.{Bounds, takes, held_is, passes}
use Rattle.demands.proofs.Wrote.{Writes, entry_of, long_again}
use Rattle.calls.proofs.Tagged.{put_own, put_other}
use Rattle.demands.proofs.Runs.{put_in_lem, put_apart}
use Rattle.demands.proofs.Kept.{new_of, Kept, Standing}
use Rattle.demands.proofs.Histories.{AllTook, fresh_shape, order_of_lem, said_is, alone_account, alone_from, Inv, holds_always}

-- each kind's area is as long as it should be
abbrev Long : Held → Areas → Type 0
Long held a = (t : ℕ) → length (area_in t a) ≡ size_of (kind_of held t)

-- a write leaves the numbers that it spares
one_spared : {held : Held} {s : Sent} (w : Writes held s) (a : Areas) → Long held a → (tag number many : ℕ) → (kind_of held tag).first ≤ number
    → spares tag number many (message_by s) (content s) ≡ true
    → run_of (kind_of held tag) number many (area_in tag (put_in held (entry_of w) a)) ≡ run_of (kind_of held tag) number many (area_in tag a)
unfolding asked_of
one_spared {held} {s} w a l tag number many =
    let t = told held s.settings.fitted s.settings.release (message_by s) (content s) w.message w.start w.count w.order in
    λ f q. go (eqb w.message.tag tag) refl f t.start_is t.count_is (sym (ap (λ (n : Option Message). spares tag number many n (content s)) t.message) ∙ q)
  where
    m : Message
    m = w.message

    left : ℕ → Type 0
    left u =
        (kind_of held u).first ≤ number
        → run_of (kind_of held u) number many (area_in u (put_in held (entry_of w) a)) ≡ run_of (kind_of held u) number many (area_in u a)

    go : (b : Bool) → eqb w.message.tag tag ≡ b → (kind_of held tag).first ≤ number → w.start ≡ start_in w.message (content s)
        → w.count ≡ count_in w.message (content s)
        → (not b || (leb (start_in w.message (content s) + count_in w.message (content s)) number || leb (number + many) (start_in w.message (content s)))) ≡ true
        → run_of (kind_of held tag) number many (area_in tag (put_in held (entry_of w) a)) ≡ run_of (kind_of held tag) number many (area_in tag a)
    go false e f p c q = ap (run_of (kind_of held tag) number many) (put_other held (entry_of w) a tag (λ z. eqb-false _ _ e (sym z)))
    go true e f p c q =
        let apart : (leb (w.start + w.count) number || leb (number + many) w.start) ≡ true = rw (p, c) q in
        subst left (eqb-true _ _ e)
        (λ g.
        ap (run_of (kind_of held m.tag) number many) (put_own held w.start w.count (entry_of w).bytes a m.tag w.able.run.some w.able.run.held_all)
        ∙ put_apart (kind_of held m.tag) w.start w.count (entry_of w).bytes (area_in m.tag a) w.able.run.held_all (l m.tag) w.able.long number many g apart)
        f

-- accounts one behind the other
account_append : (held : Held) (a : Areas) (xs ys : List Sent) → account held a (xs ++ ys) ≡ account held (account held a xs) ys
account_append held a [] ys = refl
account_append held a (x ∷ xs) ys = account_append held (put_in held (run_said held (message_by x) (content_in x.frame)) a) xs ys

module _ {held : Held} {size : ℕ} (b : Bounds held size) where
  -- later writes leave the numbers that they all spare
  spared : (tag number many : ℕ) → (kind_of held tag).first ≤ number → (later : List Sent) → AllTook b later → (a : Areas) → Long held a
      → untouched tag number many later ≡ true
      → run_of (kind_of held tag) number many (area_in tag (account held a later)) ≡ run_of (kind_of held tag) number many (area_in tag a)
  spared tag number many f [] t a l u = refl
  spared tag number many f (s ∷ later) t a l u =
      let w = order_of_lem b s t.0 in
      let e = said_is b w in
      let x = spares tag number many (message_by s) (content s) in
      spared tag number many f later t.1 (put_in held (run_said held (message_by s) (content_in s.frame)) a)
      (subst (λ (y : Entry). Long held (put_in held y a)) (sym e) (long_again w a l))
      (and_right x (untouched tag number many later) u)
      ∙ ap (λ (y : Entry). run_of (kind_of held tag) number many (area_in tag (put_in held y a))) e
      ∙ one_spared w a l tag number many f (and_left x (untouched tag number many later) u)

  -- the writes before one, itself, and those behind it
  took_parts : (earlier later : List Sent) (s : Sent) → AllTook b (earlier ++ (s ∷ later)) → AllTook b earlier × (takes held s ≡ true) × AllTook b later
  took_parts [] later s t = (tt, t.0, t.1)
  took_parts (x ∷ earlier) later s t = let r = took_parts earlier later s t.1 in ((t.0, r.0), r.1, r.2)

  module _ (p : Past) (v : Inv b p) (earlier later : List Sent) (s : Sent) (m : Message) (q : p.standing_writes ≡ earlier ++ (s ∷ later)) (known : message_by s ≡ Some m) where
    parts : AllTook b earlier × (takes held s ≡ true) × AllTook b later
    parts = took_parts earlier later s (subst (AllTook b) q v.took)

    is_ordered : Ordered held m s
    is_ordered = (ordered_so held s m known (order_of_lem b s parts.1).order).0

    -- what stood before it
    abbrev old : Areas
    old = account held (fresh held size) earlier

    old_long : Long held old
    old_long t =
        ap length (sym (alone_account b earlier (fresh held size) (fresh held size) (record { holding = []; shape = fresh_shape b }) parts.0 (λ u. refl) t))
        ∙ (alone_from b earlier parts.0).shape.long t

    abbrev its : Entry
    its = run_said held (message_by s) (content_in s.frame)

    new_long : Long held (put_in held its old)
    new_long = subst (λ (y : Entry). Long held (put_in held y old)) (sym (said_is b (order_of_lem b s parts.1))) (long_again (order_of_lem b s parts.1) old old_long)

    is_kept : writes m.does ≡ true → Kept held p.areas m s later
    is_kept w number many l n u =
        let k = kind_of held m.tag in
        let r = writable held (content s) m (start_of m s) (count_of m s) is_ordered.assured w in
        let f : k.first ≤ number = omega (arith, l, (within k (start_of m s) (count_of m s) r.run.held_all).0) in
        ap (run_of k number many)
        ((holds_always b p v).whole_writes m.tag
        ∙ ap (λ (ws : List Sent). area_in m.tag (account held (fresh held size) ws)) q
        ∙ ap (area_in m.tag) (account_append held (fresh held size) earlier (s ∷ later)))
        ∙ spared m.tag number many f later parts.2 (put_in held its old) new_long u
        ∙ ap (λ (y : Option Message). run_of k number many (area_in m.tag (put_in held (run_said held y (content s)) old))) known
        ∙ ap (run_of k number many) (put_own held (start_of m s) (count_of m s) (new_of held m s) old m.tag r.run.some r.run.held_all)
        ∙ put_in_lem k (start_of m s) (count_of m s) (new_of held m s) (area_in m.tag old) r.run.held_all (old_long m.tag) r.long number many l n

    pub standing_past : Standing held p.areas m s later
    standing_past = record { is_open = passes b v.shape; is_held = held_is b v.shape; ordered = is_ordered; kept = is_kept }
