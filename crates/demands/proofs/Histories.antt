-- Every history, from an invariant: the areas are what the standing writes leave if done alone, and the journal holds the entries of the newest.
use Prim.Native.Nat.{ℕ, zero, suc, ◌+◌, ◌-◌, ◌≤◌}
use mathlib.Core.Path.{◌≡◌, refl, sym, ap, ap₂, ◌∙◌, subst}
use mathlib.Core.Logic.{◌↔◌}
use mathlib.Core.Bool.{Bool, true, false, cond, ◌&&◌, true≢false}
use mathlib.Core.List.{List, [], ◌∷◌, ◌++◌, append_assoc}
use native.Mathlib.Omega.{arith}
use lib.Dec.{eqb}
use lib.ListN.{length, replicate, length-append, length-replicate}
use borrow.Author.Tests.{eqb-true, eqb-false, eq-eqb, ne_eqb}
use Rattle.digits.proofs.Inverse.{and_left, and_right}
use Rattle.kinds.specs.declared.Held.{Held}
use Rattle.kinds.specs.Kinds.{points_of, columns_of, integers_of, flags_of, kind_of, size_of, run_of}
use Rattle.journal.specs.Journal.{Entry, encode, encodes, kept, added, area_of, last_entry, others, entry_for}
use Rattle.journal.specs.Laws.{AllGood}
use Rattle.journal.proofs.Codec.{length_encode}
use Rattle.journal.proofs.Walk.{ne_zero}
use Rattle.journal.proofs.Adding.{encodes_snoc}
use Rattle.journal.proofs.Again.{good_others}
use Rattle.journal.proofs.Back.{split_last}
use Rattle.journal.proofs.Promised.{newest, last_added, others_added}
use Rattle.frames.specs.Frame.{content_in}
use Rattle.std.specs.Prelude.{Option}
use Rattle.table.specs.declared.Message.{Message}
use Rattle.table.specs.Table.{rest_in}
use Rattle.messages.specs.Asked.{asked_of}
use Rattle.messages.proofs.Judged.{told}
use Rattle.calls.specs.Calls.{Areas, Sent, Outcome, fresh, area_in, put_in, old_entry, with_entries, stepped_back}
use Rattle.calls.proofs.Tagged.{each_long, counted_after}
use Rattle.slots.proofs.Counted.{effective_zero}
use Rattle.refusals.proofs.Tested.{true_fits}
use Rattle.orders.specs.Orders.{new_bytes}
use Rattle.link.specs.Answer.{asked, answer_of}
use Rattle.back.proofs.Backing.{accepted_back}
use Rattle.back.specs.Back.{back_of}
use Rattle.demands.specs.Refused.{asks_write}
use Rattle.demands.specs.History.{message_by, Event, frame, step_back, call_on, after, accepted_write, but_last, standing, Past, past, alone, all_accepted, entries, run_said, entry_said, entry_by, stored, account, entered, Holds, EveryHistory, ours}
use Rattle.demands.proofs.Refused.{one_number, by_eleven, changes_nothing, query_changes_nothing}
use Rattle.demands.proofs.Shaped.{Bounds, Shape, takes, number_on, held_is, journal_long, entries_held, same_entries, count_true_lem, takes_is, back_is}
use Rattle.demands.proofs.Wrote.{Writes, ordered, entry_of, old_by, written_by, wrote, same_put, undone, shaped}

-- a frame that is no accepted write changes nothing
keeps_all : (a : Areas) (s : Sent) → accepted_write ours a s ≡ false → after ours a (frame s) ≡ a
keeps_all a s e = go (eqb (answer_of (call_on a s)).number 0) refl e
  where
    go : (x : Bool) → eqb (answer_of (call_on a s)).number 0 ≡ x → (x && asks_write (asked (call_on a s))) ≡ false → after ours a (frame s) ≡ a
    go true q f = query_changes_nothing (call_on a s) f
    go false q f = changes_nothing.frame (call_on a s) (eqb-false _ _ q)

-- the end of a list of writes
data Ends : List Sent → Type 0 where
  nothing : Ends []
  last : (ws : List Sent) (s : Sent) → Ends (ws ++ (s ∷ []))

ends : (ws : List Sent) → Ends ws
ends [] = nothing
ends (s ∷ ss) = go (ends ss)
  where
    go : {ss : List Sent} → Ends ss → Ends (s ∷ ss)
    go nothing = last [] s
    go (last ws t) = last (s ∷ ws) t

-- the entries that writes make if done alone, each the last after its write
abbrev pub made : Areas → List Sent → List Entry
made a [] = []
made a (s ∷ ss) = last_entry (entries (after ours a (frame s))) ∷ made (after ours a (frame s)) ss

alone_snoc : (a : Areas) (ws : List Sent) (s : Sent) → alone ours a (ws ++ (s ∷ [])) ≡ after ours (alone ours a ws) (frame s)
alone_snoc a [] s = refl
alone_snoc a (t ∷ ws) s = alone_snoc (after ours a (frame t)) ws s

made_snoc : (a : Areas) (ws : List Sent) (s : Sent)
    → made a (ws ++ (s ∷ [])) ≡ made a ws ++ (last_entry (entries (after ours (alone ours a ws) (frame s))) ∷ [])
made_snoc a [] s = refl
made_snoc a (t ∷ ws) s = ap (λ (r : List Entry). last_entry (entries (after ours a (frame t))) ∷ r) (made_snoc (after ours a (frame t)) ws s)

but_last_lem : (ws : List Sent) (s : Sent) → but_last (ws ++ (s ∷ [])) ≡ ws
but_last_lem [] s = refl
but_last_lem (t ∷ []) s = refl
but_last_lem (t ∷ u ∷ ws) s = ap (λ (r : List Sent). t ∷ r) (but_last_lem (u ∷ ws) s)

-- entries kept and the new one are again the newest
joins : (size : ℕ) (every_one dropped es : List Entry) (e : Entry) → every_one ≡ dropped ++ es
    → every_one ++ (e ∷ []) ≡ (dropped ++ (newest (size - length (encode e)) es).dropped) ++ added size es e
unfolding added
joins size every_one dropped es e m =
    let r = newest (size - length (encode e)) es in
    let k = kept (size - length (encode e)) es in
    ap (λ (x : List Entry). x ++ (e ∷ [])) (m ∙ ap (λ (x : List Entry). dropped ++ x) r.newest ∙ sym (append_assoc dropped r.dropped k))
    ∙ append_assoc (dropped ++ r.dropped) k (e ∷ [])

module _ {held : Held} {size : ℕ} (b : Bounds held size) where
  -- fresh areas hold no entry
  pub fresh_shape : Shape held size (fresh held size) []
  unfolding area_of encodes AllGood
  fresh_shape =
      let z : size ≡ size - 0 = omega arith in
      record {
        long =
            each_long held (fresh held size) (length-replicate {A = ℕ} (size_of (points_of held)) 0) (length-replicate {A = ℕ} (size_of columns_of) 0)
            (length-replicate {A = ℕ} (size_of (integers_of held)) 0)
            (length-replicate {A = ℕ} (size_of (flags_of held)) 0);
        firsts = refl;
        holds = record { bytes = ap (λ (m : ℕ). replicate m 0) z; used = refl };
        good = tt;
        counted = sym (effective_zero held.points);
        fits = omega arith;
      }

  -- writes that the board takes
  abbrev pub AllTook : List Sent → Type 0
  AllTook [] = Unit
  AllTook (s ∷ ss) = (takes held s ≡ true) × AllTook ss

  took_snoc : (ws : List Sent) (s : Sent) → AllTook ws → takes held s ≡ true → AllTook (ws ++ (s ∷ []))
  took_snoc [] s t e = (e, tt)
  took_snoc (x ∷ ws) s t e = (t.0, took_snoc ws s t.1 e)

  took_init : (ws : List Sent) (s : Sent) → AllTook (ws ++ (s ∷ [])) → AllTook ws × (takes held s ≡ true)
  took_init [] s t = (tt, t.0)
  took_init (x ∷ ws) s t = let r = took_init ws s t.1 in ((t.0, r.0), r.1)

  -- areas of the right lengths, whatever their journal holds
  pub record Some (a : Areas) : Type 0 where
    pub holding : List Entry
    pub shape : Shape held size a holding

  -- what a write orders, and that it is done on any such areas
  pub order_of_lem : (s : Sent) → takes held s ≡ true → Writes held s
  order_of_lem s e = ordered held s (and_right (eqb (number_on held s) 0) (asks_write (asked_of held s.settings.fitted s.settings.release s.frame)) e)

  record Done (s : Sent) (w : Writes held s) (a : Areas) (es : List Entry) : Type 0 where
    did : after ours a (frame s) ≡ written_by w a
    next : Shape held size (after ours a (frame s)) (added size es (old_by w a))

  done_on : (s : Sent) (e : takes held s ≡ true) {a : Areas} {es : List Entry} → Shape held size a es → Done s (order_of_lem s e) a es
  done_on s e {a} {es} h =
      let w = order_of_lem s e in
      let q = and_left (eqb (answer_of (call_on a s)).number 0) (asks_write (asked (call_on a s))) (takes_is b h s ∙ e) in
      let d = wrote w b h (eqb-true _ _ q) in
      record { did = d; next = subst (λ (x : Areas). Shape held size x (added size es (old_by w a))) (sym d) (shaped w b h) }

  alone_shape : (ws : List Sent) (a : Areas) → Some a → AllTook ws → Some (alone ours a ws)
  alone_shape [] a h t = h
  alone_shape (s ∷ ws) a h t = alone_shape ws (after ours a (frame s)) (record { holding = _; shape = (done_on s t.0 h.shape).next }) t.1

  -- each is accepted if done alone
  all_accepted_lem : (ws : List Sent) (a : Areas) → Some a → AllTook ws → all_accepted ours a ws ≡ true
  all_accepted_lem [] a h t = refl
  all_accepted_lem (s ∷ ws) a h t =
      ap₂ (λ (x y : Bool). x && y) (takes_is b h.shape s ∙ t.0)
      (all_accepted_lem ws (after ours a (frame s)) (record { holding = _; shape = (done_on s t.0 h.shape).next }) t.1)

  -- what a write's content says is what is put
  pub said_is : {s : Sent} (w : Writes held s) → run_said held (message_by s) (content_in s.frame) ≡ entry_of w
  unfolding asked_of
  said_is {s} w =
      let m = w.message in
      let content = content_in s.frame in
      let t = told held s.settings.fitted s.settings.release (message_by s) content m w.start w.count w.order in
      ap (λ (n : Option Message). run_said held n content) t.message
      ∙ ap₂ (λ (x y : ℕ). entry_for m.tag x (new_bytes m.does (kind_of held m.tag).unit y (rest_in m content))) (sym t.start_is) (sym t.count_is)

  -- and its entry is that of what stood there
  entry_is : {s : Sent} (w : Writes held s) (a : Areas) → entry_by held a s ≡ old_by w a
  unfolding asked_of
  entry_is {s} w a =
      let m = w.message in
      let content = content_in s.frame in
      let t = told held s.settings.fitted s.settings.release (message_by s) content m w.start w.count w.order in
      ap (λ (n : Option Message). entry_said held n content a) t.message
      ∙ ap₂ (λ (x y : ℕ). old_entry held m.tag x y a) (sym t.start_is) (sym t.count_is)

  -- a write on areas that hold the same leaves what the account says
  stored_same : (s : Sent) (e : takes held s ≡ true) (a a' : Areas) → Some a → ((t : ℕ) → area_in t a ≡ area_in t a') → (t : ℕ)
      → area_in t (after ours a (frame s)) ≡ area_in t (stored held a' s)
  stored_same s e a a' h same t =
      ap (area_in t) (done_on s e h.shape).did
      ∙ ap (λ (x : Entry). area_in t (put_in held x a)) (sym (said_is (order_of_lem s e)))
      ∙ same_put held (run_said held (message_by s) (content_in s.frame)) a a' same t

  some_after : (s : Sent) (e : takes held s ≡ true) (a : Areas) → Some a → Some (after ours a (frame s))
  some_after s e a h = record { holding = _; shape = (done_on s e h.shape).next }

  -- so writes done alone leave what their account says
  pub alone_account : (ws : List Sent) (a a' : Areas) → Some a → AllTook ws → ((t : ℕ) → area_in t a ≡ area_in t a') → (t : ℕ)
      → area_in t (alone ours a ws) ≡ area_in t (account held a' ws)
  alone_account [] a a' h t same = same
  alone_account (s ∷ ws) a a' h t same =
      alone_account ws (after ours a (frame s)) (stored held a' s) (some_after s t.0 a h) t.1 (stored_same s t.0 a a' h same)

  -- the last entry after a write is the write's
  last_is : {s : Sent} {w : Writes held s} {a : Areas} {es : List Entry} → Done s w a es → last_entry (entries (after ours a (frame s))) ≡ old_by w a
  unfolding added
  last_is {s} {w} {a} {es} d = ap last_entry (same_entries b d.next) ∙ last_added (kept (size - length (encode (old_by w a))) es) (old_by w a)

  -- and make the entries that it says
  made_entered : (ws : List Sent) (a a' : Areas) → Some a → AllTook ws → ((t : ℕ) → area_in t a ≡ area_in t a') → made a ws ≡ entered held a' ws
  made_entered [] a a' h t same = refl
  made_entered (s ∷ ws) a a' h t same =
      let w = order_of_lem s t.0 in
      let old : List ℕ → Entry = λ x. entry_for w.message.tag w.start (run_of (kind_of held w.message.tag) w.start w.count x) in
      ap₂ (λ (x : Entry) (xs : List Entry). x ∷ xs) (last_is (done_on s t.0 h.shape) ∙ ap old (same w.message.tag) ∙ sym (entry_is w a'))
      (made_entered ws (after ours a (frame s)) (stored held a' s) (some_after s t.0 a h) t.1 (stored_same s t.0 a a' h same))

  abbrev pub alone_by : List Sent → Areas
  alone_by ws = alone ours (fresh held size) ws

  abbrev made_by : List Sent → List Entry
  made_by ws = made (fresh held size) ws

  pub record Inv (p : Past) : Type 0 where
    pub holding : List Entry
    pub shape : Shape held size p.areas holding
    pub took : AllTook p.standing_writes
    pub things : (t : ℕ) → area_in t p.areas ≡ area_in t (alone_by p.standing_writes)
    pub dropped : List Entry
    pub newest_are : made_by p.standing_writes ≡ dropped ++ holding

  pub first : Inv (record { areas = fresh held size; standing_writes = [] })
  first = record { holding = []; shape = fresh_shape; took = tt; things = λ t. refl; dropped = []; newest_are = refl }

  pub alone_from : (ws : List Sent) → AllTook ws → Some (alone_by ws)
  alone_from ws t = alone_shape ws (fresh held size) (record { holding = []; shape = fresh_shape }) t

  -- an accepted write
  module _ (p : Past) (v : Inv p) (s : Sent) (e : accepted_write ours p.areas s ≡ true) where
    abbrev a : Areas
    a = p.areas

    abbrev ws : List Sent
    ws = p.standing_writes

    took_it : takes held s ≡ true
    took_it = sym (takes_is b v.shape s) ∙ e

    abbrev order : Writes held s
    order = order_of_lem s took_it

    here : Done s order a v.holding
    here = done_on s took_it v.shape

    there_some : Some (alone_by ws)
    there_some = alone_from ws v.took

    there : Done s order (alone_by ws) there_some.holding
    there = done_on s took_it there_some.shape

    same_entry : last_entry (entries (after ours (alone_by ws) (frame s))) ≡ old_by order a
    same_entry =
        last_is there
        ∙ ap (λ (x : List ℕ). entry_for order.message.tag order.start (run_of (kind_of held order.message.tag) order.start order.count x))
        (sym (v.things order.message.tag))

    step_write : Inv (record { areas = after ours a (frame s); standing_writes = ws ++ (s ∷ []) })
    step_write =
        record {
          holding = added size v.holding (old_by order a);
          shape = here.next;
          took = took_snoc ws s v.took took_it;
          things = λ t.
              ap (area_in t) here.did ∙ same_put held (entry_of order) a (alone_by ws) v.things t
              ∙ sym (ap (area_in t) (alone_snoc (fresh held size) ws s ∙ there.did));
          dropped = v.dropped ++ (newest (size - length (encode (old_by order a))) v.holding).dropped;
          newest_are =
              made_snoc (fresh held size) ws s
              ∙ ap (λ (x : Entry). made_by ws ++ (x ∷ [])) same_entry
              ∙ joins size (made_by ws) v.dropped v.holding (old_by order a) v.newest_are;
        }

  step_frame : (p : Past) → Inv p → (s : Sent)
      → Inv (record { areas = after ours p.areas (frame s); standing_writes = standing ours p.areas p.standing_writes (frame s) })
  step_frame p v s = go (accepted_write ours p.areas s) refl
    where
      go : (x : Bool) → accepted_write ours p.areas s ≡ x
          → Inv (record { areas = after ours p.areas (frame s); standing_writes = cond x (p.standing_writes ++ (s ∷ [])) p.standing_writes })
      go true e = step_write p v s e
      go false e = subst (λ (x : Areas). Inv (record { areas = x; standing_writes = p.standing_writes })) (sym (keeps_all p.areas s e)) v

  -- a step back on such areas: refused where no entry is left
  module _ {a : Areas} {es : List Entry} (h : Shape held size a es) where
    back_number : (back_of a).number ≡ cond (eqb a.kept.used 0) 9 0
    back_number = one_number.back a ∙ back_is b h

    none_9 : a.kept.used ≡ 0 → (back_of a).number ≡ 9
    none_9 e = back_number ∙ rw (eq-eqb a.kept.used 0 e)

    some_0 : (a.kept.used ≡ 0 → ⊥) → (back_of a).number ≡ 0
    some_0 k = back_number ∙ rw (ne_eqb a.kept.used 0 k)

    some_used : (back_of a).number ≡ 0 → a.kept.used ≡ 0 → ⊥
    some_used e z = let f : ◌≡◌ {A = ℕ} 9 0 = sym (none_9 z) ∙ e in omega (arith, f)

    -- a number other than 0
    zero_used : ((back_of a).number ≡ 0 → ⊥) → a.kept.used ≡ 0
    zero_used k = go a.kept.used refl
      where
        go : (u : ℕ) → a.kept.used ≡ u → a.kept.used ≡ 0
        go zero q = q
        go (suc u) q = absurd (k (some_0 (λ z. omega (arith, q, z))))

    none_left : es ≡ [] → a.kept.used ≡ 0
    unfolding encodes
    none_left e = h.holds.used ∙ ap (λ (x : List Entry). length (encodes x)) e

    left_none : a.kept.used ≡ 0 → es ≡ []
    unfolding encodes
    left_none u = go es (sym h.holds.used ∙ u)
      where
        go : (x : List Entry) → length (encodes x) ≡ 0 → x ≡ []
        go [] f = refl
        go (y ∷ x) f = absurd (omega (arith, f, length-append (encode y) (encodes x), length_encode y))

    refused_9 : (es ≡ []) ↔ ((back_of a).number ≡ 9)
    refused_9 = (λ e. none_9 (none_left e), λ e. left_none (zero_used (λ z. let f : ◌≡◌ {A = ℕ} 9 0 = sym e ∙ z in omega (arith, f))))

    accepted_0 : (es ≡ [] → ⊥) ↔ ((back_of a).number ≡ 0)
    accepted_0 = (λ k. some_0 (λ z. k (left_none z)), λ e z. some_used e (none_left z))

    -- an accepted one puts the last entry's bytes back and leaves the others; a refused one changes nothing
    abbrev taken : Areas
    taken = with_entries (others es) (put_in held (last_entry es) a)

    back_left : (back_of a).number ≡ 0 → after ours a step_back ≡ taken
    back_left e =
        ap (λ (o : Outcome). o.areas) (accepted_back a (sym (one_number.back a) ∙ e))
        ∙ ap (λ (x : Held). stepped_back x a) (held_is b h)
        ∙ ap (λ (x : List Entry). with_entries (others x) (put_in held (last_entry x) a)) (entries_held b h)

    back_keeps : ((back_of a).number ≡ 0 → ⊥) → after ours a step_back ≡ a
    back_keeps = changes_nothing.back a

  -- an accepted step back
  record Taken (p : Past) (es : List Entry) : Type 0 where
    next_shape : Shape held size (after ours p.areas step_back) (others es)
    next : Inv (record { areas = after ours p.areas step_back; standing_writes = but_last p.standing_writes })

  module _ (p : Past) (v : Inv p) (e : (back_of p.areas).number ≡ 0) where
    abbrev now : Areas
    now = p.areas

    abbrev es : List Entry
    es = v.holding

    split : es ≡ others es ++ (last_entry es ∷ [])
    split = split_last es (ne_zero (length (encodes es)) (λ z. some_used v.shape e (v.shape.holds.used ∙ z)))

    all_made : made_by p.standing_writes ≡ (v.dropped ++ others es) ++ (last_entry es ∷ [])
    all_made = v.newest_are ∙ ap (λ (x : List Entry). v.dropped ++ x) split ∙ sym (append_assoc v.dropped (others es) (last_entry es ∷ []))

    fewer : length (encodes (others es)) ≤ size
    fewer =
        omega (
          arith,
          v.shape.fits,
          ap (λ (x : List Entry). length (encodes x)) split ∙ ap length (encodes_snoc (others es) (last_entry es))
              ∙ length-append (encodes (others es)) (encode (last_entry es)),
        )

    -- the latest write, and what stood before it
    module _ (ws : List Sent) (s : Sent) (q : p.standing_writes ≡ ws ++ (s ∷ [])) where
      abbrev old : Areas
      old = alone_by ws

      both : AllTook ws × (takes held s ≡ true)
      both = took_init ws s (subst AllTook q v.took)

      abbrev undo : Writes held s
      undo = order_of_lem s both.1

      old_some : Some old
      old_some = alone_from ws both.0

      redone : Done s undo old old_some.holding
      redone = done_on s both.1 old_some.shape

      ends_same : made_by ws ++ (last_entry (entries (after ours old (frame s))) ∷ []) ≡ (v.dropped ++ others es) ++ (last_entry es ∷ [])
      ends_same = sym (made_snoc (fresh held size) ws s) ∙ ap (made (fresh held size)) (sym q) ∙ all_made

      older : made_by ws ≡ v.dropped ++ others es
      older = sym (others_added (made_by ws) _) ∙ ap others ends_same ∙ others_added (v.dropped ++ others es) (last_entry es)

      latest : last_entry es ≡ old_by undo old
      latest = sym (last_added (v.dropped ++ others es) (last_entry es)) ∙ ap last_entry (sym ends_same) ∙ last_added (made_by ws) _ ∙ last_is redone

      -- the areas are those of the write on what stood before it, and its entry puts that back
      written_now : (t : ℕ) → area_in t now ≡ area_in t (put_in held (entry_of undo) old)
      written_now t = v.things t ∙ ap (area_in t) (ap (alone ours (fresh held size)) q ∙ alone_snoc (fresh held size) ws s ∙ redone.did)

      things_back : (t : ℕ) → area_in t (taken v.shape) ≡ area_in t old
      things_back t =
          ap (λ (x : Entry). area_in t (put_in held x now)) latest
          ∙ same_put held (old_by undo old) now (put_in held (entry_of undo) old) written_now t
          ∙ undone undo old old_some.shape.long t

      taken_shape : Shape held size (taken v.shape) (others es)
      taken_shape =
          record {
            long = λ t. ap length (things_back t) ∙ old_some.shape.long t;
            firsts = v.shape.firsts;
            holds = record { bytes = ap (λ (m : ℕ). area_of m (others es)) (journal_long b v.shape); used = refl };
            good = good_others held es v.shape.good;
            counted = counted_after held (last_entry es) now v.shape.counted;
            fits = fewer;
          }

      taken_inv : Inv (record { areas = taken v.shape; standing_writes = ws })
      taken_inv = record { holding = others es; shape = taken_shape; took = both.0; things = things_back; dropped = v.dropped; newest_are = older }

      step_taken : Taken p es
      step_taken =
          record {
            next_shape = subst (λ (x : Areas). Shape held size x (others es)) (sym (back_left v.shape e)) taken_shape;
            next =
                subst (λ (x : Areas). Inv (record { areas = x; standing_writes = but_last p.standing_writes })) (sym (back_left v.shape e))
                (subst (λ (x : List Sent). Inv (record { areas = taken v.shape; standing_writes = x })) (sym (ap but_last q ∙ but_last_lem ws s)) taken_inv);
          }

    step_latest : Taken p es
    step_latest = go refl (ends p.standing_writes)
      where
        go : {ws : List Sent} → p.standing_writes ≡ ws → Ends ws → Taken p es
        go q nothing =
            absurd
            (omega (arith, ap length (sym (ap (made (fresh held size)) q) ∙ all_made) ∙ length-append (v.dropped ++ others es) (last_entry es ∷ [])))
        go q (last ws s) = step_taken ws s q

  step_back_lem : (p : Past) → Inv p
      → Inv (record { areas = after ours p.areas step_back; standing_writes = standing ours p.areas p.standing_writes step_back })
  step_back_lem p v = go (eqb (back_of p.areas).number 0) refl
    where
      go : (x : Bool) → eqb (back_of p.areas).number 0 ≡ x
          → Inv (record { areas = after ours p.areas step_back; standing_writes = cond x (but_last p.standing_writes) p.standing_writes })
      go true e = (step_latest p v (eqb-true _ _ e)).next
      go false e = subst (λ (x : Areas). Inv (record { areas = x; standing_writes = p.standing_writes })) (sym (back_keeps v.shape (eqb-false _ _ e))) v

  pub every : (p : Past) → Inv p → (events : List Event) → Inv (past ours p events)
  every p v [] = v
  every p v (frame s ∷ events) =
      every
      (record { areas = after ours p.areas (frame s); standing_writes = standing ours p.areas p.standing_writes (frame s) })
      (step_frame p v s)
      events
  every p v (step_back ∷ events) =
      every
      (record { areas = after ours p.areas step_back; standing_writes = standing ours p.areas p.standing_writes step_back })
      (step_back_lem p v)
      events

  removes_last : (p : Past) (v : Inv p) → entries (after ours p.areas step_back) ≡ others (entries p.areas)
  unfolding others
  removes_last p v = go (eqb (back_of p.areas).number 0) refl
    where
      go : (x : Bool) → eqb (back_of p.areas).number 0 ≡ x → entries (after ours p.areas step_back) ≡ others (entries p.areas)
      go true e = same_entries b (step_latest p v (eqb-true _ _ e)).next_shape ∙ ap others (sym (same_entries b v.shape))
      go false e =
          let k = eqb-false _ _ e in
          let none : entries p.areas ≡ [] = same_entries b v.shape ∙ left_none v.shape (zero_used v.shape k) in
          ap entries (back_keeps v.shape k) ∙ none ∙ ap others (sym none)

  back_not_eleven : (b : Bool) → ◌≡◌ {A = ℕ} (cond b 9 0) 11 → ⊥
  back_not_eleven true e = omega (arith, e)
  back_not_eleven false e = omega (arith, e)

  pub holds_always : (p : Past) → Inv p → Holds ours held size p
  holds_always p v =
      let es = sym (same_entries b v.shape) in
      record {
        things = v.things;
        whole_writes = λ t.
            v.things t
            ∙ alone_account p.standing_writes (fresh held size) (fresh held size) (record { holding = []; shape = fresh_shape }) v.took (λ u. refl) t;
        accepted_alone = all_accepted_lem p.standing_writes (fresh held size) (record { holding = []; shape = fresh_shape }) v.took;
        dropped = v.dropped;
        newest =
            sym (made_entered p.standing_writes (fresh held size) (fresh held size) (record { holding = []; shape = fresh_shape }) v.took (λ u. refl))
            ∙ v.newest_are
            ∙ ap (λ (x : List Entry). v.dropped ++ x) es;
        journal = v.shape.holds.bytes ∙ ap (area_of size) es;
        used = v.shape.holds.used ∙ ap (λ (x : List Entry). length (encodes x)) es;
        counted = count_true_lem b v.shape;
        never_eleven = λ s e.
            true≢false
            (sym (by_eleven (call_on p.areas s) (sym (one_number.frame (call_on p.areas s)) ∙ e))
            ∙ true_fits (message_by s) p.areas.points p.areas.kept.effective (count_true_lem b v.shape));
        never_back = λ e. back_not_eleven (eqb p.areas.kept.used 0) (sym (back_number v.shape) ∙ e);
        firsts = v.shape.firsts;
        numbers = λ s. one_number.frame (call_on p.areas s);
        adds = λ s e. same_entries b (here p v s e).next ∙ ap₂ (added size) es (sym (entry_is (order p v s e) p.areas));
        keeps = λ s e. keeps_all p.areas s e;
        removes = removes_last p v;
        accepted = subst (λ (x : List Entry). (x ≡ [] → ⊥) ↔ ((back_of p.areas).number ≡ 0)) es (accepted_0 v.shape);
        refused = subst (λ (x : List Entry). (x ≡ []) ↔ ((back_of p.areas).number ≡ 9)) es (refused_9 v.shape);
      }

  from_fresh : (events : List Event) → Holds ours held size (past ours (record { areas = fresh held size; standing_writes = [] }) events)
  from_fresh events = holds_always _ (every _ first events)

pub every_history : EveryHistory ours
every_history held size s l g events = from_fresh (record { sound = s; least = l; largest = g }) events
