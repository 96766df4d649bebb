-- What an accepted write leaves, and what puts it back, whatever the kind of thing written.
use Prim.Native.Nat.{ℕ, ◌*◌}
use mathlib.Core.Path.{◌≡◌, refl, ap, ap₂, ◌∙◌, subst}
use mathlib.Core.Bool.{Bool, true, false, cond}
use mathlib.Core.List.{List}
use native.Mathlib.Omega.{arith}
use lib.Dec.{eqb}
use lib.ListN.{length}
use borrow.Author.Tests.{eqb-true}
use Rattle.frames.specs.Frame.{content_in}
use Rattle.kinds.specs.declared.Held.{Held}
use Rattle.kinds.specs.Kinds.{points_tag, columns_tag, integers_tag, flags_tag, points_of, columns_of, integers_of, flags_of, kind_of, size_of, put}
use Rattle.kinds.specs.Laws.{Run}
use Rattle.kinds.proofs.Promised.{run}
use Rattle.kinds.proofs.Known.{tag_of, own_kind, kind_points, kind_columns, kind_integers, kind_flags, room, run_length}
use Rattle.journal.specs.Journal.{Entry, encodes, added, area_of, puts, entry_for}
use Rattle.journal.specs.Laws.{Good}
use Rattle.journal.proofs.Codec.{length_encode}
use Rattle.journal.proofs.Again.{good_added}
use Rattle.journal.proofs.Fitting.{good}
use Rattle.table.specs.declared.Message.{Message}
use Rattle.messages.specs.Asked.{Asked, Refused, Order, asked_of}
use Rattle.table.specs.Table.{rest_in}
use Rattle.calls.specs.Calls.{Areas, Sent, Outcome, area_in, put_in, old_entry, written}
use Rattle.calls.proofs.Tagged.{each_long, same_areas, counted_after}
use Rattle.orders.specs.Orders.{writes, new_bytes}
use Rattle.link.specs.Answer.{areas_after, stored_by, answer_of}
use Rattle.link.proofs.Answering.{accepted, heard_answer}
use Rattle.orders.proofs.Judging.{Writable, writable, judged_so}
use Rattle.demands.specs.Refused.{asks_write}
use Rattle.demands.specs.History.{frame, call_on, after, ours}
use Rattle.demands.proofs.Journals.{added_fits}
use Rattle.demands.proofs.Shaped.{Bounds, Shape, held_is, journal_long, entries_held}

-- what a frame that writes orders of a board that holds so much, and that it can be carried out
pub record Writes (held : Held) (s : Sent) : Type 0 where
  pub message : Message
  pub start : ℕ
  pub count : ℕ
  pub order : asked_of held s.settings.fitted s.settings.release s.frame ≡ Order message start count
  pub is_write : writes message.does ≡ true
  pub able : Writable held (content_in s.frame) message start count

pub ordered : (held : Held) (s : Sent) → asks_write (asked_of held s.settings.fitted s.settings.release s.frame) ≡ true → Writes held s
ordered held s = go (asked_of held s.settings.fitted s.settings.release s.frame) refl
  where
    go : (a : Asked) → asked_of held s.settings.fitted s.settings.release s.frame ≡ a → asks_write a ≡ true → Writes held s
    go (Refused number) q e = absurd (let z : ◌≡◌ {A = ℕ} 0 1 = ap (λ (b : Bool). cond b 1 0) e in omega arith)
    go (Order m start count) q e =
        record {
          message = m;
          start = start;
          count = count;
          order = q;
          is_write = e;
          able = writable held (content_in s.frame) m start count (judged_so held s.settings.fitted s.settings.release s.frame m start count q) e;
        }

module _ {held : Held} {s : Sent} (w : Writes held s) where
  abbrev tag : ℕ
  tag = w.message.tag

  abbrev new : List ℕ
  new = new_bytes w.message.does (kind_of held tag).unit w.count (rest_in w.message (content_in s.frame))

  -- the entry of what it writes, that of what stood there, and the areas that it leaves
  abbrev pub entry_of : Entry
  entry_of = entry_for tag w.start new

  abbrev pub old_by : Areas → Entry
  old_by = old_entry held tag w.start w.count

  abbrev pub written_by : Areas → Areas
  written_by = written held tag w.start w.count new

  -- an accepted write leaves just that
  pub wrote : {size : ℕ} (b : Bounds held size) {a : Areas} {es : List Entry} → Shape held size a es → (answer_of (call_on a s)).number ≡ 0
      → after ours a (frame s) ≡ written_by a
  wrote b {a} h e =
      let c = call_on a s in
      let is = held_is b h in
      ap (λ (o : Outcome). o.areas) (heard_answer c (accepted c e).heard)
      ∙ ap (areas_after c) (ap (λ (x : Held). asked_of x s.settings.fitted s.settings.release s.frame) is ∙ w.order)
      ∙ ap (λ (x : Held). stored_by x w.message w.start w.count (rest_in w.message (content_in s.frame)) a) is
      ∙ rw w.is_write

-- areas that hold the same, kind by kind: so is what is put into them
pub same_put : (held : Held) (e : Entry) (a a' : Areas) → ((t : ℕ) → area_in t a ≡ area_in t a') → (t : ℕ)
    → area_in t (put_in held e a) ≡ area_in t (put_in held e a')
same_put held e a a' f =
    same_areas (put_in held e a) (put_in held e a') (ap (puts (points_of held) e) (f points_tag)) (ap (puts columns_of e) (f columns_tag))
    (ap (puts (integers_of held) e) (f integers_tag))
    (ap (puts (flags_of held) e) (f flags_tag))

-- a write over areas of the right lengths
module _ {held : Held} {s : Sent} (w : Writes held s) (a : Areas) (l : (t : ℕ) → length (area_in t a) ≡ size_of (kind_of held t)) where
  its_run : Run (kind_of held (tag w)) w.start w.count (new w) (area_in (tag w) a)
  its_run =
      run (kind_of held (tag w)) w.start w.count (new w) (area_in (tag w) a) w.able.long
      (omega (arith, room (kind_of held (tag w)) w.start w.count w.able.run.held_all, w.able.long, l (tag w)))

  -- one law over the kind: an area after the write is as long, and what stood there, put back, is the area
  after_put : (t : ℕ) → length (puts (kind_of held t) (entry_of w) (area_in t a)) ≡ size_of (kind_of held t)
  unfolding puts
  after_put t = go (eqb (tag w) (kind_of held t).tag) refl
    where
      go : (x : Bool) → eqb (tag w) (kind_of held t).tag ≡ x
          → length (cond x (put (kind_of held t) w.start (new w) (area_in t a)) (area_in t a)) ≡ size_of (kind_of held t)
      go true e =
          subst (λ (u : ℕ). length (put (kind_of held u) w.start (new w) (area_in u a)) ≡ size_of (kind_of held u)) (eqb-true _ _ e ∙ tag_of held t)
          (its_run.as_long ∙ l (tag w))
      go false e = l t

  put_back : (t : ℕ) → puts (kind_of held t) (old_by w a) (puts (kind_of held t) (entry_of w) (area_in t a)) ≡ area_in t a
  unfolding puts
  put_back t = go (eqb (tag w) (kind_of held t).tag) refl
    where
      puts_if : Bool → List ℕ → List ℕ → List ℕ
      puts_if x bytes area = cond x (put (kind_of held t) w.start bytes area) area

      go : (x : Bool) → eqb (tag w) (kind_of held t).tag ≡ x → puts_if x (old_by w a).bytes (puts_if x (new w) (area_in t a)) ≡ area_in t a
      go true e =
          subst (λ (u : ℕ). put (kind_of held u) w.start (old_by w a).bytes (put (kind_of held u) w.start (new w) (area_in u a)) ≡ area_in u a)
          (eqb-true _ _ e ∙ tag_of held t)
          its_run.put_back
      go false e = refl

  pub undone : (t : ℕ) → area_in t (put_in held (old_by w a) (put_in held (entry_of w) a)) ≡ area_in t a
  undone =
      same_areas (put_in held (old_by w a) (put_in held (entry_of w) a)) a (rw (kind_points held) at (put_back points_tag))
      (rw (kind_columns held) at (put_back columns_tag))
      (rw (kind_integers held) at (put_back integers_tag))
      (rw (kind_flags held) at (put_back flags_tag))

  pub long_again : (t : ℕ) → length (area_in t (put_in held (entry_of w) a)) ≡ size_of (kind_of held t)
  long_again =
      each_long held (put_in held (entry_of w) a) (rw (kind_points held) at (after_put points_tag)) (rw (kind_columns held) at (after_put columns_tag))
      (rw (kind_integers held) at (after_put integers_tag))
      (rw (kind_flags held) at (after_put flags_tag))

  -- the entry of what stood there is good
  old_long : length (old_by w a).bytes ≡ w.count * (kind_of held (tag w)).unit
  old_long = run_length (kind_of held (tag w)) w.start w.count w.able.run.held_all (area_in (tag w) a) (l (tag w))

  old_good : {size : ℕ} → Bounds held size → Good held (old_by w a)
  old_good b =
      let r = w.able.run in
      subst (λ (t : ℕ). Good held (entry_for t w.start (old_by w a).bytes)) (tag_of held (tag w))
      (good held (kind_of held (tag w)) w.start w.count (old_by w a).bytes b.sound (own_kind held (tag w)) r.some r.named r.held_all old_long)

-- the areas after a write are of the right lengths again
pub shaped : {held : Held} {size : ℕ} {s : Sent} (w : Writes held s) (b : Bounds held size) {a : Areas} {es : List Entry} → Shape held size a es
    → Shape held size (written_by w a) (added size es (old_by w a))
shaped {held} {size} w b {a} {es} h =
    record {
      long = long_again w a h.long;
      firsts = h.firsts;
      holds =
          record {
            bytes = ap₂ (λ (m : ℕ) (x : List Entry). area_of m (added m x (old_by w a))) (journal_long b h) (entries_held b h);
            used = ap₂ (λ (m : ℕ) (x : List Entry). length (encodes (added m x (old_by w a)))) (journal_long b h) (entries_held b h);
          };
      good = good_added held size es (old_by w a) h.good (old_good w a h.long b);
      counted = counted_after held (entry_of w) a h.counted;
      fits = added_fits size es (old_by w a) (omega (arith, length_encode (old_by w a), old_long w a h.long, w.able.run.few_bytes, b.least));
    }
