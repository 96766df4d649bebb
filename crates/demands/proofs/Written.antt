-- What a write of any kind leaves: its bytes where it names them, all else as it was, and a board that the next call takes.
use Prim.Native.Nat.{ℕ, ◌*◌}
use mathlib.Core.Path.{◌≡◌, refl, sym, ap, ◌∙◌, subst}
use mathlib.Core.Bool.{Bool, true, false, cond}
use mathlib.Core.List.{List}
use native.Mathlib.Omega.{arith}
use lib.Dec.{eqb}
use lib.ListN.{length}
use borrow.Author.Tests.{eq-eqb, ne_eqb, eqb-true, eqb-false}
use Rattle.kinds.specs.declared.Kind.{Kind}
use Rattle.kinds.specs.Kinds.{points_tag, columns_tag, integers_tag, flags_tag, points_of, held_in, holds, size_of, put}
use Rattle.kinds.proofs.Known.{tag_of, own_kind, room, run_length}
use Rattle.kinds.proofs.Promised.{run}
use Rattle.points.specs.Point.{effective_in}
use Rattle.journal.specs.Journal.{puts, entry_for}
use Rattle.journal.specs.Laws.{Good}
use Rattle.journal.proofs.Codec.{Bytes}
use Rattle.journal.proofs.Fitting.{good}
use Rattle.table.specs.declared.Message.{Message}
use Rattle.calls.specs.Calls.{Areas, Call, Outcome, lengths_of, area_in, count_after, old_entry, written}
use Rattle.calls.proofs.Tagged.{put_own, put_other, counted_after}
use Rattle.kinds.specs.declared.Lengths.{Lengths}
use Rattle.refusals.specs.Refusals.{journal_fits}
use Rattle.refusals.proofs.Rows.{AreasPass, call_passed}
use Rattle.orders.specs.Orders.{writes}
use Rattle.link.specs.Answer.{held, answer_of}
use Rattle.orders.proofs.Judging.{Writable, writable}
use Rattle.link.proofs.Carrying.{fine, areas_long}
use Rattle.demands.specs.History.{effective_of, CountTrue}
use Rattle.demands.proofs.Own.{own as ours}
use Rattle.demands.specs.Reading.{content, start_of, count_of}
use Rattle.demands.specs.Survive.{Outside, OnlyNamed}
use Rattle.demands.specs.LookFirst.{kind_named, bytes_said}
use Rattle.demands.proofs.Asking.{Took, Open}
use Rattle.demands.proofs.Journals.{journal_again}

module _ (k : Kind) (start count : ℕ) (bytes area : List ℕ) (h : holds k start count ≡ true) (l : length area ≡ size_of k) (e : length bytes ≡ count * k.unit) where
  -- a run put where it is held leaves what stands outside it
  pub outside : Outside k start count area (put k start bytes area)
  outside =
      let r = room k start count h in
      let w = run k start count bytes area e (omega arith) in
      record { before_it = w.outside_before; behind_it = λ i b. w.outside_behind i (omega arith); as_long = w.as_long }

-- the bytes that it stores
abbrev pub new_in : Message → Call → List ℕ
new_in m c = bytes_said m (count_of m c.sent) c

-- what an accepted write leaves
pub record Wrote (m : Message) (c : Call) : Type 0 where
  pub run : Writable (held c) (content c.sent) m (start_of m c.sent) (count_of m c.sent)
  pub own : area_in m.tag (answer_of c).areas ≡ put (kind_named m c) (start_of m c.sent) (new_in m c) (area_in m.tag c.areas)
  pub only : OnlyNamed ours m c

module _ (m : Message) (c : Call) (t : Took m c) where
  -- the areas that an accepted message leaves
  pub areas_left : (b : Bool) → writes m.does ≡ b → (answer_of c).areas ≡ cond b (written (held c) m.tag (start_of m c.sent) (count_of m c.sent) (new_in m c) c.areas) c.areas
  areas_left b w =
      ap (λ (o : Outcome). o.areas) t.answer
      ∙ ap (λ (x : Bool). cond x (written (held c) m.tag (start_of m c.sent) (count_of m c.sent) (new_in m c) c.areas) c.areas) w

  module _ (w : writes m.does ≡ true) where
    pub wrote : Wrote m c
    wrote =
        let r = writable (held c) (content c.sent) m (start_of m c.sent) (count_of m c.sent) t.assured w in
        let own =
        ap (area_in m.tag) (areas_left true w) ∙ put_own (held c) (start_of m c.sent) (count_of m c.sent) (new_in m c) c.areas m.tag r.run.some r.run.held_all in
        record {
          run = r;
          own = own;
          only =
              record {
                outside =
                    subst (Outside (kind_named m c) (start_of m c.sent) (count_of m c.sent) (area_in m.tag c.areas)) (sym own)
                    (outside (kind_named m c) (start_of m c.sent) (count_of m c.sent) (new_in m c) (area_in m.tag c.areas) r.run.held_all (areas_long c.areas (fine c t.heard).areas m.tag) r.long);
                others = λ tag n. ap (area_in tag) (areas_left true w) ∙ put_other (held c) (entry_for m.tag (start_of m c.sent) (new_in m c)) c.areas tag n;
                firsts = ap (λ (a : Areas). a.firsts) (areas_left true w);
                query = λ q. areas_left false q;
              };
        }

    -- the areas stay as long as they were
    pub lengths_kept : lengths_of (answer_of c).areas ≡ lengths_of c.areas
    lengths_kept = λ i.
        record {
          points = same points_tag i;
          columns = same columns_tag i;
          integers = same integers_tag i;
          flags = same flags_tag i;
          firsts = (areas_left true w i).firsts;
        }
      where
        same : (tag : ℕ) → length (area_in tag (answer_of c).areas) ≡ length (area_in tag c.areas)
        same tag = go (eqb tag m.tag) refl
          where
            go : (b : Bool) → eqb tag m.tag ≡ b → length (area_in tag (answer_of c).areas) ≡ length (area_in tag c.areas)
            go true e =
                subst (λ (x : ℕ). length (area_in x (answer_of c).areas) ≡ length (area_in x c.areas)) (sym (eqb-true tag m.tag e)) wrote.only.outside.as_long
            go false e = ap length (wrote.only.others tag (eqb-false _ _ e))

    -- the count that it hands on
    pub count_left_lem : (answer_of c).areas.kept.effective
        ≡ count_after (held c) (entry_for m.tag (start_of m c.sent) (new_in m c)) c.areas
    count_left_lem = ap (λ (a : Areas). a.kept.effective) (areas_left true w)

    slots_left : effective_of (answer_of c).areas
        ≡ effective_in (held c).points (puts (points_of (held c)) (entry_for m.tag (start_of m c.sent) (new_in m c)) c.areas.points)
    slots_left =
        ap (λ (x : Lengths). effective_in (held_in x).points (answer_of c).areas.points) lengths_kept
        ∙ ap (λ (a : Areas). effective_in (held c).points a.points) (areas_left true w)

    -- true after a write of points, and where it was true
    pub points_counted : m.tag ≡ points_tag → CountTrue (answer_of c).areas
    points_counted e = count_left_lem ∙ rw (eq-eqb _ _ e) (sym slots_left)

    pub still_counted : CountTrue c.areas → CountTrue (answer_of c).areas
    still_counted t =
        count_left_lem ∙ counted_after (held c) (entry_for m.tag (start_of m c.sent) (new_in m c)) c.areas t ∙ sym slots_left

    -- and as given where it is of another kind
    pub count_given : (m.tag ≡ points_tag → ⊥) → (answer_of c).areas.kept.effective ≡ c.areas.kept.effective
    count_given n = count_left_lem ∙ rw (ne_eqb _ _ n)

    -- the old bytes, added to a journal that has room for them, leave one that the next call takes
    journal_last : Bytes c.areas.journal → journal_fits (held c) (answer_of c).areas.journal (answer_of c).areas.kept.used ≡ true
    journal_last bs =
        let f = fine c t.heard in
        let r = wrote.run.run in
        let e = old_entry (held c) m.tag (start_of m c.sent) (count_of m c.sent) c.areas in
        let l : length e.bytes ≡ count_of m c.sent * (kind_named m c).unit =
        run_length (kind_named m c) (start_of m c.sent) (count_of m c.sent) r.held_all (area_in m.tag c.areas) (areas_long c.areas f.areas m.tag) in
        let g : Good (held c) e =
        subst (λ (x : ℕ). Good (held c) (entry_for x (start_of m c.sent) e.bytes)) (tag_of (held c) m.tag)
        (good (held c) (kind_named m c) (start_of m c.sent) (count_of m c.sent) e.bytes f.sound_held (own_kind (held c) m.tag) r.some r.named r.held_all l) in
        subst (λ (a : Areas). journal_fits (held c) a.journal a.kept.used ≡ true) (sym (areas_left true w))
        (journal_again (held c) c.areas.journal c.areas.kept.used e bs f.journal g (omega (arith, f.journal.least, r.few_bytes)))

  -- an accepted message leaves areas that no test refuses
  pub open_after : Bytes c.areas.journal → Open (answer_of c).areas
  open_after bs = go (writes m.does) refl
    where
      passed : Open c.areas
      passed = (call_passed c t.heard).early.areas

      go : (b : Bool) → writes m.does ≡ b → Open (answer_of c).areas
      go true w =
          subst (λ (x : Lengths). AreasPass x (answer_of c).areas.journal (answer_of c).areas.kept) (sym (lengths_kept w))
          (record { points = passed.points; columns = passed.columns; variables = passed.variables; journal_fits_lem = journal_last w bs })
      go false w = subst Open (sym (areas_left false w)) passed

  -- and a true count true
  pub counted_still : CountTrue c.areas → CountTrue (answer_of c).areas
  counted_still n = go (writes m.does) refl
    where
      go : (b : Bool) → writes m.does ≡ b → CountTrue (answer_of c).areas
      go true w = still_counted w n
      go false w = subst CountTrue (sym (areas_left false w)) n

  -- an accepted message changes nothing but what it names
  pub only_named : OnlyNamed ours m c
  only_named = go (writes m.does) refl
    where
      go : (b : Bool) → writes m.does ≡ b → OnlyNamed ours m c
      go true w = (wrote w).only
      go false w =
          let e : c.areas ≡ (answer_of c).areas = sym (areas_left false w) in
          record {
            outside =
                subst (λ (a : Areas). Outside (kind_named m c) (start_of m c.sent) (count_of m c.sent) (area_in m.tag c.areas) (area_in m.tag a)) e
                (record { before_it = λ i b. refl; behind_it = λ i b. refl; as_long = refl });
            others = λ tag n. ap (area_in tag) (sym e);
            firsts = ap (λ (a : Areas). a.firsts) (sym e);
            query = λ q. sym e;
          }
