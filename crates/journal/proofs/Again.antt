-- What an add or a step back leaves meets what the next one requires.
use Prim.Native.Nat.{ℕ, ◌-◌, ◌≤◌}
use mathlib.Core.Path.{◌≡◌, sym, ap, ◌∙◌}
use mathlib.Core.Bool.{Bool, true, false, cond}
use mathlib.Core.List.{List, [], ◌∷◌, ◌++◌}
use native.Mathlib.Omega.{arith}
use lib.ListN.{length, take, replicate, length-append}
use lib.Dec.{leb}
use lib.Seq.{take_at}
use Rattle.kinds.specs.declared.Held.{Held}
use Rattle.journal.specs.Journal.{Entry, encode, encodes, whole, entries_in, kept, added, area_of, others_of, others}
use Rattle.journal.specs.Laws.{Good, AllGood, Holds}
use Rattle.journal.proofs.Codec.{read_back}

good_snoc : (held : Held) (es : List Entry) (e : Entry) → AllGood held es → Good held e → AllGood held (es ++ (e ∷ []))
unfolding AllGood
good_snoc held [] e g h = (h, tt)
good_snoc held (x ∷ es) e g h = (g.0, good_snoc held es e g.1 h)

good_kept : (held : Held) (room : ℕ) (es : List Entry) → AllGood held es → AllGood held (kept room es)
unfolding AllGood kept
good_kept held room [] g = tt
good_kept held room (e ∷ es) g = go (leb (length (encodes (e ∷ es))) room) (good_kept held room es g.1)
  where
    go : (b : Bool) → AllGood held (kept room es) → AllGood held (cond b (e ∷ es) (kept room es))
    go true h = g
    go false h = h

pub good_added : (held : Held) (size : ℕ) (es : List Entry) (e : Entry) → AllGood held es → Good held e → AllGood held (added size es e)
unfolding added
good_added held size es e g h = good_snoc held (kept (size - length (encode e)) es) e (good_kept held (size - length (encode e)) es g) h

good_others_of : (held : Held) (e : Entry) (es : List Entry) → AllGood held (e ∷ es) → AllGood held (others_of e es)
unfolding AllGood others_of
good_others_of held e [] g = tt
good_others_of held e (f ∷ es) g = (g.0, good_others_of held f es g.1)

pub good_others : (held : Held) (es : List Entry) → AllGood held es → AllGood held (others es)
unfolding AllGood others
good_others held [] g = tt
good_others held (e ∷ es) g = good_others_of held e es g

-- the used part of a journal that holds good entries
pub record Again (held : Held) (es : List Entry) (j : List ℕ) (used : ℕ) : Type 0 where
  pub within : used ≤ length j
  pub good : whole held 0 (take used j) ≡ true
  pub same : entries_in held 0 (take used j) ≡ es

pub again : (held : Held) (size : ℕ) (es : List Entry) (j : List ℕ) (used : ℕ) → Holds size es j used → AllGood held es → Again held es j used
unfolding area_of
again held size es j used h g =
    let z : List ℕ = replicate (size - length (encodes es)) 0 in
    let t : take used j ≡ encodes es = ap (take used) h.bytes ∙ take_at (encodes es) z used (sym h.used) in
    record {
      within = omega (arith, h.used, ap length h.bytes ∙ length-append (encodes es) z);
      good = ap (whole held 0) t ∙ (read_back held es g).0;
      same = ap (entries_in held 0) t ∙ (read_back held es g).1;
    }
