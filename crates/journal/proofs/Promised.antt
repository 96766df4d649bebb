-- The laws of specs/Laws.antt.
use Prim.Native.Nat.{ℕ, ◌-◌, ◌<◌, ◌≤◌}
use mathlib.Core.Path.{◌≡◌, refl, sym, ap, ◌∙◌}
use mathlib.Core.Bool.{Bool, true, false}
use mathlib.Core.List.{List, [], ◌∷◌, ◌++◌}
use native.Mathlib.Omega.{arith}
use lib.ListN.{length, length-append}
use lib.Dec.{leb}
use borrow.Author.Tests.{leb-true, leb-false}
use Rattle.kinds.specs.declared.Held.{Held}
use Rattle.kinds.specs.Kinds.{run_of, put}
use Rattle.kinds.proofs.Promised.{run}
use Rattle.journal.specs.Journal.{Entry, encode, encodes, kept, added, last_of, others_of, last_entry, others, puts, entry_for}
use Rattle.journal.specs.Laws.{ReadBack, Encoding, Newest, EveryUndone}
use Rattle.journal.proofs.Codec as codec
use Rattle.journal.proofs.Keeping.{kept_all, kept_fewer}
use Rattle.journal.proofs.Fitting.{puts_own}

pub read_back : (held : Held) (es : List Entry) → ReadBack held es
read_back held es = codec.read_back held es

pub encoding : (held : Held) (bytes : List ℕ) → Encoding held bytes
encoding held bytes = codec.encoding held bytes

-- entries behind others are no longer than all
behind : (es' es'' : List Entry) → length (encodes es'') ≤ length (encodes (es' ++ es''))
unfolding encodes
behind [] es'' = omega arith
behind (e ∷ es') es'' = omega (arith, behind es' es'', length-append (encode e) (encodes (es' ++ es'')))

newest_all : (room : ℕ) (es : List Entry) → length (encodes es) ≤ room → Newest room es
newest_all room es h =
    record {
      dropped = [];
      newest = sym (kept_all room es h);
      fits = rw (kept_all room es h) h;
      needed = λ es' es'' e k. rw (kept_all room es h) (rw e (behind es' es''));
    }

newest_fewer : (room : ℕ) (e : Entry) (es : List Entry) → room < length (encodes (e ∷ es)) → Newest room es → Newest room (e ∷ es)
newest_fewer room e es h n =
    record {
      dropped = e ∷ n.dropped;
      newest = rw (kept_fewer room e es h) (ap (λ (r : List Entry). e ∷ r) n.newest);
      fits = rw (kept_fewer room e es h) n.fits;
      needed = rest;
    }
  where
    rest : (es' es'' : List Entry) → e ∷ es ≡ es' ++ es'' → length (encodes es'') ≤ room → length (encodes es'') ≤ length (encodes (kept room (e ∷ es)))
    rest [] es'' q k = absurd (omega (arith, ap (λ (r : List Entry). length (encodes r)) q))
    rest (x ∷ es') es'' q k = rw (kept_fewer room e es h) (n.needed es' es'' (cc) k)

pub newest : (room : ℕ) (es : List Entry) → Newest room es
unfolding encodes
newest room [] = newest_all room [] (omega arith)
newest room (e ∷ es) = go (newest room es) (leb (length (encodes (e ∷ es))) room) refl
  where
    go : Newest room es → (b : Bool) → leb (length (encodes (e ∷ es))) room ≡ b → Newest room (e ∷ es)
    go n true q = newest_all room (e ∷ es) (leb-true _ _ q)
    go n false q = newest_fewer room e es (leb-false _ _ q) n

last_snoc : (e : Entry) (es : List Entry) (x : Entry) → last_of e (es ++ (x ∷ [])) ≡ x
unfolding last_of
last_snoc e [] x = refl
last_snoc e (f ∷ es) x = last_snoc f es x

others_snoc : (e : Entry) (es : List Entry) (x : Entry) → others_of e (es ++ (x ∷ [])) ≡ e ∷ es
unfolding others_of
others_snoc e [] x = refl
others_snoc e (f ∷ es) x = ap (λ (r : List Entry). e ∷ r) (others_snoc f es x)

pub last_added : (es : List Entry) (x : Entry) → last_entry (es ++ (x ∷ [])) ≡ x
unfolding last_entry last_of
last_added [] x = refl
last_added (e ∷ es) x = last_snoc e es x

pub others_added : (es : List Entry) (x : Entry) → others (es ++ (x ∷ [])) ≡ es
unfolding others others_of
others_added [] x = refl
others_added (e ∷ es) x = others_snoc e es x

pub undone : EveryUndone
unfolding added
undone size k start count new area es e h =
    let x : Entry = entry_for k.tag start (run_of k start count area) in
    let left : List Entry = kept (size - length (encode x)) es in
    record {
      area_back =
          ap (λ (y : Entry). puts k y (put k start new area)) (last_added left x)
          ∙ sym (puts_own k x (put k start new area) refl)
          ∙ (run k start count new area e h).put_back;
      others_kept = others_added left x;
    }
