-- A journal with an entry added is one that the next call takes.
use Prim.Native.Nat.{ℕ, ◌+◌, ◌-◌, ◌≤◌}
use mathlib.Core.Path.{◌≡◌, refl, ap, ◌∙◌}
use mathlib.Core.Bool.{true}
use mathlib.Core.List.{List, [], ◌∷◌, ◌++◌}
use native.Mathlib.Omega.{arith}
use lib.ListN.{length, take, length-append, length-replicate}
use borrow.Author.Tests.{le-leb}
use Rattle.kinds.specs.declared.Held.{Held}
use Rattle.journal.specs.Journal.{Entry, encode, encodes, entries_in, kept, added, area_of}
use Rattle.journal.specs.Laws.{Good, AllGood}
use Rattle.journal.proofs.Codec.{Bytes, bytes_take, length_encode}
use Rattle.journal.proofs.Adding.{encodes_snoc}
use Rattle.journal.proofs.Again.{good_added, again}
use Rattle.journal.proofs.Promised.{encoding, newest}
use Rattle.refusals.specs.Refusals.{least_journal, journal_fits}
use Rattle.refusals.proofs.Tested.{Journal}

-- with an entry that fits the area, the entries fit it
pub added_fits : (size : ℕ) (es : List Entry) (e : Entry) → length (encode e) ≤ size → length (encodes (added size es e)) ≤ size
unfolding added
added_fits size es e h =
    let room = size - length (encode e) in
    let l : length (encodes (kept room es ++ (e ∷ []))) ≡ length (encodes (kept room es)) + length (encode e) =
    ap length (encodes_snoc (kept room es) e) ∙ length-append (encodes (kept room es)) (encode e) in
    let f = (newest room es).fits in
    omega arith

-- entries that fit, with 00 behind them, are as long as the area
pub area_long : (size : ℕ) (es : List Entry) → length (encodes es) ≤ size → length (area_of size es) ≡ size
unfolding area_of
area_long size es h = simp (length-append, length-replicate) (omega arith)

-- a journal of bytes that passed, with a good entry added that fits it, passes again
pub journal_again : (held : Held) (j : List ℕ) (used : ℕ) (e : Entry) → Bytes j → Journal held j used → Good held e → 5 + length e.bytes ≤ length j
    → journal_fits held (area_of (length j) (added (length j) (entries_in held 0 (take used j)) e))
    (length (encodes (added (length j) (entries_in held 0 (take used j)) e))) ≡ true
unfolding journal_fits
journal_again held j used e bs f g h =
    let old : List Entry = entries_in held 0 (take used j) in
    let es : List Entry = added (length j) old e in
    let l : length (area_of (length j) es) ≡ length j = area_long (length j) es (added_fits (length j) old e (rw (length_encode e) h)) in
    let gs : AllGood held es = good_added held (length j) old e (encoding held (take used j) (bytes_take used j bs) f.entries).0 g in
    let a = again held (length j) es (area_of (length j) es) (length (encodes es)) (record { bytes = refl; used = refl }) gs in
    rw (
      le-leb (least_journal held) (length (area_of (length j) es)) (omega (arith, f.least)),
      le-leb (length (area_of (length j) es)) 65536 (omega (arith, f.most)),
      le-leb (length (encodes es)) (length (area_of (length j) es)) a.within,
      a.good,
    )
