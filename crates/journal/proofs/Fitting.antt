-- Well-formed entries and their kinds: an entry's old bytes lie in its kind's area.
use Prim.Native.Nat.{ℕ, ◌+◌, ◌*◌, ◌/◌, ◌%◌, ◌≤◌}
use mathlib.Core.Path.{◌≡◌}
use mathlib.Core.Bool.{true, ◌&&◌}
use mathlib.Core.List.{List}
use native.Mathlib.Nat.{mul-div_cancel, mul-mod_left, div-add-mod'}
use native.Mathlib.Omega.{arith}
use lib.Dec.{leb, eqb}
use lib.ListN.{length}
use borrow.Author.Tests.{eq-eqb, ne_eqb, eqb-true, le-leb}
use Rattle.kinds.specs.declared.Kind.{Kind}
use Rattle.kinds.specs.declared.Held.{Held}
use Rattle.kinds.specs.Kinds.{kind_of, Sound, holds, size_of, place_of, put}
use Rattle.kinds.proofs.Known.{Sized, sized, within, room}
use Rattle.digits.proofs.Inverse.{and_left, and_right}
use Rattle.journal.specs.Journal.{Entry, entry_fits, puts, entry_for}
use Rattle.journal.specs.Laws.{Good}

-- what a well-formed entry's numbers and bytes are
pub record Fit (k : Kind) (start size : ℕ) : Type 0 where
  pub first : k.first ≤ start
  pub room : place_of k start + size ≤ size_of k
  pub held_all : holds k start (size / k.unit) ≡ true
  pub whole_units : size / k.unit * k.unit ≡ size

pub fit : (k : Kind) (start size : ℕ) → entry_fits k start size ≡ true → Fit k start size
unfolding entry_fits
fit k start size e =
    let count = size / k.unit in
    let most = leb count k.most && holds k start count in
    let some = leb 1 count && most in
    let units : size % k.unit ≡ 0 = eqb-true _ _ (and_left (eqb (size % k.unit) 0) some e) in
    let h : holds k start count ≡ true = and_right (leb count k.most) (holds k start count) (and_right (leb 1 count) most (and_right (eqb (size % k.unit) 0) some e)) in
    let w : count * k.unit ≡ size = let d = div-add-mod' size k.unit in omega arith in
    record { first = (within k start count h).0; room = omega (arith, room k start count h); held_all = h; whole_units = w }

-- so many old bytes of a held run make a good entry
pub good : (held : Held) (k : Kind) (start count : ℕ) (old : List ℕ) → Sound held → kind_of held k.tag ≡ k → 1 ≤ count → count ≤ k.most
    → holds k start count ≡ true → length old ≡ count * k.unit → Good held (entry_for k.tag start old)
unfolding entry_fits
good held k start count old s e some named h l =
    let z : Sized k = rw e at (sized held k.tag s) in
    let w = within k start count h in
    record {
      length_fits = omega (arith, room k start count h, z.small);
      start_fits = omega (arith, w.1, z.numbers);
      well_formed =
          rw (e, l, mul-mod_left count k.unit, mul-div_cancel count z.some_bytes, le-leb _ _ some, le-leb _ _ named, h);
    }

pub puts_own : (k : Kind) (e : Entry) (area : List ℕ) → e.tag ≡ k.tag → put k e.start e.bytes area ≡ puts k e area
unfolding puts
puts_own k e area h = rw (eq-eqb e.tag k.tag h)

pub puts_other : (k : Kind) (e : Entry) (area : List ℕ) → (e.tag ≡ k.tag → ⊥) → area ≡ puts k e area
unfolding puts
puts_other k e area h = rw (ne_eqb e.tag k.tag h)
