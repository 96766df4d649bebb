-- What a board that can be written assures of the run that is named: its place, its bytes, and a good entry.
use Prim.Native.Nat.{ℕ, ◌+◌, ◌*◌, ◌≤◌, ◌<◌}
use mathlib.Core.Path.{◌≡◌}
use mathlib.Core.List.{List, [], ◌∷◌}
use native.Mathlib.Omega.{arith}
use lib.ListN.{length, get_or}
use Rattle.kinds.specs.declared.Kind.{Kind}
use Rattle.kinds.specs.declared.Held.{Held}
use Rattle.digits.specs.Digits.{worth_of, number_of}
use Rattle.kinds.specs.Kinds.{run_of, place_of}
use Rattle.kinds.proofs.Known.{Sized, sized, within, room, run_length}
use Rattle.journal.specs.Laws.{Good}
use Rattle.journal.proofs.Fitting.{good}
use Rattle.writes.specs.Writes.{Ready, entry_of}

pub record Span (held : Held) (k : Kind) (start count : ℕ) (area : List ℕ) : Type 0 where
  pub first : k.first ≤ start
  pub inside : place_of k start + count * k.unit ≤ length area
  pub small : length area < 65530
  pub long : length (run_of k start count area) ≡ count * k.unit
  pub entry : Good held (entry_of k start count area)

pub span : {held : Held} {k : Kind} {start count : ℕ} {area journal : List ℕ} {used : ℕ} → Ready held k start count area journal used → Span held k start count area
span {held} {k} {start} {count} {area} r =
    let w = within k start count r.held_all in
    let i = room k start count r.held_all in
    let z : Sized k = rw r.own at (sized held k.tag r.sound) in
    let l = run_length k start count r.held_all area r.area_long in
    record {
      first = w.0;
      inside = omega (arith, i, r.area_long);
      small = omega (arith, z.small, r.area_long);
      long = l;
      entry = good held k start count (run_of k start count area) r.sound r.own r.some r.named r.held_all l;
    }

-- what one digit is worth is the number that it writes
pub one_digit : (digits : List ℕ) {value : ℕ} → length digits ≡ 1 → value ≡ worth_of (get_or digits 0 0) → value ≡ number_of digits
one_digit [] l e = absurd (omega arith)
one_digit (digit ∷ []) l e = omega (arith, e)
one_digit (digit ∷ another ∷ digits) l e = absurd (omega arith)
