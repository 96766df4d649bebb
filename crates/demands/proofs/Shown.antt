-- 24BH, then 20DH: the change type that was sent, in its flag's bit.
use Prim.Native.Nat.{ℕ, zero, suc, ◌+◌, ◌-◌, ◌*◌, ◌≤◌, ◌<◌, ◌^◌}
use mathlib.Core.Path.{◌≡◌, refl, sym, ap, ap₂, ◌∙◌}
use mathlib.Core.Bool.{true}
use mathlib.Core.List.{List, [], ◌∷◌, ◌++◌}
use native.Mathlib.Omega.{arith}
use lib.ListN.{length, take, drop, get_or, length-append}
use borrow.Author.Tests.{leb-true}
use Rattle.digits.specs.Digits.{byte_of, number_of}
use Rattle.digits.proofs.Inverse.{inverse}
use Rattle.digits.proofs.Bools.{was_not}
use Rattle.kinds.specs.declared.Kind.{Kind}
use Rattle.kinds.specs.declared.Held.{Held}
use Rattle.kinds.specs.Kinds.{flags_tag, held_in, holds, place_of, run_of}
use Rattle.kinds.proofs.Known.{kind_flags, within, few}
use Rattle.pairs.specs.Pairs.{digits_in}
use Rattle.flags.specs.Flags.{on_of, eights}
use Rattle.flags.proofs.Promised.{shown}
use Rattle.table.specs.declared.Action.TheVariants.{ShowFlags}
use Rattle.calls.specs.Calls.{Areas, Sent, lengths_of}
use Rattle.refusals.proofs.Tested.{sound}
use Rattle.heads.specs.Heads.{flags_text}
use Rattle.demands.proofs.Own.{own as ours}
use Rattle.demands.specs.Reading.{start_of, rest_of, untouched, Says, kind_in, asks_flags, FlagShown, FlagRead, FlagStored}
use Rattle.demands.proofs.Commands.{showing, setting, named}
use Rattle.demands.proofs.Asking.{Open, says, start_said, count_said, asks_right}
use Rattle.demands.proofs.Runs.{run_in}
use Rattle.demands.proofs.Kept.{Standing}

-- a 20DH of any flags that are held shows each eight of them
pub shows_any : (a : Areas) → Open a → (start count : ℕ) → 1 ≤ count → holds (kind_in flags_tag a) start count ≡ true
    → Says ours a (asks_flags start count) (asks_flags start count ++ digits_in (eights 0 (run_of (kind_in flags_tag a) start count a.flags)))
unfolding byte_of
shows_any a o start count some all =
    let h : Held = held_in (lengths_of a) in
    let e = kind_flags h in
    let w = within (kind_in flags_tag a) start count all in
    let n = few (kind_in flags_tag a) start count all in
    let x = ap (λ (k : Kind). k.held) e in
    let y = ap (λ (k : Kind). k.first) e in
    let v = (sound (lengths_of a) o.points o.variables).flags in
    let f : start < 16 ^ 4 = omega (arith, w.1, some, x, y, v) in
    let g : count < 16 ^ 4 = omega (arith, n, x) in
    says a (asks_flags start count) (asks_flags start count ++ digits_in (eights 0 (run_of (kind_in flags_tag a) start count a.flags))) showing o refl (omega arith)
    (simp length-append (omega (arith, (inverse 4).as_many start, (inverse 4).as_many count)))
    refl
    named.4
    (asks_right 0x20D 2 4 4 flags_tag ShowFlags true start count f g (omega arith) h some all)
    (λ _ frame.
    ap₂ (λ (p q : ℕ). flags_text showing (kind_in flags_tag a) p q a.flags) (start_said 0x20D 2 4 4 flags_tag ShowFlags true start count f g (omega arith))
    (count_said 0x20D 2 4 4 flags_tag ShowFlags true start count f g (omega arith)))

-- the first of the bytes from a place on
first_of_lem : (n : ℕ) (s : List ℕ) {v : ℕ} → take 1 (drop n s) ≡ v ∷ [] → get_or s n 0 ≡ v
first_of_lem zero [] e = absurd (let z : ◌≡◌ {A = ℕ} 0 1 = ap length e in omega arith)
first_of_lem zero (b ∷ s) e = ap (λ (x : List ℕ). get_or x 0 0) e
first_of_lem (suc n) [] e = absurd (let z : ◌≡◌ {A = ℕ} 0 1 = ap length e in omega arith)
first_of_lem (suc n) (b ∷ s) e = first_of_lem n s e

-- of what 24BH stores, on is 1 and off is 0
on_is : (v : ℕ) → v ≤ 1 → on_of v ≡ v
on_is zero h = refl
on_is (suc zero) h = refl
on_is (suc (suc v)) h = absurd (omega arith)

module _ {a : Areas} {s : Sent} {later : List Sent} (t : Standing (held_in (lengths_of a)) a setting s later) where
  abbrev value : ℕ
  value = number_of (rest_of setting s)

  -- 108 was passed
  listed : value ≤ 1
  listed = leb-true _ _ (was_not t.ordered.right.type)

  -- its byte stands there
  stands : untouched flags_tag (start_of setting s) 1 later ≡ true → run_of (kind_in flags_tag a) (start_of setting s) 1 a.flags ≡ value ∷ []
  stands u =
      let n : start_of setting s - start_of setting s ≡ 0 = omega arith in
      t.kept refl (start_of setting s) 1 (omega arith) (omega arith) u ∙ rw (kind_flags (held_in (lengths_of a)), n)

  module _ (u : untouched flags_tag (start_of setting s) 1 later ≡ true) (start count : ℕ) (all : holds (kind_in flags_tag a) start count ≡ true)
      (low : start ≤ start_of setting s) (high : start_of setting s < start + count) where
    abbrev here : List ℕ
    here = run_of (kind_in flags_tag a) start count a.flags

    in_run : take 1 (drop (start_of setting s - start) here) ≡ value ∷ []
    in_run =
        let k = kind_in flags_tag a in
        let unit : k.unit ≡ 1 = ap (λ (x : Kind). x.unit) (kind_flags (held_in (lengths_of a))) in
        let r = run_in k start count (start_of setting s) 1 a.flags (within k start count all).0 low (omega arith) in
        let p : (start_of setting s - start) * k.unit ≡ start_of setting s - start = rw unit (omega arith) in
        let q : 1 * k.unit ≡ 1 = rw unit in
        ap₂ (λ (x y : ℕ). take x (drop y here)) (sym q) (sym p) ∙ r ∙ stands u

    shown_here : FlagShown ours a start count (start_of setting s) value
    shown_here =
        record {
          bytes = eights 0 here;
          says = shows_any a t.is_open start count (omega (arith, low, high)) all;
          bit = (shown here).each (start_of setting s - start) ∙ ap on_of (first_of_lem (start_of setting s - start) here in_run) ∙ on_is value listed;
        }

  pub flag_stored : FlagStored a setting s later
  unfolding run_of
  flag_stored u =
      let k = kind_in flags_tag a in
      let q : 1 * k.unit ≡ 1 = ap (λ (x : Kind). 1 * x.unit) (kind_flags (held_in (lengths_of a))) in
      first_of_lem (place_of k (start_of setting s)) a.flags (ap (λ (x : ℕ). take x (drop (place_of k (start_of setting s)) a.flags)) (sym q) ∙ stands u)

  pub flag_read : FlagRead ours a setting s later
  flag_read = record { kind = refl; shown = shown_here }
