-- Records read one after the other, nine bytes each.
use Prim.Native.Nat.{ℕ, zero, suc, ◌+◌, ◌-◌, ◌*◌, ◌<◌}
use mathlib.Core.Path.{◌≡◌, ap, ◌∙◌}
use mathlib.Core.List.{List, ◌∷◌, ◌++◌, append_assoc, append-nil}
use native.Mathlib.Omega.{arith}
use native.Mathlib.Nat.{not-suc-le-zero}
use native.Mathlib.Numerals.{add-one}
use lib.ListN.{length, take, drop, set}
use lib.Seq.{drop-drop, take-suc-set, take_all}
use Rattle.axes.specs.declared.AxisRecord.{AxisRecord}
use Rattle.axes.specs.Axes.{record_in, records_in}

records_in_more : (left : ℕ) (bytes : List ℕ) → 0 < left → records_in left bytes ≡ record_in bytes ∷ records_in (left - 1) (drop 9 bytes)
unfolding records_in
records_in_more zero bytes h = absurd (not-suc-le-zero h)
records_in_more (suc n) bytes h = let e : suc n - 1 ≡ n = omega arith in rw e

pub records_next : (bytes : List ℕ) (next : ℕ) (rs : List AxisRecord) (v : AxisRecord) → next < 8 → length rs ≡ 8 → v ≡ record_in (drop (next * 9) bytes)
    → take (next + 1) (set rs next v) ++ records_in (8 - (next + 1)) (drop ((next + 1) * 9) bytes) ≡ take next rs ++ records_in (8 - next) (drop (next * 9) bytes)
records_next bytes next rs v h l e =
    let s = drop (next * 9) bytes in
    let d : drop 9 s ≡ drop ((next + 1) * 9) bytes = drop-drop 9 (next * 9) bytes ∙ ap (λ (m : ℕ). drop m bytes) (let q : next * 9 + 9 ≡ (next + 1) * 9 = omega arith in q) in
    let m : 8 - next - 1 ≡ 8 - (next + 1) = omega arith in
    rw (records_in_more (8 - next) s (omega arith), m, d, add-one next, take-suc-set rs next v (omega arith), append_assoc, e)

pub records_done : (rs : List AxisRecord) (next : ℕ) (bytes : List ℕ) → length rs ≡ 8 → next ≡ 8 → take next rs ++ records_in (8 - next) bytes ≡ rs
unfolding records_in
records_done rs next bytes l e = rw (e, take_all 8 rs (omega arith), append-nil)
