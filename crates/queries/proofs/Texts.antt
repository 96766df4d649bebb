-- Texts laid from byte 3 on.
use Prim.Native.Nat.{ℕ, ◌+◌, ◌*◌, ◌≤◌}
use mathlib.Core.Path.{◌≡◌, refl, ap₂, ◌∙◌}
use mathlib.Core.List.{List, ◌++◌, append_assoc}
use native.Mathlib.Omega.{arith}
use lib.ListN.{length, take, drop, length-append}
use lib.Seq.{length-take-le, take-take, take-append-le, drop_at}
use Rattle.digits.specs.Digits.{digits_of}
use Rattle.digits.specs.Laid.{laid}
use Rattle.digits.proofs.Laid.{laid_on}
use Rattle.axes.specs.declared.AxisRecord.{AxisRecord}
use Rattle.points.specs.Axes.{axes_of}
use Rattle.listing.specs.Listing.{listed, joined}
use Rattle.table.specs.declared.Message.{Message}
use Rattle.heads.specs.Heads.{id_of}
use Rattle.heads.proofs.Texts.{behind}
use Rattle.queries.specs.Replies.{count_text, list_text, records_digits, axes_text}
use Rattle.queries.proofs.Recorded.{length_records}

-- a field laid last, before what was laid behind it
filled : (d s t : List ℕ) (at next : ℕ) → at + length s ≡ next → next ≤ length d → laid (laid d next t) at s ≡ laid d at (s ++ t)
unfolding laid
filled d s t at next e h =
    let l : length (take next d) ≡ next = length-take-le next d h in
    let r : at + length (s ++ t) ≡ next + length t = simp length-append (omega arith) in
    rw (e, r, drop_at (take next d) (t ++ drop (next + length t) d) next l, take-append-le at (take next d) (t ++ drop (next + length t) d) (omega arith), take-take at next d (omega arith))
    (simp append_assoc)

-- 208H: the ID, then a number
pub count_laid : (d r1 r2 : List ℕ) (m : Message) (k : ℕ) → 3 ≤ length d → r1 ≡ laid d 3 (id_of m) → r2 ≡ laid r1 6 (digits_of 3 k)
    → r2 ≡ laid d 3 (count_text m k)
count_laid d r1 r2 m k h e f = behind d r1 r2 (digits_of 3 k) m h e f

-- 212H: the ID, the pattern, then what each axis is
pub axes_laid : (d r1 r2 r3 : List ℕ) (m : Message) (pattern : ℕ) (records : List AxisRecord) → 3 ≤ length d → r1 ≡ laid d 3 (id_of m) → r2 ≡ laid r1 6 (digits_of 2 pattern)
    → r3 ≡ laid r2 8 (records_digits (axes_of pattern) records) → r3 ≡ laid d 3 (axes_text m pattern records)
axes_laid d r1 r2 r3 m pattern records h e f g =
    g ∙ rw (behind d r1 r2 (digits_of 2 pattern) m h e f) (laid_on d (id_of m ++ digits_of 2 pattern) (records_digits (axes_of pattern) records) 3 8 refl h)

pub length_axes : (m : Message) (pattern n : ℕ) (records : List AxisRecord) → n ≡ length (axes_of pattern) → length (axes_text m pattern records) ≡ 5 + 16 * n
length_axes m pattern n records e = omega (arith, length_records (axes_of pattern) records)

-- 209H: the ID, the list, and last the count between them
pub list_laid : (d r1 r2 r3 slots : List ℕ) (m : Message) (start count many : ℕ) → 3 ≤ length d → 9 ≤ length r1 → r1 ≡ laid d 3 (id_of m)
    → r2 ≡ laid r1 9 (joined (listed 1011 count start slots)) → many ≡ length (listed 1011 count start slots) → r3 ≡ laid r2 6 (digits_of 3 many)
    → r3 ≡ laid d 3 (list_text m start count slots)
list_laid d r1 r2 r3 slots m start count many h k e f n g =
    let ps = listed 1011 count start slots in
    let w = digits_of 3 (length ps) in
    behind d r1 r3 (w ++ joined ps) m h e (g ∙ ap₂ (λ (x : List ℕ) (y : ℕ). laid x 6 (digits_of 3 y)) f n ∙ filled r1 w (joined ps) 6 9 refl k)

pub length_list : (m : Message) (start count digits : ℕ) (slots : List ℕ) → digits ≡ length (joined (listed 1011 count start slots))
    → length (list_text m start count slots) ≡ 6 + digits
length_list m start count digits slots e = rw e (omega arith)
