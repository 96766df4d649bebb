-- Axis records laid, axis after axis.
use Prim.Native.Nat.{ℕ, ◌+◌, ◌*◌, ◌≤◌}
use mathlib.Core.Path.{◌≡◌, refl}
use mathlib.Core.List.{List, [], ◌∷◌}
use native.Mathlib.Omega.{arith}
use lib.ListN.{length, get_or}
use Rattle.digits.specs.Laid.{laid}
use Rattle.digits.proofs.Laid.{laid_on, laid_nothing}
use Rattle.axes.specs.declared.AxisRecord.{AxisRecord}
use Rattle.axes.specs.Records.{zero_record}
use Rattle.queries.specs.Replies.{record_digits, records_digits}

pub length_records : (axes : List ℕ) (records : List AxisRecord) → length (records_digits axes records) ≡ 16 * length axes
unfolding records_digits
length_records [] records = refl
length_records (axis ∷ axes) records = let h = length_records axes records in omega arith

pub record_next : (axis to : ℕ) (axes reply after : List ℕ) (records : List AxisRecord) → to ≤ length reply
    → after ≡ laid reply to (record_digits (get_or records axis zero_record))
    → laid after (to + 16) (records_digits axes records) ≡ laid reply to (records_digits (axis ∷ axes) records)
unfolding records_digits
record_next axis to axes reply after records h e = rw e (laid_on reply _ _ to (to + 16) refl h)

pub record_done : (to : ℕ) (reply : List ℕ) (records : List AxisRecord) → laid reply to (records_digits [] records) ≡ reply
unfolding records_digits
record_done to reply records = laid_nothing reply to
