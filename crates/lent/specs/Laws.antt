-- What is promised of a lent run of axis records beside the contract. The proofs are in proofs/Promised.antt.
use Rattle.std.specs.Prelude.{ℕ, ◌≤◌, ◌≡◌, List, length}
use Rattle.messages.specs.Rows.{first_of}
use Rattle.axes.specs.declared.AxisRecord.{AxisRecord}
use Rattle.axes.specs.Records.{eight_axes}
use Rattle.axes.specs.Run.{lent_axes}
use Rattle.calls.specs.declared.Settings.{Settings}
use Rattle.calls.specs.Calls.{Areas, lengths_of, call_of}
use Rattle.refusals.specs.Refusals.{area_rows, refusal_of}

-- "First an array of eight by value; then a thin function reads the lent slice": eight records make the same call either way
abbrev pub SameEight : Type 0
SameEight =
    (frame : List ℕ) (records : List AxisRecord) (settings : Settings) (reply : List ℕ) (a : Areas) → length records ≡ 8
    → call_of frame (lent_axes records) settings reply a ≡ call_of frame (eight_axes records) settings reply a

-- refusal 5, "not eight axis records", wherever none of 1, 2, 3, 10 and 4 holds
abbrev pub OtherCount : Type 0
OtherCount =
    (frame : List ℕ) (records : List AxisRecord) (settings : Settings) (reply : List ℕ) (a : Areas) → (length records ≡ 8 → ⊥)
    → 1024 ≤ length reply → first_of (area_rows (lengths_of a) a.journal a.kept) ≡ 0 → refusal_of (call_of frame (lent_axes records) settings reply a) ≡ 5
