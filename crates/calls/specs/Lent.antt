-- What a host lends, as the records that all is stated of, and that what was lent is the same as before.
use Rattle.std.specs.Prelude.{ℕ, ◌≡◌, List, length}
use Rattle.kinds.specs.declared.Lengths.{Lengths}
use Rattle.calls.specs.Calls.{Areas, Sent, Call, areas_of, sent_of, call_of, lengths_of}
use Rattle.calls.specs.declared.Areas.{Areas as LentAreas}
use Rattle.calls.specs.declared.AreasRead.{AreasRead}
use Rattle.calls.specs.declared.AreasTested.{AreasTested}
use Rattle.calls.specs.declared.Sent.{Sent as SentLent}

abbrev pub areas_in : LentAreas → Areas
areas_in a = areas_of a.points.now a.columns.now a.integers.now a.flags.now a.journal.now a.kept a.firsts

abbrev pub areas_read : AreasRead → Areas
areas_read a = areas_of a.points.now a.columns.now a.integers.now a.flags.now a.journal.now a.kept a.firsts

-- how long the areas are, and the first numbers, by what is tested of them
abbrev pub lengths_tested : AreasTested → Lengths
lengths_tested t =
    record { points = length t.points.now; columns = t.columns; integers = t.integers; flags = t.flags; firsts = t.firsts }

-- what is tested is that of these areas
abbrev pub TestedOf : AreasTested → Areas → Type 0
TestedOf t a =
    (lengths_tested t ≡ lengths_of a) × (t.points.now ≡ a.points) × (t.journal.now ≡ a.journal) × (t.kept ≡ a.kept)

-- what is handed over with a frame, with the reply area's bytes, and the call that it makes with areas
abbrev pub sent_in : SentLent → List ℕ → Sent
sent_in s reply = sent_of s.frame.now s.axes s.settings reply

abbrev pub call_in : SentLent → List ℕ → Areas → Call
call_in s reply a = call_of s.frame.now s.axes s.settings reply a

-- a function leaves what it says in the slices that its caller lent, and the first numbers as they were
abbrev pub SameLent : LentAreas → LentAreas → Type 0
SameLent a b =
    (a.points.ghost_name ≡ b.points.ghost_name) × (a.columns.ghost_name ≡ b.columns.ghost_name) × (a.integers.ghost_name ≡ b.integers.ghost_name)
    × (a.flags.ghost_name ≡ b.flags.ghost_name) × (a.journal.ghost_name ≡ b.journal.ghost_name) × (a.firsts ≡ b.firsts)
