-- Document 01, "The areas", and document 02, requests a, b, f and l: all that is handed over with a frame, and all that comes back.
use Rattle.std.specs.Prelude.{ℕ, cond, List, [], eqb, length, take, replicate, Option, None, Some}
use Rattle.kinds.specs.declared.Held.{Held}
use Rattle.kinds.specs.declared.Lengths.{Lengths}
use Rattle.kinds.specs.declared.Firsts.{Firsts}
use Rattle.kinds.specs.Kinds.{points_tag, columns_tag, integers_tag, flags_tag, points_of, columns_of, integers_of, flags_of, kind_of, size_of, run_of}
use Rattle.journal.specs.Journal.{Entry, encodes, entries_in, added, area_of, last_entry, others, puts, entry_for}
use Rattle.axes.specs.Records.{Axes}
use Rattle.points.specs.Point.{effective_in}
use Rattle.calls.specs.declared.Settings.{Settings}
use Rattle.calls.specs.declared.Kept.{Kept}
use Rattle.frames.specs.declared.checks.Sum.TheVariants.{True, SwitchedOff, Wrong}
use Rattle.frames.specs.declared.checks.Sum.{Sum}

-- the areas that are used throughout, with the numbers that are kept beside them and the first numbers that settings give (02, a)
pub record Areas : Type 0 where
  pub points : List ℕ
  pub columns : List ℕ
  pub integers : List ℕ
  pub flags : List ℕ
  pub journal : List ℕ
  pub kept : Kept
  pub firsts : Firsts

-- a frame, any bytes, with all else that is handed over with it but the areas
pub record Sent : Type 0 where
  pub frame : List ℕ
  pub axes : Axes
  pub settings : Settings
  pub reply : List ℕ

pub record Call : Type 0 where
  pub sent : Sent
  pub areas : Areas

-- what comes back; the reply's text is empty where there is none; "which it was", of the sum test (02, f)
pub record Outcome : Type 0 where
  pub number : ℕ
  pub text : List ℕ
  pub areas : Areas
  pub sum : Option Sum

-- nothing is changed and nothing is replied
abbrev pub unanswered : Option Sum → ℕ → Areas → Outcome
unanswered told number a = record { number = number; text = []; areas = a; sum = told }

-- the number of what is told of the sum: 0 untested, 1 true, 2 switched off, 3 wrong (02, f)
abbrev pub sum_code : Option Sum → ℕ
sum_code None = 0
sum_code (Some True) = 1
sum_code (Some SwitchedOff) = 2
sum_code (Some Wrong) = 3

-- areas, what is sent, and a call, as they are handed over
abbrev pub areas_of : List ℕ → List ℕ → List ℕ → List ℕ → List ℕ → Kept → Firsts → Areas
areas_of points columns integers flags journal kept firsts =
    record { points = points; columns = columns; integers = integers; flags = flags; journal = journal; kept = kept; firsts = firsts }

abbrev pub sent_of : List ℕ → Axes → Settings → List ℕ → Sent
sent_of frame axes settings reply = record { frame = frame; axes = axes; settings = settings; reply = reply }

abbrev pub call_of : List ℕ → Axes → Settings → List ℕ → Areas → Call
call_of frame axes settings reply areas = record { sent = sent_of frame axes settings reply; areas = areas }

-- "Fresh is all zero bytes and used length 0", "zero when fresh" (02, a), "from count 0" (02, b), on a board that holds so much, with a journal of so
-- many bytes
abbrev pub fresh : Held → ℕ → Areas
fresh held size =
    areas_of (replicate (size_of (points_of held)) 0) (replicate (size_of columns_of) 0) (replicate (size_of (integers_of held)) 0)
    (replicate (size_of (flags_of held)) 0) (replicate size 0) (record { used = 0; effective = 0 }) held.firsts

-- the lengths of the areas that things are held in, and the first numbers
abbrev pub lengths_of : Areas → Lengths
lengths_of a =
    record { points = length a.points; columns = length a.columns; integers = length a.integers; flags = length a.flags; firsts = a.firsts }

-- the area of a kind, by its tag
abbrev pub area_in : ℕ → Areas → List ℕ
area_in tag a =
    cond (eqb tag points_tag) a.points
    (cond (eqb tag columns_tag) a.columns (cond (eqb tag integers_tag) a.integers (cond (eqb tag flags_tag) a.flags [])))

-- "make each write, clear and step back keep it true" (02, b): the count after an entry's bytes are put in; those of another kind than points leave it
abbrev pub count_after : Held → Entry → Areas → ℕ
count_after held e a =
    cond (eqb e.tag points_tag) (effective_in held.points (puts (points_of held) e a.points)) a.kept.effective

-- an entry's bytes put into the area of its kind
abbrev pub put_in : Held → Entry → Areas → Areas
put_in held e a =
    areas_of (puts (points_of held) e a.points) (puts columns_of e a.columns) (puts (integers_of held) e a.integers)
    (puts (flags_of held) e a.flags) a.journal (record { used = a.kept.used; effective = count_after held e a }) a.firsts

-- the journal's entries, oldest first, and the areas with other entries in it ("bytes beyond the used length are 00")
abbrev pub entries_of : Held → Areas → List Entry
entries_of held a = entries_in held 0 (take a.kept.used a.journal)

abbrev pub with_entries : List Entry → Areas → Areas
with_entries es a =
    areas_of a.points a.columns a.integers a.flags (area_of (length a.journal) es)
    (record { used = length (encodes es); effective = a.kept.effective }) a.firsts

-- an accepted write of a kind's run: "one entry" with "the old bytes of what was named" is added, the new bytes are put in
abbrev pub old_entry : Held → ℕ → ℕ → ℕ → Areas → Entry
old_entry held tag start count a = entry_for tag start (run_of (kind_of held tag) start count (area_in tag a))

abbrev pub written : Held → ℕ → ℕ → ℕ → List ℕ → Areas → Areas
written held tag start count new a =
    with_entries (added (length a.journal) (entries_of held a) (old_entry held tag start count a)) (put_in held (entry_for tag start new) a)

-- "A step back puts the last entry's bytes back and removes it."
abbrev pub stepped_back : Held → Areas → Areas
stepped_back held a = with_entries (others (entries_of held a)) (put_in held (last_entry (entries_of held a)) a)
