-- Document 01, "Refusal numbers, in the order tested", and document 02, requests a, b, c, f, g and l: 1 to 13 here, 101 to 108 by
-- `asked_rows` of messages. Nothing else decides a number; the 1 of an act (`act_of` of link) is row 1's, by `too_short`.
use Rattle.std.specs.Prelude.{ℕ, ◌+◌, ◌*◌, ◌/◌, ◌%◌, Bool, true, false, cond, not, ◌&&◌, ◌||◌, List, [], ◌∷◌, ◌++◌, ltb, leb, eqb, length, take, Option, Some, None}
use Rattle.frames.specs.Frame.{content_in, shaped, sum_said, is_off, is_wrong, station_passes}
use Rattle.kinds.specs.declared.Held.{Held}
use Rattle.kinds.specs.Kinds.{held_in}
use Rattle.journal.specs.Journal.{whole}
use Rattle.points.specs.Point.{effective_in}
use Rattle.axes.specs.declared.AxisRecord.{AxisRecord}
use Rattle.axes.specs.Records.{Axes}
use Rattle.messages.specs.Rows.{Row, ◌when◌, first_of}
use Rattle.table.specs.declared.Action.{Action}
use Rattle.table.specs.declared.Action.TheVariants.{SayBack, CountPoints, ListPoints, ReadRun, AxisStatus, WritePoints, ClearRun, ChangeRun, ShowFlags, SetFlag}
use Rattle.table.specs.declared.Message.{Message}
use Rattle.table.specs.Table.{message_of}
use Rattle.messages.specs.Asked.{asked_rows}
use Rattle.calls.specs.declared.Settings.{Settings}
use Rattle.calls.specs.declared.Kept.{Kept}
use Rattle.frames.specs.declared.checks.Sum.{Sum}
use Rattle.kinds.specs.declared.Lengths.{Lengths}
use Rattle.kinds.specs.declared.Firsts.{Firsts}
use Rattle.calls.specs.Calls.{Areas, Call, lengths_of}

-- 1: "reply area under 1,024"
abbrev pub too_short : ℕ → Bool
too_short reply = ltb reply 1024

-- 2: the points area is "a multiple of 40 from 40 to 60,000"
unfoldable pub points_fit : ℕ → Bool
points_fit points = eqb (points % 40) 0 && (leb 40 points && leb points 60000)

-- 10: "a wrong new area or a setting that runs past the field's range" (02, a): 100 integers of four bytes and a number of three digits, 300 flags of
-- one byte and a number of four
unfoldable pub variables_fit : ℕ → ℕ → Firsts → Bool
variables_fit integers flags firsts =
    eqb integers 400 && (eqb flags 300 && (leb (firsts.integer + 99) 0xFFF && leb (firsts.flag + 299) 0xFFFF))

-- the least journal of a board that holds so much: "The journal's least length becomes 40·N+500" (02, a)
abbrev pub least_journal : Held → ℕ
least_journal held = 40 * held.points + 500

-- 4: the journal's length, the used length, and "whole well-formed entries"
unfoldable pub journal_fits : Held → List ℕ → ℕ → Bool
journal_fits held journal used =
    leb (least_journal held) (length journal)
    && (leb (length journal) 65536 && (leb used (length journal) && whole held 0 (take used journal)))

-- 5: a sensor is 0 to 15, an error code 0 to 4,095
unfoldable pub records_fit : List AxisRecord → Bool
records_fit [] = true
records_fit (r ∷ records) = leb r.sensor 15 && (leb r.error 4095 && records_fit records)

unfoldable pub axes_fit : Axes → ℕ → Bool
axes_fit None fitted = false
axes_fit (Some records) fitted = records_fit records && not (eqb fitted 0)

-- 13: not "a setting other than 1 or 2" (02, l)
unfoldable pub release_fits : ℕ → Bool
release_fits release = eqb release 1 || eqb release 2

-- 11: not "a kept count that differs from the slots"; a true one "always equals the count of slots with a non-zero pattern" (02, b)
abbrev pub count_true : List ℕ → ℕ → Bool
count_true points effective = eqb effective (effective_in (length points / 40) points)

-- "at 244H, 246H [..], a kept count that differs from the slots; at 208H, one above N, and no walk" (02, b): whether a message can be answered with a count
abbrev pub count_fits : Action → List ℕ → ℕ → Bool
count_fits SayBack points effective = true
count_fits CountPoints points effective = leb effective (length points / 40)
count_fits ListPoints points effective = true
count_fits ReadRun points effective = true
count_fits AxisStatus points effective = true
count_fits WritePoints points effective = count_true points effective
count_fits ClearRun points effective = count_true points effective
count_fits ChangeRun points effective = true
count_fits ShowFlags points effective = true
count_fits SetFlag points effective = true

-- 11 of a frame, by its ID alone
abbrev pub miscounted : Option Message → List ℕ → ℕ → Bool
miscounted None points effective = false
miscounted (Some m) points effective = not (count_fits m.does points effective)

-- 2, 3, 10 ("tested after 3", 02, a) and 4: the areas, of a frame and of a step back
unfoldable pub area_rows : Lengths → List ℕ → Kept → List Row
area_rows lengths journal kept =
    (2 when (not (points_fit lengths.points)))
    ∷ (3 when (not (eqb lengths.columns 700)))
    ∷ (10 when (not (variables_fit lengths.integers lengths.flags lengths.firsts)))
    ∷ (4 when (not (journal_fits (held_in lengths) journal kept.used)))
    ∷ []

-- 2 to 6, 10 and 13 ("tested after 5", 02, l): what is tested before the sum, also by a check, which "never gives 1, as it writes no reply" (02, g); "6
-- also covers a 200H frame of another length" (02, c)
unfoldable pub check_rows : List ℕ → Axes → Settings → Lengths → List ℕ → Kept → List Row
check_rows frame axes settings lengths journal kept =
    area_rows lengths journal kept
    ++ ((5 when (not (axes_fit axes settings.fitted)))
    ∷ (13 when (not (release_fits settings.release)))
    ∷ (6 when (not (shaped frame)))
    ∷ [])

-- 12 ("for '@@' where forbidden, in 7's place in the order", 02, f), 7 and 8: the sum and the station
unfoldable pub late_rows : Settings → List ℕ → List Row
late_rows settings frame =
    (12 when (is_off (sum_said settings.release frame) && not settings.unchecked))
    ∷ (7 when (is_wrong (sum_said settings.release frame)))
    ∷ (8 when (not (station_passes settings.release settings.station frame)))
    ∷ []

-- 11 ("tested after 8", 02, b): the count that is kept
unfoldable pub count_rows : Settings → List ℕ → List ℕ → Kept → List Row
count_rows settings frame points kept = (11 when (miscounted (message_of settings.release frame) points kept.effective)) ∷ []

-- from the sum on: 12, 7, 8, then 11
abbrev pub rows_from_sum : Settings → List ℕ → List ℕ → Kept → List Row
rows_from_sum settings frame points kept = late_rows settings frame ++ count_rows settings frame points kept

-- those of a call before the sum is tested, by a check and, with 1 before them, by an answer and an act
abbrev pub check_early : Call → List Row
check_early c = check_rows c.sent.frame c.sent.axes c.sent.settings (lengths_of c.areas) c.areas.journal c.areas.kept

abbrev pub early : Call → List Row
early c = (1 when (too_short (length c.sent.reply))) ∷ check_early c

-- those from the sum on
abbrev pub late : Call → List Row
late c = rows_from_sum c.sent.settings c.sent.frame c.areas.points c.areas.kept

-- and all of a frame's refusals without a reply
abbrev pub silent : Call → List Row
silent c = early c ++ late c

unfoldable pub silent_of : Call → ℕ
silent_of c = first_of (silent c)

-- "The answer to a frame says which it was, also where a later refusal follows, or that an earlier one left it untested." (02, f)
unfoldable pub told_after : ℕ → ℕ → List ℕ → Option Sum
told_after earlier release frame = cond (eqb earlier 0) (Some (sum_said release frame)) None

abbrev pub told_of : Call → Option Sum
told_of c = told_after (first_of (early c)) c.sent.settings.release c.sent.frame

-- of a check, whatever the reply area: its refusal without a reply, and what it tells of the sum (02, g)
unfoldable pub check_silent_of : Call → ℕ
check_silent_of c = first_of (check_early c ++ late c)

abbrev pub check_told_of : Call → Option Sum
check_told_of c = told_after (first_of (check_early c)) c.sent.settings.release c.sent.frame

-- a frame's refusal: 1 to 8 and 10 to 13, then 101 to 108
unfoldable pub refusal_of : Call → ℕ
refusal_of c =
    first_of
    (silent c
    ++ asked_rows (held_in (lengths_of c.areas)) c.sent.settings.fitted c.sent.settings.release
    (message_of c.sent.settings.release c.sent.frame) (content_in c.sent.frame))

-- "The step back tests 2, 3, 4, then 9", and 10 after 3 (02, a); "after 4 in a step back" 11, of an entry of any kind (02, b)
unfoldable pub back_rows : Lengths → List ℕ → List ℕ → Kept → List Row
back_rows lengths points journal kept =
    area_rows lengths journal kept ++ ((11 when (not (count_true points kept.effective))) ∷ (9 when (eqb kept.used 0)) ∷ [])

unfoldable pub back_refusal_of : Areas → ℕ
back_refusal_of a = first_of (back_rows (lengths_of a) a.points a.journal a.kept)
