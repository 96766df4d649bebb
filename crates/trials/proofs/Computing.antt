-- All that a call computes with, named once: to unfold `a_call` is to unfold what its line names.
use Rattle.digits.specs.Digits.{admits, worth_of, capital, byte_of}
use Rattle.digits.specs.Laid.{laid}
use Rattle.frames.specs.Frame.{has_testID, shaped, sum_true, sum_off, sum_said, station_passes, reply_of}
use Rattle.finder.specs.Find.{find_in}
use Rattle.kinds.specs.Kinds.{kind_of, holds, run_of, put}
use Rattle.journal.specs.Journal.{encode, encodes, entry_fits, front_of, whole, entry_at, entries_in, kept, added, area_of, last_of, others_of, last_entry, others, puts}
use Rattle.flags.specs.Flags.{bits_of, eights}
use Rattle.points.specs.Axes.{axes_from, axes_of}
use Rattle.points.specs.Point.{positions_of, point_of, length_of, fills_of, position_bytes, slot_of, slots_of, positions_in, point_in, effective_in, position_digits, point_digits}
use Rattle.table.specs.Table.{message_numbered, message_of, pattern_fits, patterns_fit}
use Rattle.messages.specs.Asked.{asked_rows, judged, asked_of}
use Rattle.listing.specs.Listing.{listed}
use Rattle.queries.specs.Replies.{records_digits}
use Rattle.refusals.specs.Refusals.{points_fit, variables_fit, journal_fits, records_fit, axes_fit, release_fits, area_rows, check_rows, late_rows, count_rows, silent_of, told_after, check_silent_of, refusal_of, back_rows, back_refusal_of}
use Rattle.link.specs.Answer.{answer_of}
use Rattle.link.specs.Check.{check_of, act_of}
use Rattle.back.specs.Back.{back_of}

unfoldable pub a_call : Unit {0}
unfolding admits worth_of capital byte_of laid has_testID shaped sum_true sum_off sum_said station_passes reply_of find_in kind_of holds run_of put encode encodes entry_fits front_of whole entry_at entries_in kept added area_of last_of others_of last_entry others puts axes_from axes_of positions_of point_of length_of fills_of position_bytes slot_of slots_of positions_in point_in effective_in position_digits point_digits message_numbered message_of pattern_fits patterns_fit asked_rows judged asked_of listed records_digits bits_of eights points_fit variables_fit journal_fits records_fit axes_fit release_fits area_rows check_rows late_rows count_rows silent_of told_after check_silent_of refusal_of back_rows back_refusal_of answer_of back_of check_of act_of
a_call = tt
