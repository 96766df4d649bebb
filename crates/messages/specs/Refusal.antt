-- Document 01, "Refusal numbers, in the order tested", and document 02, requests a, b, f and l: the number of each refusal, and of an answer.
use Rattle.std.specs.Prelude.{ℕ, Result, Ok, Err}
use Rattle.messages.specs.declared.refusal.Refusal.{Refusal}
use Rattle.messages.specs.declared.refusal.Refusal.TheVariants.{ReplyArea, PointsArea, ColumnsArea, JournalArea, AxisRecords, Shape, WrongSum, OtherStation, NothingToStepBack, VariableAreas, KeptCount, SumSwitchedOff, Release, UnknownMessage, NotDigits, ContentLength, ProgramNumber, CountZero, NotHeld, AxisPattern, ChangeType}

-- the table's column "No."
abbrev pub refusal_number : Refusal → ℕ
refusal_number ReplyArea = 1
refusal_number PointsArea = 2
refusal_number ColumnsArea = 3
refusal_number JournalArea = 4
refusal_number AxisRecords = 5
refusal_number Shape = 6
refusal_number WrongSum = 7
refusal_number OtherStation = 8
refusal_number NothingToStepBack = 9
refusal_number VariableAreas = 10
refusal_number KeptCount = 11
refusal_number SumSwitchedOff = 12
refusal_number Release = 13
refusal_number UnknownMessage = 101
refusal_number NotDigits = 102
refusal_number ContentLength = 103
refusal_number ProgramNumber = 104
refusal_number CountZero = 105
refusal_number NotHeld = 106
refusal_number AxisPattern = 107
refusal_number ChangeType = 108

-- "An accepted call has number 0."
abbrev pub number_by : {A : Type 0} → Result A Refusal → ℕ
number_by (Ok accepted) = 0
number_by (Err refusal) = refusal_number refusal
