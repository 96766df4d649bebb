-- Document 01, "Each message", and document 02, requests a and b: what each message has the board say and store.
use Rattle.std.specs.Prelude.{ℕ, ◌*◌, Bool, true, false, List, [], ◌∷◌, drop, replicate}
use Rattle.std.specs.Int.Bits.{bit_and}
use Rattle.digits.specs.Digits.{number_of}
use Rattle.frames.specs.Frame.{content_in}
use Rattle.kinds.specs.declared.Held.{Held}
use Rattle.kinds.specs.Kinds.{points_of, kind_of, place_of}
use Rattle.pairs.specs.Pairs.{bytes_in}
use Rattle.points.specs.Point.{slots_of}
use Rattle.table.specs.declared.Action.{Action}
use Rattle.table.specs.declared.Action.TheVariants.{SayBack, CountPoints, ListPoints, ReadRun, AxisStatus, WritePoints, ClearRun, ChangeRun, ShowFlags, SetFlag}
use Rattle.table.specs.declared.Message.{Message}
use Rattle.table.specs.Table.{rest_in}
use Rattle.heads.specs.Heads.{head_of, run_text, flags_text}
use Rattle.queries.specs.Replies.{same_text, count_text, list_text, axes_text}
use Rattle.axes.specs.Records.{records_of}
use Rattle.calls.specs.declared.Kept.{Kept}
use Rattle.calls.specs.Calls.{Sent}

-- what follows the fields of the content that was sent
abbrev pub rest : Sent → Message → List ℕ
rest s m = rest_in m (content_in s.frame)

-- the messages that write
abbrev pub writes : Action → Bool
writes SayBack = false
writes CountPoints = false
writes ListPoints = false
writes ReadRun = false
writes AxisStatus = false
writes WritePoints = true
writes ClearRun = true
writes ChangeRun = true
writes ShowFlags = false
writes SetFlag = true

-- the bytes that a write stores; a query stores none
abbrev pub new_bytes : Action → ℕ → ℕ → List ℕ → List ℕ
new_bytes SayBack unit count rest = []
new_bytes CountPoints unit count rest = []
new_bytes ListPoints unit count rest = []
new_bytes ReadRun unit count rest = []
new_bytes AxisStatus unit count rest = []
new_bytes ShowFlags unit count rest = []
-- 244H: "Slots are rewritten whole"
new_bytes WritePoints unit count rest = slots_of count rest
-- "246H sets the named slots to zero. 24EH sets columns from the start on, one byte for each."
new_bytes ClearRun unit count rest = replicate (count * unit) 0
new_bytes ChangeRun unit count rest = bytes_in rest
-- 24BH (02, a; 4-3-27): change type 0 stores 00, 1 stores 01
new_bytes SetFlag unit count rest = number_of rest ∷ []

-- what the reply to each message says after its station, with the area of its kind and, of 208H, the count that is kept ("Each message"; the writes'
-- replies by 4-3-23, 4-3-25, 4-3-27, 4-3-28 and 4-3-30)
abbrev pub said_by : Action → Held → Sent → Kept → Message → ℕ → ℕ → List ℕ → List ℕ
said_by SayBack h s kept m start count area = same_text m (rest s m)
said_by CountPoints h s kept m start count area = count_text m kept.effective
said_by ListPoints h s kept m start count area = list_text m start count (drop (place_of (points_of h) start) area)
said_by ReadRun h s kept m start count area = run_text m (kind_of h m.tag) start count area
-- 212H: "the asked pattern with unfitted axes removed"
said_by AxisStatus h s kept m start count area = axes_text m (bit_and (number_of (rest s m)) s.settings.fitted) (records_of s.axes)
said_by WritePoints h s kept m start count area = head_of m start count
said_by ClearRun h s kept m start count area = head_of m start count
said_by ChangeRun h s kept m start count area = head_of m start count
said_by ShowFlags h s kept m start count area = flags_text m (kind_of h m.tag) start count area
said_by SetFlag h s kept m start count area = head_of m start count
