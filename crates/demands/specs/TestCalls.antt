-- Demand 2 of test calls: "The maker says the ten bytes of 200H are arbitrary. [..] Demand 2 reads so from here." (02, c)
use Rattle.std.specs.Prelude.{ℕ, ◌+◌, ◌<◌, ◌≡◌, Bool, true, List, ◌++◌, length, None}
use Rattle.digits.specs.Text.{text}
use Rattle.frames.specs.Frame.{normal, message_in, reply_of}
use Rattle.finder.specs.declared.Found.{Found}
use Rattle.finder.specs.declared.Found.TheVariants.{Frame}
use Rattle.finder.specs.Find.{find_in, part_of}
use Rattle.finder.specs.Laws.{Quiet, TestCallRule, FoundAsBefore}
use Rattle.messages.specs.Rows.{first_of}
use Rattle.calls.specs.Calls.{Areas, Sent, Call, Outcome, call_of, lengths_of, unanswered}
use Rattle.refusals.specs.Refusals.{area_rows}
use Rattle.demands.specs.History.{Conduct, ours}
use Rattle.demands.specs.Reading.{command_of, Host, allowed}

-- a test call to the host's station, with a true SC or '@@'
abbrev pub test_call : Sent → Bool → List ℕ → List ℕ
test_call h checked ten = command_of checked h.settings.station (text "200" ++ ten)

-- a frame from a host, over areas
abbrev pub handed : Areas → Sent → List ℕ → Call
handed a h frame = call_of frame h.axes h.settings h.reply a

-- what a board answers a host to what a finder finds in the received bytes
abbrev pub to_found : (List ℕ → Found) → Conduct → Areas → Sent → List ℕ → Outcome
to_found find board a h received = board.answer (handed a h (part_of (find received) received))

-- areas that no test refuses
abbrev pub Unrefused : Areas → Type 0
Unrefused a = first_of (area_rows (lengths_of a) a.journal a.kept) ≡ 0

-- a frame of 20 bytes behind so many others is found whole and used up to its end, accepted, and answered with the ten bytes unchanged; no area changes
pub record SaidBack (find : List ℕ → Found) (board : Conduct) (a : Areas) (h : Sent) (frame ten : List ℕ) (start : ℕ) (received : List ℕ) : Type 0 where
  pub found : find received ≡ Frame start (start + 20)
  pub whole : part_of (find received) received ≡ frame
  pub number : (to_found find board a h received).number ≡ 0
  pub says : (to_found find board a h received).text ≡ reply_of normal h.settings.station (text "200" ++ ten)
  pub areas : (to_found find board a h received).areas ≡ a

-- so over areas that no test refuses, from any host that is heard, with a true SC or an allowed '@@': any ten bytes, CR LF, '!' and '!xx200' among them,
-- behind bytes without '!', whatever follows (02, c)
abbrev pub EveryTestCall : (List ℕ → Found) → Conduct → Type 0
EveryTestCall find board =
    (a : Areas) → Unrefused a → (h : Sent) → Host h → (checked : Bool) → allowed h checked ≡ true → (ten before behind : List ℕ) → length ten ≡ 10
    → Quiet before
    → SaidBack find board a h (test_call h checked ten) ten (length before) (before ++ (test_call h checked ten ++ behind))

-- "6 also covers a 200H frame of another length" (02, c): over areas that no test refuses, from any host that is heard, whatever its station bytes and
-- its SC are
abbrev pub OtherLength : Conduct → Type 0
OtherLength board =
    (a : Areas) → Unrefused a → (h : Sent) → Host h → (frame : List ℕ) → message_in frame ≡ text "200" → (length frame ≡ 20 → ⊥)
    → board.answer (handed a h frame) ≡ unanswered None 6 a

-- so no call with a 200H has an error reply, and none is refused 103: it is accepted, or refused without a reply
abbrev pub NoErrorReply : Conduct → Type 0
NoErrorReply board = (c : Call) → message_in c.sent.frame ≡ text "200" → (board.answer c).number < 101

-- test calls, and every frame of another ID found as before
pub record TestCalls : Type 0 where
  pub rule : TestCallRule find_in
  pub found_as_before : FoundAsBefore find_in
  pub every_test_call : EveryTestCall find_in ours
  pub other_length : OtherLength ours
  pub no_error_reply : NoErrorReply ours
