-- Test calls worked through by computing (02, c): what meets the premises of demand 2's statement, and finders and boards that it refutes.
use Rattle.std.specs.Prelude.{ℕ, ◌≡◌, Bool, true, false, cond, ◌&&◌, List, [], eqb, drop}
use Rattle.digits.specs.Text.{text}
use Rattle.frames.specs.Frame.{command, has_testID, error_of}
use Rattle.finder.specs.declared.Found.{Found}
use Rattle.finder.specs.declared.Found.TheVariants.{Frame}
use Rattle.finder.specs.Find.{place_of, begins_test_call, by_length, find_in}
use Rattle.finder.specs.Laws.{Head, Quiet, find_before, TestCallRule, FoundAsBefore}
use Rattle.calls.specs.Calls.{Sent}
use Rattle.link.specs.Answer.{answer_of}
use Rattle.demands.specs.History.{Conduct, ours}
use Rattle.demands.specs.Reading.{Host}
use Rattle.demands.specs.TestCalls.{test_call, to_found, Unrefused, EveryTestCall, OtherLength, NoErrorReply}
use Rattle.trials.specs.Cases.{blank, sending, bench}
use Rattle.trials.specs.Useless.{honest_but, refuser, parrot}

-- ten bytes that are line ends, and ten with '!' and '!xx200' among them
abbrev pub line_ends : List ℕ
line_ends = text "\r\n\r\n\r\n\r\n\r\n"

abbrev pub marks : List ℕ
marks = text "!\r\n!99200\r"

-- the bench's host
abbrev pub host : Sent
host = sending []

pub record TestCallExamples : Type 0 where
  -- line ends, with '@@' and with a true SC: found behind "ab" with more behind it, and said back
  pub line : test_call host false line_ends ≡ text "!99200\r\n\r\n\r\n\r\n\r\n@@\r\n"
  pub found : find_in (text "ab!99200\r\n\r\n\r\n\r\n\r\n@@\r\n!9") ≡ Frame 2 22
  pub said : (to_found find_in ours blank host (text "ab!99200\r\n\r\n\r\n\r\n\r\n@@\r\n!9")).text ≡ text "#99200\r\n\r\n\r\n\r\n\r\n9A\r\n"
  pub checked : (to_found find_in ours blank host (text "ab!99200\r\n\r\n\r\n\r\n\r\n98\r\n!9")).text ≡ text "#99200\r\n\r\n\r\n\r\n\r\n9A\r\n"
  -- another test call's head among the ten bytes
  pub nested : find_in (text "!99200!\r\n!99200\r@@\r\n") ≡ Frame 0 20
  pub nested_said : (to_found find_in ours blank host (test_call host true marks)).text ≡ text "#99200!\r\n!99200\r91\r\n"
  -- the premises: areas that no test refuses, a host that is heard, bytes without '!', a head
  pub areas_pass : Unrefused blank
  pub heard : Host host
  pub quiet : Quiet (text "ab")
  pub head : Head (text "!99200")
  -- 200H frames of 19 and 21 bytes are 6, whatever their station; a frame of another ID with ten bytes of content isn't
  pub nineteen : (answer_of (bench blank (text "!99200123456789@@\r\n"))).number ≡ 6
  pub twenty_one : (answer_of (bench blank (text "!\r\n200123456789AB@@\r\n"))).number ≡ 6
  pub other_id : (answer_of (bench blank (text "!992080123456789@@\r\n"))).number ≡ 103
  -- `FoundAsBefore`: a frame of another ID
  pub as_before : find_before (text "ab!99299@@\r\n") ≡ Frame 2 12

-- a finder that looks at the first '!' alone and skips none, by what it takes for a test call's head
abbrev pub first_alone : (List ℕ → Bool) → List ℕ → Found
first_alone isHead received =
    let p = place_of command received in
    cond (isHead (drop p received)) (by_length p (drop p received)) (find_before received)

-- a board that leaves a 200H's length to the message's own test, and refuses it 103
abbrev pub length_by_message : Conduct
length_by_message =
    honest_but (λ c o.
    cond (has_testID c.sent.frame && eqb o.number 6)
    (record { number = 103; text = error_of c.sent.settings.station 103; areas = o.areas; sum = o.sum }) o)

-- document 01's finder cuts a test call with line ends, whole or not all there; one that skips none; one that takes station bytes CR LF for a test
-- call's; a board that refuses all, one with a constant reply, and one that gives 103
pub record TestCallsLost : Type 0 where
  pub cut : EveryTestCall find_before ours → ⊥
  pub not_waited : TestCallRule find_before → ⊥
  pub never_skips : TestCallRule (first_alone begins_test_call) → ⊥
  pub any_station : FoundAsBefore (first_alone has_testID) → ⊥
  pub refused : EveryTestCall find_in refuser → ⊥
  pub same_reply : EveryTestCall find_in parrot → ⊥
  pub other_number : OtherLength length_by_message → ⊥
  pub error_reply : NoErrorReply length_by_message → ⊥
