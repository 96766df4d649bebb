-- Demand 2: the shape of every reply, and 200H.
use Rattle.std.specs.Prelude.{ℕ, ◌≤◌, ◌≡◌, cond, List, [], ◌++◌, eqb, length, get_or}
use Rattle.digits.specs.Text.{text}
use Rattle.frames.specs.Frame.{normal, error, message_in, content_in, reply_of}
use Rattle.frames.specs.Laws.{Reply}
use Rattle.calls.specs.Calls.{Call}
use Rattle.link.specs.Answer.{answer_of}

-- "Replies start '#', or '&' for an error" ("Frame"): '#' where the frame was accepted
abbrev pub header_of : ℕ → ℕ
header_of number = cond (eqb number 0) normal error

-- a text that is a reply: header, station, what it says, true SC, CR, LF ("Frame")
pub record Framed (number station : ℕ) (t : List ℕ) : Type 0 where
  pub rest : List ℕ
  pub is : t ≡ reply_of (header_of number) station rest
  pub law : Reply (header_of number) station rest

-- every reply, where there is one, has that shape: replies "always carry a true SC" ("Frame")
abbrev pub EveryReply : Type 0
EveryReply = (c : Call) → ((answer_of c).text ≡ [] → ⊥) → Framed (answer_of c).number c.sent.settings.station (answer_of c).text

-- number 0 means a normal reply ("An accepted call has number 0", "Refusal numbers"): one of that shape, and its first byte is '#' ("Frame")
pub record NormalReply : Type 0 where
  pub framed : (c : Call) → (answer_of c).number ≡ 0 → Framed 0 c.sent.settings.station (answer_of c).text
  pub starts : (c : Call) → (answer_of c).number ≡ 0 → get_or (answer_of c).text 0 0 ≡ normal

-- every reply fits into the least reply area: "at least 1,024 bytes" ("The areas")
abbrev pub ReplyFits : Type 0
ReplyFits = (c : Call) → length (answer_of c).text ≤ 1024

-- 200H, accepted: its own ID, and "ten bytes, returned unchanged" ("Each message")
abbrev pub TestCallBack : Type 0
TestCallBack =
    (c : Call) → message_in c.sent.frame ≡ text "200" → (answer_of c).number ≡ 0
    → (answer_of c).text ≡ reply_of normal c.sent.settings.station (message_in c.sent.frame ++ content_in c.sent.frame)
