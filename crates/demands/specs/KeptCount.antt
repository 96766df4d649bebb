-- Document 02, request b, "A count that is kept": what each call hands on, what 208H replies, and refusal 11, of any board.
use Rattle.std.specs.Prelude.{ℕ, ◌<◌, ◌≡◌, ◌↔◌, Bool, true, false, cond, not, ◌||◌, List, [], ◌++◌, eqb, ltb, length, get_or, Option, Some, None}
use Rattle.digits.specs.Digits.{digits_of}
use Rattle.digits.specs.Text.{text}
use Rattle.frames.specs.Frame.{normal, message_in, reply_of}
use Rattle.kinds.specs.Kinds.{held_in}
use Rattle.table.specs.declared.Message.{Message}
use Rattle.messages.specs.Rows.{first_of}
use Rattle.calls.specs.Calls.{Areas, Call, Outcome, areas_of, call_of, lengths_of}
use Rattle.refusals.specs.Refusals.{area_rows, late_rows, early}
use Rattle.demands.specs.History.{Conduct, effective_of, CountTrue, message_by}
use Rattle.demands.specs.Survive.{Accepted}

-- "hands back the count given"
abbrev pub SameCount : Areas → Areas → Type 0
SameCount a a' = a'.kept.effective ≡ a.kept.effective

-- "at 244H, 246H or any step back, a kept count that differs from the slots; at 208H, one above N"
abbrev pub wrong_at : ℕ → Areas → Bool
wrong_at id a =
    cond (eqb id 0x208) (ltb (held_in (lengths_of a)).points a.kept.effective)
    (cond (eqb id 0x244 || eqb id 0x246) (not (eqb a.kept.effective (effective_of a))) false)

-- the ID of a frame, whatever its content; 0 where its message is unknown
abbrev pub id_named : Option Message → ℕ
id_named None = 0
id_named (Some m) = m.id

-- what is tested of a frame up to 8, and of a step back up to 4
abbrev pub to_eight : Call → ℕ
to_eight c = first_of (early c ++ late_rows c.sent.settings c.sent.frame)

abbrev pub to_four : Areas → ℕ
to_four a = first_of (area_rows (lengths_of a) a.journal a.kept)

-- "11, no reply, tested after 8": where something up to 8 refuses, and that is never 11, it is the number
pub record Eleven (c : Call) (o : Outcome) : Type 0 where
  pub not_before : (to_eight c ≡ 0 → ⊥) → (o.number ≡ to_eight c) × (to_eight c ≡ 11 → ⊥)
  pub by_id : to_eight c ≡ 0 → (o.number ≡ 11) ↔ (wrong_at (id_named (message_by c.sent)) c.areas ≡ true)
  pub nothing_done : o.number ≡ 11 → (o.text ≡ []) × (o.areas ≡ c.areas)

-- "or after 4 in a step back", of an entry of any kind
pub record ElevenBack (a : Areas) (o : Outcome) : Type 0 where
  pub not_before : (to_four a ≡ 0 → ⊥) → (o.number ≡ to_four a) × (to_four a ≡ 11 → ⊥)
  pub by_count : to_four a ≡ 0 → (o.number ≡ 11) ↔ (CountTrue a → ⊥)
  pub nothing_done : o.number ≡ 11 → (o.text ≡ []) × (o.areas ≡ a)

-- a call over areas with these slots
abbrev pub over : List ℕ → Call → Call
over points c =
    let a = c.areas in
    call_of c.sent.frame c.sent.axes c.sent.settings c.sent.reply
    (areas_of points a.columns a.integers a.flags a.journal a.kept a.firsts)

pub record KeptCount (board : Conduct) : Type 0 where
  -- "make each write, clear and step back keep it true": each hands back the number of effective slots after it
  pub written : (c : Call) → Accepted 0x244 c → CountTrue (board.answer c).areas
  pub cleared : (c : Call) → Accepted 0x246 c → CountTrue (board.answer c).areas
  pub stepped : (a : Areas) → ((i : ℕ) → get_or a.journal i 0 < 256) → (board.back a).number ≡ 0 → CountTrue (board.back a).areas
  -- "Any other call, and any refused one, hands back the count given."
  pub other :
      (c : Call) → (id_named (message_by c.sent) ≡ 0x244 → ⊥) → (id_named (message_by c.sent) ≡ 0x246 → ⊥)
      → SameCount c.areas (board.answer c).areas
  pub refused : (c : Call) → ((board.answer c).number ≡ 0 → ⊥) → SameCount c.areas (board.answer c).areas
  pub refused_back : (a : Areas) → ((board.back a).number ≡ 0 → ⊥) → SameCount a (board.back a).areas
  -- "Only 208H trusts the kept count": it replies that, "and no walk": whatever stands in the slots
  pub trusts :
      (c : Call) → Accepted 0x208 c
      → (board.answer c).text ≡ reply_of normal c.sent.settings.station (text "208" ++ digits_of 3 c.areas.kept.effective)
  pub no_walk :
      (c : Call) (points : List ℕ) → message_in c.sent.frame ≡ text "208" → length points ≡ length c.areas.points
      → ((board.answer (over points c)).number ≡ (board.answer c).number) × ((board.answer (over points c)).text ≡ (board.answer c).text)
  -- refusal 11
  pub eleven : (c : Call) → Eleven c (board.answer c)
  pub eleven_back : (a : Areas) → ElevenBack a (board.back a)
