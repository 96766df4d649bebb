-- What is promised of the finder, over all bytes. The proofs are in proofs/Promised.antt.
use Rattle.std.specs.Prelude.{ℕ, ◌+◌, ◌≤◌, ◌<◌, ◌≡◌, false, cond, not, List, [], ◌∷◌, ◌++◌, ltb, length, take, drop, get_or}
use Rattle.digits.specs.Text.{text}
use Rattle.frames.specs.Frame.{command, CR, LF, station_in, message_in}
use Rattle.finder.specs.declared.Found.{Found}
use Rattle.finder.specs.declared.Found.TheVariants.{Frame, Nothing, Wait, TooLong}
use Rattle.finder.specs.Find.{place_of, pair_of, begins_test_call, skip_of, from_it, window_of, by_pair, find_in, part_of}

-- a test call's head, by a frame's fields: "after '!', two bytes that aren't CR LF, and '200'" (02, c)
pub record Head (bytes : List ℕ) : Type 0 where
  pub bang : get_or bytes 0 0 ≡ command
  pub station : station_in bytes ≡ CR ∷ LF ∷ [] → ⊥
  pub id : message_in bytes ≡ text "200"

-- bytes 19 and 20
abbrev pub last_two : List ℕ → List ℕ
last_two bytes = take 2 (drop 18 bytes)

-- Finding a frame: "if 1,023 bytes are there, answer "too long" and drop up to and with that '!'"
abbrev pub FullWindow : List ℕ → Type 0
FullWindow received =
    skip_of received < length received → begins_test_call (from_it received) ≡ false → length (window_of received) ≡ 1023 → 1023 ≤ pair_of (window_of received)
    → find_in received ≡ TooLong (skip_of received + 1)

-- bytes without '!'
abbrev pub Quiet : List ℕ → Type 0
Quiet bytes = place_of command bytes ≡ length bytes

-- document 01's own rule, without request c
abbrev pub find_before : List ℕ → Found
find_before received =
    cond (not (ltb (place_of command received) (length received))) (Nothing (length received))
    (by_pair (place_of command received) (take 1023 (drop (place_of command received) received)))

-- the same, found behind so many bytes more and counted from the first of them
abbrev pub later_by : ℕ → Found → Found
later_by n (Frame start used) = Frame (n + start) (n + used)
later_by n (Nothing drop) = Nothing (n + drop)
later_by n (Wait drop) = Wait (n + drop)
later_by n (TooLong drop) = TooLong (n + drop)

-- request c's rule, of any finder: at the first '!' of what is received a test call's head stands, or none
pub record TestCallRule (find : List ℕ → Found) : Type 0 where
  -- "the frame is 20 bytes long, and CR LF must be its last two"
  pub found : (before bytes : List ℕ) → Quiet before → Head bytes → 20 ≤ length bytes → last_two bytes ≡ CR ∷ LF ∷ []
      → find (before ++ bytes) ≡ Frame (length before) (length before + 20)
  -- "With fewer than 20 bytes there, wait": what stood before that '!' is dropped
  pub waits : (before bytes : List ℕ) → Quiet before → Head bytes → length bytes < 20 → find (before ++ bytes) ≡ Wait (length before)
  -- "where its last two aren't CR LF, the '!' is skipped and the same call looks on from the byte after it", as if the search began there
  pub looks_on : (before bytes : List ℕ) → Quiet before → Head (command ∷ bytes) → 19 ≤ length bytes → (last_two (command ∷ bytes) ≡ CR ∷ LF ∷ [] → ⊥)
      → find (before ++ (command ∷ bytes)) ≡ later_by (length before + 1) (find bytes)
  -- every other '!' as before
  pub as_before : (received : List ℕ) → (Head (drop (place_of command received) received) → ⊥) → find received ≡ find_before received

-- any frame that document 01's rule finds, and whose ID isn't '200', is found as before
abbrev pub FoundAsBefore : (List ℕ → Found) → Type 0
FoundAsBefore find =
    (received : List ℕ) (start used : ℕ) → find_before received ≡ Frame start used → (message_in (part_of (Frame start used) received) ≡ text "200" → ⊥)
    → find received ≡ Frame start used
