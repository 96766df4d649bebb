-- Document 01, "Finding a frame in the received bytes", and document 02, request c.
use Rattle.std.specs.Prelude.{ℕ, suc, ◌+◌, ◌-◌, Bool, false, cond, not, ◌&&◌, List, [], ◌∷◌, length, take, drop, ltb, leb, eqb}
use Rattle.finder.specs.declared.Found.{Found}
use Rattle.finder.specs.declared.Found.TheVariants.{Frame, Nothing, Wait, TooLong}
use Rattle.frames.specs.Frame.{command, CR, LF, has_testID}

-- where a byte first stands, or the length with none
abbrev pub place_of : ℕ → List ℕ → ℕ
place_of b [] = 0
place_of b (x ∷ s) = cond (eqb x b) 0 (suc (place_of b s))

-- CR LF stands at the front
abbrev pub pair_first : List ℕ → Bool
pair_first [] = false
pair_first (x ∷ []) = false
pair_first (x ∷ y ∷ s) = eqb x CR && eqb y LF

-- where CR LF first stands, or the length with none
abbrev pub pair_of : List ℕ → ℕ
pair_of [] = 0
pair_of (x ∷ s) = cond (pair_first (x ∷ s)) 0 (suc (pair_of s))

-- a test call begins so: "after '!', two bytes that aren't CR LF, and '200'" (02, c)
abbrev pub begins_test_call : List ℕ → Bool
begins_test_call bytes = not (pair_first (drop 1 bytes)) && has_testID bytes

-- "the frame is 20 bytes long, and CR LF must be its last two [..] where its last two aren't CR LF, the '!' is skipped" (02, c)
abbrev pub skipped : List ℕ → Bool
skipped bytes = begins_test_call bytes && (leb 20 (length bytes) && not (pair_first (drop 18 bytes)))

-- "Skip to the first '!' (21H)", and past each where "the same call looks on from the byte after it" (02, c)
abbrev pub skip_of : List ℕ → ℕ
skip_of [] = 0
skip_of (x ∷ s) = cond (eqb x command && not (skipped (x ∷ s))) 0 (suc (skip_of s))

-- "the bytes from it on"
abbrev pub from_it : List ℕ → List ℕ
from_it received = drop (skip_of received) received

-- "the bytes from it on, at most 1,023"
abbrev pub window_of : List ℕ → List ℕ
window_of received = take 1023 (from_it received)

-- "With fewer than 20 bytes there, wait" (02, c), "and drop what stood before it"; else it is the frame: its '!' isn't skipped, so its last two are CR LF
abbrev pub by_length : ℕ → List ℕ → Found
by_length before bytes = cond (ltb (length bytes) 20) (Wait before) (Frame before (before + 20))

-- "If CR LF (0DH 0AH) stands there, the first such pair ends the frame; [..] if 1,023 bytes are there,
-- answer "too long" and drop up to and with that '!'; otherwise answer "wait" and drop what stood before it."
abbrev pub by_pair : ℕ → List ℕ → Found
by_pair before window =
    cond (ltb (pair_of window) (length window))
    (Frame before (before + (pair_of window + 2)))
    (cond (eqb (length window) 1023) (TooLong (before + 1)) (Wait before))

-- "With none, drop everything."; a test call ends by its length (02, c), any other frame by its pair
unfoldable pub find_in : List ℕ → Found
find_in received =
    cond (not (ltb (skip_of received) (length received))) (Nothing (length received))
    (cond (begins_test_call (from_it received)) (by_length (skip_of received) (from_it received)) (by_pair (skip_of received) (window_of received)))

-- The values of each case. "how many bytes are used up to its end", or dropped
abbrev pub drop_of : Found → ℕ
drop_of (Frame start used) = used
drop_of (Nothing drop) = drop
drop_of (Wait drop) = drop
drop_of (TooLong drop) = drop

-- "the answer is that part of the received bytes itself [..] With no frame the part is empty."
abbrev pub part_of : Found → List ℕ → List ℕ
part_of (Frame start used) received = take (used - start) (drop start received)
part_of (Nothing drop) received = []
part_of (Wait drop) received = []
part_of (TooLong drop) received = []
