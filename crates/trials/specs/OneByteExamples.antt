-- What the sum catches of changed bytes, and what it does not, worked through by computing (02, n): what meets the premises of demand 2's statements,
-- and boards that break these.
use Rattle.std.specs.Prelude.{ℕ, zero, suc, ◌+◌, ◌%◌, ◌<◌, ◌≡◌, ◌⊎◌, Bool, cond, ◌&&◌, List, [], ◌∷◌, map, eqb, length, take, drop, get_or, set, None, Some}
use Prim.Native.String.{String}
use Rattle.digits.specs.Digits.{capitals, admitted, number_of}
use Rattle.digits.specs.Text.{text}
use Rattle.frames.specs.declared.checks.Sum.{Sum}
use Rattle.frames.specs.declared.checks.Sum.TheVariants.{True, SwitchedOff, Wrong}
use Rattle.frames.specs.Frame.{beforeSC, sc_in, sc_of, low_byte, sum_true, closed}
use Rattle.calls.specs.Calls.{Call, unanswered}
use Rattle.link.specs.Answer.{answer_of}
use Rattle.demands.specs.History.{Conduct}
use Rattle.demands.specs.TestCalls.{handed}
use Rattle.demands.specs.Releases.{under}
use Rattle.demands.specs.OneByte.{Changed, Passes, CaughtUnderOne, OnlySize, CaughtUnderTwo, SizeUnnoticed}
use Rattle.trials.specs.Cases.{bench}
use Rattle.trials.specs.Broken.{smallest}
use Rattle.trials.specs.Useless.{honest_but, saying}
use Rattle.trials.specs.ReleaseExamples.{capitals_always, either_always, small}
use Rattle.trials.specs.SumExamples.{numbering, once_is_off}

-- a frame to a bench of two points under a release, and its number
abbrev pub sent : ℕ → String → Call
sent release f = under release (bench smallest (text f))

abbrev pub numbered : ℕ → String → ℕ
numbered release f = (answer_of (sent release f)).number

-- the numbers of a frame with its bytes, so many from a place on, each changed alone, to the next byte value
abbrev pub changed_from : ℕ → ℕ → List ℕ → List ℕ
changed_from zero place f = []
changed_from (suc left) place f =
    (answer_of (bench smallest (set f place (get_or f place 0 + 1)))).number ∷ changed_from left (suc place) f

abbrev pub each_changed : String → List ℕ
each_changed f = changed_from (length (text f)) 0 (text f)

-- a frame is accepted, this is told of its sum, and columns 300 to 303 then hold this lot code
abbrev pub Stores : String → Sum → String → Type 0
Stores f sum code =
    (numbered 1 f ≡ 0) × ((answer_of (sent 1 f)).sum ≡ Some sum) × (take 4 (answer_of (sent 1 f)).areas.columns ≡ text code)

pub record OneByteExamples : Type 0 where
  -- the premises: calls that pass; at any place of a frame, any other byte; an SC letter at either place, from capital to small and back
  pub passes : (release : ℕ) → (release ≡ 1) ⊎ (release ≡ 2) → Passes release (sent release "!992082D\r\n")
  pub small_sc : Passes 2 (sent 2 "!99212FFb4\r\n")
  pub any_change :
      (frame : List ℕ) (place b : ℕ) → place < length frame → get_or frame place 0 < 256 → b < 256 → (b ≡ get_or frame place 0 → ⊥)
      → Changed place frame (set frame place b)
  pub second_letter : OnlySize 7 (text "!992082D\r\n") (text "!992082d\r\n")
  pub first_letter : OnlySize 8 (text "!99212FFb4\r\n") (text "!99212FFB4\r\n")
  -- each byte of a 208H with a true SC changed alone: 6 for '!', CR and LF, else 7
  pub each_byte : each_changed "!992082D\r\n" ≡ 6 ∷ 7 ∷ 7 ∷ 7 ∷ 7 ∷ 7 ∷ 7 ∷ 7 ∷ 6 ∷ 6 ∷ []
  -- 6 where the ID becomes '200' in ten bytes; 7 where a test call's becomes '201', or one of its ten bytes changes, and where a 20DH's, of 20 bytes too,
  -- becomes '200'
  pub test_call_lem :
      (numbered 1 "!992002D\r\n" ≡ 6) × (numbered 1 "!99200012345678932\r\n" ≡ 0) × (numbered 1 "!99201012345678932\r\n" ≡ 7)
      × (numbered 1 "!99200Q12345678932\r\n" ≡ 7)
  pub of_20_bytes : (numbered 1 "!9920D000258000129\r\n" ≡ 0) × (numbered 1 "!99200000258000129\r\n" ≡ 7)
  -- the exception: accepted under release 2, 7 under release 1; a letter of the content is 7 under both
  pub only_size : (numbered 2 "!992082d\r\n" ≡ 0) × (numbered 1 "!992082d\r\n" ≡ 7)
  pub of_content : (numbered 2 "!992120F9E\r\n" ≡ 0) × (numbered 2 "!992120f9E\r\n" ≡ 7) × (numbered 1 "!992120f9E\r\n" ≡ 7)
  -- not caught: the lot code 0047 with two bytes changed so that the sum stays is 0056; with two bytes exchanged it is 0074
  pub code : Stores "!9924E0012C04303034373F\r\n" True "0047"
  pub two_changed : Stores "!9924E0012C04303035363F\r\n" True "0056"
  pub two_exchanged : Stores "!9924E0012C04303037343F\r\n" True "0074"
  -- nor, with '@@', any byte: '!', CR and LF are 6, the station is 8, the ID an unknown message (101) or another (103), one '@' is 7; an ID that becomes
  -- '200' is 6 in ten bytes and accepted in 20; a digit of a lot code is stored
  pub off_changed : each_changed "!99208@@\r\n" ≡ 6 ∷ 8 ∷ 8 ∷ 101 ∷ 101 ∷ 103 ∷ 7 ∷ 7 ∷ 6 ∷ 6 ∷ []
  pub off_test_call :
      (numbered 1 "!99200@@\r\n" ≡ 6) × (numbered 1 "!9920D0002580001@@\r\n" ≡ 0) × (numbered 1 "!992000002580001@@\r\n" ≡ 0)
  pub off_code : Stores "!9924E0012C0430303437@@\r\n" SwitchedOff "0047" × Stores "!9924E0012C0430303438@@\r\n" SwitchedOff "0048"

-- a board that takes an SC for true also where this says so
abbrev pub trusting : (List ℕ → Bool) → Conduct
trusting says =
    honest_but (λ c o.
    cond (eqb o.number 7 && says c.sent.frame) (answer_of (handed c.areas c.sent (closed (beforeSC c.sent.frame)))) o)

-- the SC of a sum without the first byte, of 7 bits of the sum, one whose first digit alone is compared, and that of capitals
abbrev pub without_first : Conduct
without_first = trusting (λ f. eqb (number_of (sc_in f)) (low_byte (drop 1 (beforeSC f))))

abbrev pub seven_bits : Conduct
seven_bits = trusting (λ f. eqb (number_of (sc_in f) % 128) (low_byte (beforeSC f) % 128))

abbrev pub first_digit : Conduct
first_digit = trusting (λ f. eqb (get_or (sc_in f) 0 0) (get_or (sc_of (beforeSC f)) 0 0))

abbrev pub of_capitals : Conduct
of_capitals = trusting (λ f. sum_true 2 (capitals f))

-- 7 for all that 6 doesn't refuse, 6 for all, and 7 where 6 refuses
abbrev pub all_wrong : Conduct
all_wrong = honest_but (λ c o. cond (eqb o.number 6) o (unanswered (Some Wrong) 7 c.areas))

abbrev pub all_six : Conduct
all_six = honest_but (λ c o. unanswered None 6 c.areas)

abbrev pub seven_for_six : Conduct
seven_for_six = honest_but (λ c o. cond (eqb o.number 6) (numbering 7 o) o)

-- one that does what a frame with a wrong SC asks, and then gives 7
abbrev pub done_then_refused : Conduct
done_then_refused =
    honest_but (λ c o.
    cond (eqb o.number 7) (unanswered o.sum 7 (answer_of (handed c.areas c.sent (closed (beforeSC c.sent.frame)))).areas) o)

-- one that replies in small letters because the SC has one
abbrev pub small_for_small : Conduct
small_for_small = honest_but (λ c o. cond (admitted 1 (sc_in c.sent.frame)) o (saying (map small o.text) o))

pub record OneByteBroken : Type 0 where
  pub without_first_lem : CaughtUnderOne without_first → ⊥
  pub seven_bits_lem : CaughtUnderOne seven_bits → ⊥
  pub first_digit_lem : CaughtUnderOne first_digit → ⊥
  pub of_capitals_lem : CaughtUnderTwo of_capitals → ⊥
  pub once_is_off_lem : CaughtUnderTwo once_is_off → ⊥
  pub either_always_lem : CaughtUnderOne either_always → ⊥
  pub capitals_always_lem : SizeUnnoticed capitals_always → ⊥
  pub all_wrong_lem : SizeUnnoticed all_wrong → ⊥
  pub all_six_lem : SizeUnnoticed all_six → ⊥
  pub small_for_small_lem : SizeUnnoticed small_for_small → ⊥
  pub seven_for_six_lem : CaughtUnderOne seven_for_six → ⊥
  pub done_then_refused_lem : CaughtUnderOne done_then_refused → ⊥
