-- Document 01, "Frame", and of its refusal table test 6, the sum test for 12 and 7, and test 8, with document 02, requests c, f and l;
-- source document 000, sections 3 and 4-3-1.
use Rattle.std.specs.Prelude.{ℕ, ◌+◌, ◌-◌, ◌/◌, ◌%◌, Bool, true, false, cond, not, ◌&&◌, ◌||◌, List, [], ◌∷◌, ◌++◌, length, take, drop, ◌==◌, nat_le, slice_index}
use Rattle.digits.specs.Digits.{byte_of, digits_of, admitted, number_of}
use Rattle.frames.specs.declared.checks.Sum.{Sum}
use Rattle.frames.specs.declared.checks.Sum.TheVariants.{True, SwitchedOff, Wrong}

-- "Header '!'"; "Replies start '#', or '&' for an error" (Frame; 000, section 3)
abbrev pub command : ℕ
command = 0x21

abbrev pub normal : ℕ
normal = 0x23

abbrev pub error : ℕ
error = 0x26

-- "CR LF (0DH 0AH)"
abbrev pub CR : ℕ
CR = 0x0D

abbrev pub LF : ℕ
LF = 0x0A

-- the fields of a frame: "Header '!', station (2 digits), message ID (3), content, SC (2), CR, LF" (Frame)
abbrev pub station_in : List ℕ → List ℕ
station_in frame = take 2 (drop 1 frame)

abbrev pub message_in : List ℕ → List ℕ
message_in frame = take 3 (drop 3 frame)

abbrev pub content_in : List ℕ → List ℕ
content_in frame = take (length frame - 10) (drop 6 frame)

abbrev pub beforeSC : List ℕ → List ℕ
beforeSC frame = take (length frame - 4) frame

abbrev pub sc_in : List ℕ → List ℕ
sc_in frame = take 2 (drop (length frame - 4) frame)

-- the sum of bytes (000, section 3, "Calculation of Checksum")
abbrev pub sum_of : List ℕ → ℕ
sum_of [] = 0
sum_of (b ∷ bs) = b + sum_of bs

-- "SC is the low byte of the sum of all bytes before it, as two digits" (Frame)
abbrev pub low_byte : List ℕ → ℕ
low_byte before = sum_of before % 256

abbrev pub sc_of : List ℕ → List ℕ
sc_of before = digits_of 2 (low_byte before)

-- a test call, by its ID: "'200'" (02, c)
unfoldable pub has_testID : List ℕ → Bool
has_testID frame =
    (slice_index (message_in frame) 0 == 0x32) && (slice_index (message_in frame) 1 == 0x30 && slice_index (message_in frame) 2 == 0x30)

-- not "a 200H frame of another length" than 20 (02, c)
abbrev pub test_call_fits : List ℕ → Bool
test_call_fits frame = not (has_testID frame) || length frame == 20

-- Test 6, passed: "'!' first, CR LF last, 10 to 1,023 bytes"; "6 also covers a 200H frame of another length" (02, c)
unfoldable pub shaped : List ℕ → Bool
shaped frame =
    (slice_index frame 0 == command)
    && (slice_index frame (length frame - 2) == CR
    && (slice_index frame (length frame - 1) == LF
    && (nat_le 10 (length frame) && (nat_le (length frame) 1023 && test_call_fits frame))))

-- a field is digits, as a release admits them, and they write this number (02, l)
abbrev pub says_number : ℕ → List ℕ → ℕ → Bool
says_number release field n = admitted release field && number_of field == n

-- the SC is true (Frame); "The sum is always of the bytes as sent" (02, l)
unfoldable pub sum_true : ℕ → List ℕ → Bool
sum_true release frame = says_number release (sc_in frame) (low_byte (beforeSC frame))

-- "a command may carry '@@' instead and is then not checked" (Frame; '@' is 40H)
unfoldable pub sum_off : List ℕ → Bool
sum_off frame = slice_index (sc_in frame) 0 == 0x40 && slice_index (sc_in frame) 1 == 0x40

-- "The sum test must answer one of three: true, switched off, wrong." (02, f)
unfoldable pub sum_said : ℕ → List ℕ → Sum
sum_said release frame = cond (sum_true release frame) True (cond (sum_off frame) SwitchedOff Wrong)

-- tests 12 and 7, by what the sum test says: '@@', and a wrong SC (02, f)
abbrev pub is_off : Sum → Bool
is_off True = false
is_off SwitchedOff = true
is_off Wrong = false

abbrev pub is_wrong : Sum → Bool
is_wrong True = false
is_wrong SwitchedOff = false
is_wrong Wrong = true

-- Test 8, passed: the station is "digits" and does not differ
unfoldable pub station_passes : ℕ → ℕ → List ℕ → Bool
station_passes release station frame = says_number release (station_in frame) station

-- what stands before an SC, with its SC, CR and LF (Frame)
abbrev pub closed : List ℕ → List ℕ
closed before = before ++ (sc_of before ++ (CR ∷ LF ∷ []))

-- a reply: header, station, what follows it; replies "always carry a true SC" (Frame)
unfoldable pub reply_of : ℕ → ℕ → List ℕ → List ℕ
reply_of header station rest = closed (header ∷ (digits_of 2 station ++ rest))

-- the three digits of a refusal's number, as its table prints it
abbrev pub three_of : ℕ → List ℕ
three_of number = byte_of (number / 100 % 10) ∷ byte_of (number / 10 % 10) ∷ byte_of (number % 10) ∷ []

-- "Error reply: '&', station, three-digit code, SC, CR, LF: 10 bytes" (Frame; 000, section 4-3-1)
abbrev pub error_of : ℕ → ℕ → List ℕ
error_of station number = reply_of error station (three_of number)
