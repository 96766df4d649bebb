-- Worked cases of frames, in the documents' own strings. Proved by computing, in proofs/Worked.antt.
use Rattle.std.specs.Prelude.{◌≡◌, ℕ, true, false}
use Rattle.digits.specs.Text.{text}
use Rattle.frames.specs.declared.checks.Sum.TheVariants.{True, SwitchedOff, Wrong}
use Rattle.frames.specs.Frame.{normal, sum_of, sc_of, has_testID, shaped, sum_said, station_passes, reply_of, error_of}

pub record Cases : Type 0 where
  -- Proved cases, 1; 000, section 3: "Total sum [..] = 254H", "The checksum is calculated as '54.'"
  pub sum : sum_of (text "!99209001005") ≡ 0x254
  pub sc : sc_of (text "!99209001005") ≡ text "54"
  pub passes : sum_said 1 (text "!9920900100554\r\n") ≡ True
  -- Proved cases, 2: the same with SC 55; 3: with @@
  pub wrong : sum_said 1 (text "!9920900100555\r\n") ≡ Wrong
  pub off : sum_said 1 (text "!99209001005@@\r\n") ≡ SwitchedOff
  -- 02, f: '@' once, before or behind a digit, is wrong
  pub once : (sum_said 1 (text "!99209001005@4\r\n") ≡ Wrong) × (sum_said 1 (text "!992090010055@\r\n") ≡ Wrong)
  -- Run and compared: SC 5a for 5A is refused (test 7); 02, l: under release 1, and not under release 2
  pub capital_sum : sum_of (text "!99209001029") ≡ 0x25A
  pub capital : (release : ℕ) → sum_said release (text "!992090010295A\r\n") ≡ True
  pub small : (sum_said 1 (text "!992090010295a\r\n") ≡ Wrong) × (sum_said 2 (text "!992090010295a\r\n") ≡ True)
  -- 02, l: the sum is of the bytes as sent, 2C4H, and not of their capitals, 2A4H; '@@' switches it off all the same
  pub as_sent : (sum_said 2 (text "!9924e0012C00C4\r\n") ≡ True) × (sum_said 2 (text "!9924e0012C00A4\r\n") ≡ Wrong)
  pub small_off : (sum_said 1 (text "!9924e0012C00@@\r\n") ≡ SwitchedOff) × (sum_said 2 (text "!9924e0012C00@@\r\n") ≡ SwitchedOff)
  -- Bench listing: the frames are shaped and for station 99H; the error reply to the third
  pub bench : shaped (text "!99200001234567829\r\n") ≡ true
  -- 02, c: 200H frames of 19, 20 and 21 bytes, whatever stands for the station; another message's length isn't test 6's
  pub test_calls :
      (shaped (text "!99200123456789@@\r\n") ≡ false) × (shaped (text "!99200\r\n\r\n!99200@@\r\n") ≡ true) × (shaped (text "!\r\n2000123456789012\r\n") ≡ false)
  pub other : shaped (text "!99201123456789@@\r\n") ≡ true
  pub id_cut : (has_testID (text "!9920") ≡ false) × (has_testID (text "!99200") ≡ true)
  pub ours : (release : ℕ) → station_passes release 0x99 (text "!99200001234567829\r\n") ≡ true
  pub not_ours : (release : ℕ) → station_passes release 0x99 (text "!9A200001234567829\r\n") ≡ false
  -- 02, l: station 9AH in a small letter
  pub small_station : (station_passes 1 0x9A (text "!9a200001234567829\r\n") ≡ false) × (station_passes 2 0x9A (text "!9a200001234567829\r\n") ≡ true)
  pub unknown : error_of 0x99 101 ≡ text "&991012A\r\n"
  -- Proved cases, 7: the reply to `!992100012C0490`
  pub lot_code_lem : reply_of normal 0x99 (text "2100012C0430303437") ≡ text "#992100012C043030343729\r\n"
