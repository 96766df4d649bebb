-- Cabinet releases worked through by computing (02, l): the boundary between them, what meets the premises of demand 2's statements, and boards that
-- break these.
use Rattle.std.specs.Prelude.{ℕ, ◌+◌, ◌≡◌, true, cond, not, ◌&&◌, ◌⊎◌, [], ◌++◌, map, eqb, drop, replicate, Some}
use Prim.Native.String.{String}
use Rattle.digits.specs.Digits.{within, admitted, capital, capitals}
use Rattle.digits.specs.Text.{text}
use Rattle.frames.specs.Frame.{normal, station_in, message_in, has_testID, sum_true, sum_off, reply_of}
use Rattle.frames.specs.declared.checks.Sum.TheVariants.{Wrong}
use Rattle.calls.specs.Calls.{Areas, Sent, Call, Outcome, area_in, unanswered}
use Rattle.axes.specs.Records.{no_axes}
use Rattle.orders.specs.Orders.{said_by}
use Rattle.messages.specs.Asked.{Asked, Refused, Order}
use Rattle.link.specs.Answer.{held, asked, answer_of}
use Rattle.back.specs.Back.{back_of}
use Rattle.demands.specs.History.{Conduct}
use Rattle.demands.specs.Releases.{under, EitherSize, CapitalsOnly, Either, RepliesInCapitals, SameUnderTwo}
use Rattle.trials.specs.Cases.{blank, sending_to}
use Rattle.trials.specs.Useless.{honest_but, saying, when_accepted}

-- a frame to station 9AH under a release, over the bench's areas or those that another call left
abbrev pub asks : Areas → ℕ → String → Call
asks a release frame = record { sent = sending_to 0x9A release (text frame); areas = a }

abbrev pub numbered : ℕ → String → ℕ
numbered release frame = (answer_of (asks blank release frame)).number

-- a frame refused with a number under release 1 and accepted under release 2
abbrev pub Boundary : String → ℕ → Type 0
Boundary frame number = (numbered 1 frame ≡ number) × (numbered 2 frame ≡ 0)

-- a 24EH with small letters in every field, and capitals beside them in its content: columns 300 and 301 are set to 4AH and 4CH
abbrev pub all_small : Call
all_small = asks blank 2 "!9a24e0012c024a4C1a\r\n"

-- the host of a release
abbrev pub host : ℕ → Sent
host release = sending_to 0x9A release []

pub record ReleaseExamples : Type 0 where
  -- one small letter, in ID, station, content and SC
  pub in_id : Boundary "!9A24e0012C0130@@\r\n" 101
  pub in_station : Boundary "!9a208@@\r\n" 8
  pub in_content : Boundary "!9A2100012c01@@\r\n" 102
  pub in_sc : Boundary "!9A2120Fa6\r\n" 7
  -- the same in capitals is accepted under both, and so is a 200H with any bytes, which come back as they were sent
  pub no_letter : (release : ℕ) → (release ≡ 1) ⊎ (release ≡ 2) → numbered release "!9A2120FA6\r\n" ≡ 0
  pub ten_bytes : (release : ℕ) → (release ≡ 1) ⊎ (release ≡ 2) → (answer_of (asks blank release "!9A200abcdefABCD8C\r\n")).text ≡ text "#9A200abcdefABCD8E\r\n"
  -- so does one with small letters, and a capital, in station and SC
  pub small_test_call : (answer_of (asks blank 2 "!9a200abcdefABCDaC\r\n")).text ≡ text "#9A200abcdefABCD8E\r\n"
  -- no other letter; a sum of capitals is none
  pub not_g : (numbered 2 "!9A2100012g01@@\r\n" ≡ 102) × (numbered 2 "!9A24g0012C0130@@\r\n" ≡ 101) × (numbered 2 "!9g208@@\r\n" ≡ 8)
  pub as_sent : (numbered 2 "!9a20835\r\n" ≡ 7) × (numbered 2 "!9a20855\r\n" ≡ 0)
  -- replies are in capitals: station and ID; the fields that a 210H repeats; what was stored, asked for by a host of release 1
  pub reply : (answer_of all_small).text ≡ text "#9A24E48\r\n"
  pub repeated : (answer_of (asks blank 2 "!9A2100012c01@@\r\n")).text ≡ text "#9A2100012C0100F7\r\n"
  pub read_back : (answer_of (asks (answer_of all_small).areas 1 "!9A2100012C0296\r\n")).text ≡ text "#9A2100012C024A4C84\r\n"
  -- 13: neither release, after 5 and before 6
  pub none : (numbered 0 "!9A208@@\r\n" ≡ 13) × (numbered 3 "!9A208@@\r\n" ≡ 13) × (numbered 255 "!9A208@@\r\n" ≡ 13)
  pub before_six : (numbered 3 "" ≡ 13) × (numbered 2 "" ≡ 6)
  pub after_five :
      (answer_of (record { sent = record { frame = []; axes = no_axes; settings = (host 3).settings; reply = replicate 1024 0 }; areas = blank })).number ≡ 5
  -- an error reply depends on the release: 102, and 103
  pub errors : (numbered 1 "!9A208a@@\r\n" ≡ 102) × (numbered 2 "!9A208a@@\r\n" ≡ 103)
  -- the premises: letters of either size, of a 24EH and of a 200H; a frame that release 1 accepts
  pub either_size : EitherSize (host 2) true (text "9a") (text "24e0012c024a4C") (text "1a") (text "24E0012C024A4C")
  pub either_test_call : EitherSize (host 2) true (text "9a") (text "200abcdefABCD") (text "aC") (text "200abcdefABCD")
  pub accepted : (answer_of (under 1 (asks blank 2 "!9A208@@\r\n"))).number ≡ 0

-- boards that go by one rule alone, whatever the release
abbrev pub capitals_always : Conduct
capitals_always = record { answer = λ c. answer_of (under 1 c); back = back_of }

abbrev pub either_always : Conduct
either_always = record { answer = λ c. answer_of (under 2 c); back = back_of }

-- one that replies the ID as it was sent
abbrev pub withID : Call → Asked → Outcome → Outcome
withID c (Refused number) o = o
withID c (Order m start count) o =
    saying (reply_of normal c.sent.settings.station (message_in c.sent.frame ++ drop 3 (said_by m.does (held c) c.sent c.areas.kept m start count (area_in m.tag c.areas)))) o

abbrev pub id_as_sent : Conduct
id_as_sent = honest_but (λ c o. when_accepted c (withID c (asked c)) o)

-- one that takes the sum of capitals
abbrev pub sum_of_capitals : Conduct
sum_of_capitals =
    honest_but (λ c o.
    when_accepted c (λ r. cond (not (sum_off c.sent.frame) && not (sum_true 2 (capitals c.sent.frame))) (unanswered (Some Wrong) 7 c.areas) r) o)

-- one that says a 200H's ten bytes back in capitals where its station came in small letters
abbrev pub ten_in_capitals : Conduct
ten_in_capitals =
    honest_but (λ c o.
    cond (has_testID c.sent.frame && not (admitted 1 (station_in c.sent.frame))) (saying (map capital o.text) o) o)

-- one that replies in small letters, and one that does so under release 2
abbrev pub small : ℕ → ℕ
small b = cond (within 0x41 0x46 b) (b + 0x20) b

abbrev pub small_always : Conduct
small_always = honest_but (λ c o. saying (map small o.text) o)

abbrev pub small_replies : Conduct
small_replies = honest_but (λ c o. cond (eqb c.sent.settings.release 2) (saying (map small o.text) o) o)

pub record ReleasesBroken : Type 0 where
  pub capitals_always_lem : Either capitals_always → ⊥
  pub either_always_lem : CapitalsOnly either_always → ⊥
  pub id_as_sent_lem : Either id_as_sent → ⊥
  pub sum_of_capitals_lem : Either sum_of_capitals → ⊥
  pub ten_in_capitals_lem : Either ten_in_capitals → ⊥
  pub small_always_lem : RepliesInCapitals small_always → ⊥
  pub small_replies_lem : SameUnderTwo small_replies → ⊥
