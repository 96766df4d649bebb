-- The customer's three demands, as they are stated of our board, in one look. Beside them stand the contracts (Sole.antt: each determines its result).
use Rattle.demands.specs.Refused.{OneNumber, NoOtherNumber, ChangesNothing, OneReply, ErrorsAgree, QueryChangesNothing}
use Rattle.demands.specs.Replied.{EveryReply, NormalReply, ReplyFits, TestCallBack}
use Rattle.demands.specs.History.{ours, EveryHistory}
use Rattle.demands.specs.Survive.{HeardAgain, EveryDigitSurvives}
use Rattle.demands.specs.TestCalls.{TestCalls}
use Rattle.demands.specs.Releases.{Releases, SameAnswer}
use Rattle.demands.specs.SwitchedOff.{SwitchedOffRule, ContractAsBefore}
use Rattle.demands.specs.OneByte.{OneByte}
use Rattle.demands.specs.KeptCount.{KeptCount}
use Rattle.demands.specs.LookFirst.{our_panel, LookFirst, ContractsAsOne, CabinetAsOne, CabinetLooks}

-- "A frame that is refused changes no point, no column and nothing in the journal, and a refusal has one number and one fixed reply, or none."; no
-- integer and no flag either (02, a)
pub record Demand1 : Type 0 where
  pub one_number : OneNumber
  pub no_other_number : NoOtherNumber
  pub changes_nothing : ChangesNothing
  pub one_reply : OneReply
  pub errors_agree : ErrorsAgree
  pub query_changes_nothing : QueryChangesNothing

-- "the reply, byte for byte", beside the contracts, "and the store's numbers and codes survive writing and reading back with every digit"
pub record Demand2 : Type 0 where
  pub every_reply : EveryReply
  pub normal_reply : NormalReply
  pub reply_fits : ReplyFits
  pub test_call_back : TestCallBack
  pub every_digit_survives : EveryDigitSurvives ours
  pub heard_again : HeardAgain
  -- "Demand 2 reads so from here" (02, c)
  pub test_calls : TestCalls
  -- "release 1, capitals only; release 2, either", and what release 1 accepts is answered the same (02, l)
  pub releases : Releases ours
  pub same_answer : SameAnswer
  -- "With the setting on, demand 2 reads as before"; where '@@' is forbidden; and "which it was" (02, f)
  pub switched_off : SwitchedOffRule ours
  pub contract_as_before : ContractAsBefore
  -- "take a frame with a true SC [..], and change exactly one of its bytes": what the sum catches of it (02, n)
  pub one_byte : OneByte ours
  -- "Checking and then doing, with nothing between, equals the old single call" (02, g)
  pub look_first : LookFirst our_panel
  pub contracts_as_one : ContractsAsOne
  pub cabinet_as_one : CabinetAsOne
  pub cabinet_looks : CabinetLooks
  -- "it always equals the count of slots with a non-zero pattern", "only 208H trusts the kept count", and refusal 11 (02, b)
  pub kept_count : KeptCount ours

-- "After any sequence of frames and steps back, points and columns are exactly what the accepted writes not taken back would leave"; "all four kinds"
-- (02, a), and the count that is kept true (02, b)
abbrev pub Demand3 : Type 0
Demand3 = EveryHistory ours

pub record Demands : Type 0 where
  pub demand1 : Demand1
  pub demand2 : Demand2
  pub demand3 : Demand3
