-- The three demands, each from its own file.
use Rattle.demands.specs.Demands.{Demands}
use Rattle.demands.proofs.Refused.{one_number, no_other_number, changes_nothing, one_reply, errors_agree, query_changes_nothing}
use Rattle.demands.proofs.Replied.{every_reply, normal_reply, test_call_back}
use Rattle.demands.proofs.Lengths.{reply_fits}
use Rattle.demands.proofs.Histories.{every_history}
use Rattle.demands.proofs.Survived.{every_digit_survives, heard_again}
use Rattle.demands.proofs.TestCalls.{test_calls}
use Rattle.demands.proofs.Releases.{releases, same_answer}
use Rattle.demands.proofs.SwitchedOff.{switched_off, contract_as_before}
use Rattle.demands.proofs.OneByte.{one_byte}
use Rattle.demands.proofs.KeptCount.{kept_count}
use Rattle.demands.proofs.LookFirst.{look_first, contracts_as_one, cabinet_as_one, cabinet_looks}

pub demands : Demands
demands =
    record {
      demand1 =
          record {
            one_number = one_number;
            no_other_number = no_other_number;
            changes_nothing = changes_nothing;
            one_reply = one_reply;
            errors_agree = errors_agree;
            query_changes_nothing = query_changes_nothing;
          };
      demand2 =
          record {
            every_reply = every_reply;
            normal_reply = normal_reply;
            reply_fits = reply_fits;
            test_call_back = test_call_back;
            every_digit_survives = every_digit_survives;
            heard_again = heard_again;
            test_calls = test_calls;
            releases = releases;
            same_answer = same_answer;
            switched_off = switched_off;
            contract_as_before = contract_as_before;
            one_byte = one_byte;
            look_first = look_first;
            contracts_as_one = contracts_as_one;
            cabinet_as_one = cabinet_as_one;
            cabinet_looks = cabinet_looks;
            kept_count = kept_count;
          };
      demand3 = every_history;
    }
