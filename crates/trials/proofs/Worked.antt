-- The proved cases, by computing.
use mathlib.Core.Path.{refl}
use Rattle.trials.specs.Cases.{ProvedCases}
use Rattle.trials.proofs.Computing.{a_call}

pub proved_cases : ProvedCases
unfolding a_call
proved_cases =
    record {
      case1 = (refl, refl);
      case1_accepted = refl;
      case2 = refl;
      case3 = refl;
      case4 = refl;
      case5 = refl;
      case6 = refl;
      cases4_6 = refl;
      cases4_6_point = refl;
      case7 = refl;
      case8 = (refl, refl);
      case9 = refl;
      case9_slot = refl;
      case9_listed = refl;
      case10 = refl;
      case10_stored = refl;
      case10_listed = refl;
      case11 = refl;
      case12 = (refl, refl);
      case12_answered = (refl, refl);
    }
