-- An outcome with its sum as a code.
use Prim.Native.Nat.{ℕ}
use mathlib.Core.Path.{◌≡◌, refl, ap, ◌∙◌}
use mathlib.Core.List.{List}
use Rattle.calls.specs.Calls.{Areas, Call, Outcome, sum_code}
use Rattle.link.specs.Contract.{GivenBack, Gives}
use Rattle.link.proofs.Checking.{same_gives}
use Rattle.board.specs.Calls.{CabinetGives}

pub coded : {f : Call → Outcome} {c : Call} {r : GivenBack} {areas' : Areas} {reply' : List ℕ} {code : ℕ} → code ≡ sum_code r.sum → Gives f c r areas' reply'
    → CabinetGives f c r.number r.length r.kept.used r.kept.effective code areas' reply'
coded e a =
    record {
      gives =
          record {
            number_is = a.number_is;
            length_is = a.length_is;
            kept_is = a.kept_is;
            sum_is = refl;
            areas_are = a.areas_are;
            reply_is = a.reply_is;
          };
      sum_is = e ∙ ap sum_code a.sum_is;
    }

-- so it is of an equal outcome
pub same_cabinet : {f g : Call → Outcome} (c : Call) {n l u v s : ℕ} {areas' : Areas} {reply' : List ℕ} → f c ≡ g c → CabinetGives f c n l u v s areas' reply'
    → CabinetGives g c n l u v s areas' reply'
same_cabinet c e x = coded x.sum_is (same_gives c e x.gives)
