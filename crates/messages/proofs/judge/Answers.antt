use mathlib.Core.Path.{refl, sym, ◌∙◌}
use Rattle.messages.specs.Asked.{asked_of, judged, asked_rows}
use Rattle.messages.proofs.Shapes.{shaped}
use Rattle.messages.proofs.Judged.{same_judged}
use Rattle.messages.proofs.judge.Goals as goal

pub returns-in_default : goal.returns-in_default
unfolding asked_of judged asked_rows
returns-in_default c = same_judged _ _ _ refl (sym c.in_default.is ∙ c.message_in.ensures) refl

pub judge_content-requires : goal.judge_content-requires
judge_content-requires c =
    ((shaped c.args.release c.args.frame.now _ (sym c.message_in.ensures ∙ c.in-Some.is)).narrow, c.requires.1)

pub returns : goal.returns
unfolding asked_of
returns c =
    same_judged _ _ _ c.judge_content.ensures (sym c.in-Some.is ∙ c.message_in.ensures)
    c.content.ensures
