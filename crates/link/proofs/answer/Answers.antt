use Rattle.link.proofs.Checking.{same_act, same_gives}
use Rattle.link.proofs.answer.Goals as goal

pub returns-clause-answers : goal.returns-clause-answers
returns-clause-answers c = same_gives _ (same_act _) c.act.ensures.acts
