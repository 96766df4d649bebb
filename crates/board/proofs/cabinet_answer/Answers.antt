use Rattle.link.proofs.Checking.{same_act}
use Rattle.board.proofs.Answered.{same_cabinet}
use Rattle.board.proofs.cabinet_answer.Goals as goal

pub returns : goal.returns
returns c = same_cabinet _ (same_act _) c.cabinet_act.ensures
