use Rattle.std.proofs.Common.{rules}
use Rattle.board.proofs.Answered.{coded}
use Rattle.board.proofs.cabinet_act.Goals as goal

pub returns : goal.returns
returns c =
    let gives = coded c.sum_code.ensures (rw (c.read_axes.ensures, c.settings_by-settings.ensures) at c.act-answered.ensures.acts) in
    search rules
