use Rattle.messages.proofs.Shows.{shown_refusal}
use Rattle.board.proofs.Checked.{showing}
use Rattle.board.proofs.cabinet_check.Goals as goal

pub returns : goal.returns
returns c =
    showing (rw (c.read_axes.ensures, c.settings_by.ensures) at c.check-checked.ensures)
    (shown_refusal _ c.show-shown.ensures)
    c.sum_code.ensures
