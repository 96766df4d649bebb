use mathlib.Core.Path.{sym, ◌∙◌}
use lib.ListN.{take, drop}
use Rattle.digits.proofs.Fields.{is_number, not_digits_lem}
use Rattle.table.specs.Table.{message_of}
use Rattle.messages.proofs.message_in.Goals as goal

pub returns-in_err-id : goal.returns-in_err-id
unfolding message_of
returns-in_err-id c =
    let a = c.args in
    c.from_residual.ensures ∙ sym (rw (not_digits_lem a.release (take 3 (drop 3 a.frame.now)) (sym c.in_err-id.was ∙ c.read_field.ensures)))

pub returns : goal.returns
unfolding message_of
returns c =
    let a = c.args in
    let e = is_number a.release (take 3 (drop 3 a.frame.now)) _ (sym c.in_ok-id.was ∙ c.read_field.ensures) in
    rw (e.0, c.numbered.ensures, e.1)
