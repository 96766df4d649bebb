use mathlib.Core.Path.{sym, ◌∙◌}
use lib.ListN.{take, drop}
use Rattle.digits.proofs.Bools.{was_not}
use Rattle.digits.proofs.Fields.{is_number, not_digits_lem}
use Rattle.table.specs.Table.{message_of}
use borrow.Author.Tests.{not-true}
use Rattle.refusals.proofs.Tested.{by_id}
use Rattle.refusals.proofs.test_count.Goals as goal

pub returns-in-Some : goal.returns-in-Some
returns-in-Some c =
    let a = c.args in
    let e = is_number a.release (take 3 (drop 3 a.frame.now)) _ (sym c.in-Some.is ∙ c.read_field.ensures) in
    by_id a.release a.frame.now a.points.now a.effective e (was_not (sym c.fits_count.ensures ∙ c.if-not-fits_count.true))

pub returns-in_default : goal.returns-in_default
returns-in_default c =
    let a = c.args in
    let e = is_number a.release (take 3 (drop 3 a.frame.now)) _ (sym c.in-Some.is ∙ c.read_field.ensures) in
    by_id a.release a.frame.now a.points.now a.effective e (not-true _ (sym c.fits_count.ensures ∙ c.if-not-fits_count.false))

pub returns-in_default-2 : goal.returns-in_default-2
unfolding message_of
returns-in_default-2 c =
    let a = c.args in
    rw (not_digits_lem a.release (take 3 (drop 3 a.frame.now)) (sym c.in_default.is ∙ c.read_field.ensures))
