use mathlib.Core.Path.{◌∙◌, sym}
use Rattle.digits.specs.Digits.{field_of}
use Rattle.digits.proofs.Inverse.{rules}
use Rattle.digits.proofs.read_field.Goals as goal

pub returns-then-all_admitted : goal.returns-then-all_admitted
unfolding field_of
returns-then-all_admitted c =
    rw (← c.all_admitted.ensures, c.if-all_admitted.true, c.value.ensures)

pub returns-else-all_admitted : goal.returns-else-all_admitted
unfolding field_of
returns-else-all_admitted c = rw (← c.all_admitted.ensures, c.if-all_admitted.false)

pub value-requires : goal.value-requires
value-requires c =
    (c.requires, (rules c.args.s.now).digits c.args.release (sym c.all_admitted.ensures ∙ c.if-all_admitted.true))
