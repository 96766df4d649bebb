use Rattle.std.proofs.Common.{rules}
use mathlib.Core.Path.{refl}
use Rattle.kinds.specs.Kinds.{points_tag, columns_tag, integers_tag, flags_tag}
use Rattle.link.proofs.Outcomes.{last_kind, can_carry, performed}
use Rattle.link.proofs.perform.Goals as goal

pub carry_out-requires : goal.carry_out-requires
carry_out-requires c = can_carry c.requires points_tag refl (λ _. c.in-80.is)

pub returns-in-80-clause-performs : goal.returns-in-80-clause-performs
returns-in-80-clause-performs c = performed c.requires points_tag refl (λ _. c.in-80.is) c.carry_out.ensures.says c.carry_out.ensures.stores c.carry_out.ensures.effective_value

pub carry_out-requires-in-83 : goal.carry_out-requires-in-83
carry_out-requires-in-83 c = can_carry c.requires columns_tag refl (λ _. c.in-83.is)

pub returns-in-83-clause-performs : goal.returns-in-83-clause-performs
returns-in-83-clause-performs c = performed c.requires columns_tag refl (λ _. c.in-83.is) c.carry_out-in-83.ensures.says c.carry_out-in-83.ensures.stores c.carry_out-in-83.ensures.effective_value

pub carry_out-requires-in-73 : goal.carry_out-requires-in-73
carry_out-requires-in-73 c = can_carry c.requires integers_tag refl (λ _. c.in-73.is)

pub returns-in-73-clause-performs : goal.returns-in-73-clause-performs
returns-in-73-clause-performs c = performed c.requires integers_tag refl (λ _. c.in-73.is) c.carry_out-in-73.ensures.says c.carry_out-in-73.ensures.stores c.carry_out-in-73.ensures.effective_value

pub carry_out-requires-in_default : goal.carry_out-requires-in_default
carry_out-requires-in_default c =
    can_carry c.requires flags_tag refl (last_kind _ _ (search rules) (search rules) (search rules))

pub returns-in_default-clause-performs : goal.returns-in_default-clause-performs
returns-in_default-clause-performs c =
    performed c.requires flags_tag refl (last_kind _ _ (search rules) (search rules) (search rules)) c.carry_out-in_default.ensures.says c.carry_out-in_default.ensures.stores c.carry_out-in_default.ensures.effective_value
