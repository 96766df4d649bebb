use mathlib.Core.Path.{refl}
use Rattle.axes.proofs.no_records.Goals as goal

pub returns : goal.returns
returns c = refl
