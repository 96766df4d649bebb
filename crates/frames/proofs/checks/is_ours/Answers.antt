use Rattle.frames.specs.Frame.{station_passes}
use Rattle.frames.proofs.checks.is_ours.Goals as goal

pub returns : goal.returns
unfolding station_passes
returns c = c.is_number.ensures
