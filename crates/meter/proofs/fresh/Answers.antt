-- `meter::fresh` meets its contract.
use mathlib.Core.Path.{refl}
use Rattle.meter.specs.Meter.{started}
use Rattle.meter.proofs.fresh.Goals as goal

pub returns : goal.returns
unfolding started
returns c = refl
