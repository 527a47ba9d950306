-- `meter::arithmetic::with_gap` meets its contract.
use mathlib.Core.Path.{refl}
use Rattle.meter.specs.Meter.{with_gap}
use Rattle.meter.proofs.arithmetic.with_gap.Goals as goal

pub returns : goal.returns
unfolding with_gap
returns c = refl
