-- `meter::tests::counts_fit` meets its contract.
use Rattle.std.proofs.Common.{arith}
use Rattle.meter.specs.Meter.{counts_fit}
use Rattle.meter.proofs.tests.counts_fit.Goals as goal

pub returns-then-meter-n-2 : goal.returns-then-meter-n-2
unfolding counts_fit
returns-then-meter-n-2 c = grind arith

pub returns-else-meter-n-2 : goal.returns-else-meter-n-2
unfolding counts_fit
returns-else-meter-n-2 c = grind arith
